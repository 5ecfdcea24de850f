-- A refusal is known by its number.
use Rattle.std.proofs.Common.{ℕ, ◌≡◌, refl}
use Rattle.refusals.specs.declared.Refusal.{Refusal}
use Rattle.refusals.specs.declared.Refusal.TheVariants.{Truncated, UnknownCommand, Misplaced, OutOfRange, Repeated, Incomplete, IllegalPolicy, Lengths, TooManyNodes, TooManyStates, NoSuchState, NoSuchLetter, NoSuchTarget, EmptyLoop, DifferentGraphs, OwnersLength, NoSuchOwner, NotHanoi, TooManyMarkSets}
use Rattle.refusals.specs.Refusals.{number, refusal}

pub refusal-number : (e : Refusal) → refusal (number e) ≡ e
refusal-number Truncated = refl
refusal-number UnknownCommand = refl
refusal-number Misplaced = refl
refusal-number OutOfRange = refl
refusal-number Repeated = refl
refusal-number Incomplete = refl
refusal-number IllegalPolicy = refl
refusal-number Lengths = refl
refusal-number TooManyNodes = refl
refusal-number TooManyStates = refl
refusal-number NoSuchState = refl
refusal-number NoSuchLetter = refl
refusal-number NoSuchTarget = refl
refusal-number EmptyLoop = refl
refusal-number DifferentGraphs = refl
refusal-number OwnersLength = refl
refusal-number NoSuchOwner = refl
refusal-number NotHanoi = refl
refusal-number TooManyMarkSets = refl
