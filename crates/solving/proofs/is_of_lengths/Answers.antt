-- `is_of_lengths` meets its contract. Assumes nothing.
use mathlib.Core.Path.{◌≡◌, refl, sym, ap, ◌∙◌}
use denote.Enum.Bare.{sameb}
use lib.Dec.{eqb}
use Rattle.std.specs.Prelude.{Result}
use Rattle.refusals.specs.declared.Refusal.{Refusal}
use Rattle.refusals.specs.declared.Refusal.TheVariants.{Truncated, UnknownCommand, Misplaced, OutOfRange, Repeated, Incomplete, IllegalPolicy, Lengths, TooManyNodes, TooManyStates, NoSuchState, NoSuchLetter, NoSuchTarget, EmptyLoop, DifferentGraphs, OwnersLength, NoSuchOwner, NotHanoi, TooManyMarkSets}
use Rattle.refusals.specs.contracts.Refusal.{the_type}
use Rattle.refusals.specs.Refusals.{number}
use Rattle.builder.specs.declared.Counts.{Counts}
use Rattle.builder.specs.Tables.{number_of}
use Rattle.solving.proofs.is_of_lengths.Goals as goal

eight : (e : Refusal) → sameb the_type e Lengths ≡ eqb (number e) 8
eight Truncated = refl
eight UnknownCommand = refl
eight Misplaced = refl
eight OutOfRange = refl
eight Repeated = refl
eight Incomplete = refl
eight IllegalPolicy = refl
eight Lengths = refl
eight TooManyNodes = refl
eight TooManyStates = refl
eight NoSuchState = refl
eight NoSuchLetter = refl
eight NoSuchTarget = refl
eight EmptyLoop = refl
eight DifferentGraphs = refl
eight OwnersLength = refl
eight NoSuchOwner = refl
eight NotHanoi = refl
eight TooManyMarkSets = refl

pub returns-in-Err : goal.returns-in-Err
returns-in-Err c = c.eq.ensures ∙ eight c.in-Err.refusal ∙ ap (λ (x : Result Counts Refusal). eqb (number_of x) 8) (sym c.in-Err.is)
