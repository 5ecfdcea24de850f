-- The number of each refusal (document 01, and for 18 and 19 document 02), and the refusal of a number.
use Rattle.std.specs.Prelude.{ℕ, cond, eqb}
use Rattle.refusals.specs.declared.Refusal.{Refusal}
use Rattle.refusals.specs.declared.Refusal.TheVariants.{Truncated, UnknownCommand, Misplaced, OutOfRange, Repeated, Incomplete, IllegalPolicy, Lengths, TooManyNodes, TooManyStates, NoSuchState, NoSuchLetter, NoSuchTarget, EmptyLoop, DifferentGraphs, OwnersLength, NoSuchOwner, NotHanoi, TooManyMarkSets}

abbrev pub number : Refusal → ℕ
number Truncated = 1
number UnknownCommand = 2
number Misplaced = 3
number OutOfRange = 4
number Repeated = 5
number Incomplete = 6
number IllegalPolicy = 7
number Lengths = 8
number TooManyNodes = 9
number TooManyStates = 10
number NoSuchState = 11
number NoSuchLetter = 12
number NoSuchTarget = 13
number EmptyLoop = 14
number DifferentGraphs = 15
number OwnersLength = 16
number NoSuchOwner = 17
number NotHanoi = 18
number TooManyMarkSets = 19

-- the refusal with a number from 1 to 19; no other number is asked for
abbrev pub refusal : ℕ → Refusal
refusal n =
    cond (eqb n 1) Truncated
    (cond (eqb n 2) UnknownCommand
    (cond (eqb n 3) Misplaced
    (cond (eqb n 4) OutOfRange
    (cond (eqb n 5) Repeated
    (cond (eqb n 6) Incomplete
    (cond (eqb n 7) IllegalPolicy
    (cond (eqb n 8) Lengths
    (cond (eqb n 9) TooManyNodes
    (cond (eqb n 10) TooManyStates
    (cond (eqb n 11) NoSuchState
    (cond (eqb n 12) NoSuchLetter
    (cond (eqb n 13) NoSuchTarget
    (cond (eqb n 14) EmptyLoop
    (cond (eqb n 15) DifferentGraphs
    (cond (eqb n 16) OwnersLength
    (cond (eqb n 17) NoSuchOwner
    (cond (eqb n 18) NotHanoi TooManyMarkSets)))))))))))))))))
