-- The loop: the letters passed and those to come decide together. Assumes nothing.
use mathlib.Core.Path.{◌≡◌}
use mathlib.Core.Bool.{◌&&◌}
use lib.ListN.{drop}
use Rattle.judging.specs.Judging.{in_range}
use Rattle.judging.proofs.in_range.Given as goal

abbrev pub invariant-loop-letter : goal.invariant-loop-letter
invariant-loop-letter l = l.b && in_range l.letters (drop l.letter-index l.word) ≡ in_range l.letters l.word
