-- `colour_sets::set_at` meets its contract: the set sought has rank `rank` among those of at most c members. Assumes nothing.
use mathlib.Core.Path.{◌≡◌, ◌∙◌}
use native.Mathlib.Omega.{arith}
use lib.ListN.{length}
use Rattle.colour_sets.specs.Order.{sized}
use Rattle.colour_sets.proofs.Counting.{Sought, sought-all, sought-some, sought-less, sought-here, one-full}
use Rattle.colour_sets.proofs.set_at.Given as goal

abbrev pub invariant-loop-n : goal.invariant-loop-n
invariant-loop-n l = Sought l.position l.c l.rank × (l.n ≡ length (sized l.c))

abbrev pub decreases-loop-n : goal.decreases-loop-n
decreases-loop-n l = l.c
