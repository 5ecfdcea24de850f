use mathlib.Core.Path.{◌≡◌, ◌∙◌}
use native.Mathlib.Omega.{arith}
use lib.ListN.{length}
use Rattle.colour_sets.specs.Order.{sized}
use Rattle.colour_sets.proofs.Counting.{Sought, sought-all, sought-some, sought-less, sought-here, one-full}
use Rattle.colour_sets.proofs.set_at.Goals as goal

pub loop-n-init : goal.loop-n-init
loop-n-init c = (sought-all c.args.position (omega arith), one-full)

pub one_fewer-n-requires : goal.one_fewer-n-requires
one_fewer-n-requires c = let l = c.loop-n in (sought-some _ _ _ l.invariant.0 (omega (arith, l.invariant.1)), l.invariant.0.few, l.invariant.1)

pub overflow_sub-c : goal.overflow_sub-c
overflow_sub-c c = let l = c.loop-n in sought-some _ _ _ l.invariant.0 (omega (arith, l.invariant.1))

pub loop-n-smaller : goal.loop-n-smaller
loop-n-smaller c = let l = c.loop-n in omega (arith, sought-some _ _ _ l.invariant.0 (omega (arith, l.invariant.1)))

pub loop-n-preserved : goal.loop-n-preserved
loop-n-preserved c = let l = c.loop-n in (rw l.invariant.1 (sought-less _ _ _ l.invariant.0 (omega (arith, l.invariant.1))), c.one_fewer-n.ensures)

pub ranked-requires : goal.ranked-requires
ranked-requires c = let l = c.loop-n in (l.invariant.0.some, omega (arith, l.invariant.1))

pub returns : goal.returns
returns c = let l = c.loop-n in c.ranked.ensures ∙ sought-here _ _ _ l.invariant.0 (omega (arith, l.invariant.1))
