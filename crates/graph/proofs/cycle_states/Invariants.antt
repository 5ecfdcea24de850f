-- `graph::cycle_states` meets its contract. The invariant: s has those of the states passed that have v's row. Assumes nothing.
use mathlib.Core.Path.{◌≡◌}
use Prim.Native.Nat.{◌-◌, ◌≤◌}
use lib.Dec.{eqb}
use lib.ListN.{get_or}
use Rattle.masks.specs.Masks.{mask_of}
use Rattle.graph.proofs.cycle_states.Given as goal

abbrev pub invariant-loop-w : goal.invariant-loop-w
invariant-loop-w l = (l.w ≤ 16) × (l.s ≡ mask_of (λ u. eqb (get_or l.rows u 0) l.row) l.w)

abbrev pub decreases-loop-w : goal.decreases-loop-w
decreases-loop-w l = 16 - l.w
