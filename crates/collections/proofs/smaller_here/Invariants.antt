-- `collections::smaller_here` meets its contract. The invariant: w has the sets without a colour below i. Assumes nothing.
use Prim.Native.Nat.{◌-◌, ◌≤◌}
use Rattle.collections.specs.Collections.{Fewer}
use Rattle.collections.proofs.smaller_here.Given as goal

abbrev pub invariant-loop-i : goal.invariant-loop-i
invariant-loop-i l = (l.i ≤ 6) × Fewer l.l l.i l.w

abbrev pub decreases-loop-i : goal.decreases-loop-i
decreases-loop-i l = 6 - l.i
