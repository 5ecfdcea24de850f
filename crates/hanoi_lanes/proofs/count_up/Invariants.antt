-- `count_up` meets its contract: what is still carried is to be added at the next plane. Assumes nothing.
use Rattle.hanoi_lanes.proofs.Counts.{Rising}
use Rattle.hanoi_lanes.proofs.count_up.Given as goal

abbrev pub invariant-loop-p : goal.invariant-loop-p
invariant-loop-p l = Rising l.initial.planes l.lanes l.planes l.carry l.p-index
