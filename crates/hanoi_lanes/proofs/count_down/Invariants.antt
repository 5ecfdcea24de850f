-- `count_down` meets its contract: what is still borrowed is to be taken at the next plane. Assumes nothing.
use Rattle.hanoi_lanes.proofs.Counts.{Falling}
use Rattle.hanoi_lanes.proofs.count_down.Given as goal

abbrev pub invariant-loop-p : goal.invariant-loop-p
invariant-loop-p l = Falling l.initial.planes l.lanes l.planes l.borrow l.p-index
