-- `read_marks` meets its contract: `marks` holds the marks read so far. Assumes nothing.
use Prim.Native.Nat.{◌-◌}
use lib.ListN.{length}
use Rattle.hanoi_body.proofs.Edges.{Marking}
use Rattle.hanoi_body.proofs.read_marks.Given as goal

abbrev pub invariant-loop-first : goal.invariant-loop-first
invariant-loop-first l = Marking l.text l.at l.sets l.i l.marks

abbrev pub decreases-loop-first : goal.decreases-loop-first
decreases-loop-first l = length l.text - l.i
