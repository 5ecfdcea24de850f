-- `read_formula` meets its contract: an operand or a sign comes next, and each lane shows what is told so far. Assumes nothing.
use Prim.Native.Nat.{◌-◌}
use lib.ListN.{length}
use Rattle.hanoi_formula.proofs.Formulas.{Going}
use Rattle.hanoi_formula.proofs.read_formula.Given as goal

abbrev pub invariant-loop-operand_next : goal.invariant-loop-operand_next
invariant-loop-operand_next l = Going l.text l.at l.sets l.all l.lanes l.operand_next l.i l.depth l.bar l.t l.planes

abbrev pub decreases-loop-operand_next : goal.decreases-loop-operand_next
decreases-loop-operand_next l = length l.text - l.i
