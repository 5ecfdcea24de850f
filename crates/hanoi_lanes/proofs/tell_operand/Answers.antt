-- `tell_operand` meets its contract: lane by lane. Assumes nothing.
use Rattle.hanoi_lanes.proofs.Tells.{tells-operand}
use Rattle.hanoi_lanes.proofs.tell_operand.Goals as goal

pub returns : goal.returns
returns c = tells-operand _ _ _ c.without.ensures
