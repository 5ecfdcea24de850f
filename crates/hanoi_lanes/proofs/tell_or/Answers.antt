-- `tell_or` meets its contract: lane by lane. Assumes nothing.
use Rattle.hanoi_lanes.proofs.Tells.{tells-or}
use Rattle.hanoi_lanes.proofs.tell_or.Goals as goal

pub returns : goal.returns
returns c = tells-or _ _ _ _ _ c.counting-deeper.ensures c.without-ended.ensures c.without.ensures
