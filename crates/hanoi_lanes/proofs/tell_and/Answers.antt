-- `tell_and` meets its contract: lane by lane. Assumes nothing.
use Rattle.hanoi_lanes.proofs.Tells.{tells-and}
use Rattle.hanoi_lanes.proofs.tell_and.Goals as goal

pub returns : goal.returns
returns c = tells-and _ _ c.without.ensures
