-- `tell_opens` meets its contract: lane by lane, with one more in the lanes that pass by. Assumes nothing.
use Rattle.hanoi_lanes.proofs.Tells.{tells-opens}
use Rattle.hanoi_lanes.proofs.tell_opens.Goals as goal

pub returns : goal.returns
returns c = tells-opens _ _ _ _ _ c.without.ensures c.count_up.ensures
