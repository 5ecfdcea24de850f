-- `tell_closes` meets its contract: lane by lane, with one less in the lanes that count. Assumes nothing.
use Rattle.hanoi_lanes.proofs.Tells.{tells-closes}
use Rattle.hanoi_lanes.proofs.tell_closes.Goals as goal

pub returns : goal.returns
returns c = tells-closes _ _ _ _ _ _ _ _ c.without-past.ensures c.counting-deeper.ensures c.count_down.ensures c.without-ended.ensures c.without.ensures
