-- `counting` meets its contract: the lanes of all planes are joined. Assumes nothing.
use Rattle.hanoi_lanes.proofs.Counts.{joined-lanes, joined-none}
use Rattle.hanoi_lanes.proofs.counting.Goals as goal

pub returns-then-lanes-eq0 : goal.returns-then-lanes-eq0
returns-then-lanes-eq0 c = joined-none _ _ c.if-lanes-eq0.true

pub returns : goal.returns
returns c = joined-lanes _ _ _ c.joined.ensures
