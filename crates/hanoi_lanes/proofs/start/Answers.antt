-- `start` meets its contract: lane by lane. Assumes nothing.
use Rattle.hanoi_lanes.proofs.Tells.{starts}
use Rattle.hanoi_lanes.proofs.start.Goals as goal

pub returns : goal.returns
returns c = starts _
