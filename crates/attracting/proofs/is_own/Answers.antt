use Rattle.attracting.proofs.Laws.{owns-is}
use Rattle.attracting.proofs.is_own.Goals as goal

pub returns : goal.returns
returns c = owns-is _ _
