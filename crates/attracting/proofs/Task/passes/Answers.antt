use Rattle.attracting.proofs.Laws.{passing-is}
use Rattle.attracting.proofs.Task.passes.Goals as goal

pub returns : goal.returns
returns c = passing-is _ _ _ _ _ c.is_in.ensures
