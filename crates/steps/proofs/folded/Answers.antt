-- `folded` meets its contract. Assumes nothing.
use Rattle.steps.proofs.Columns.{folded-is}
use Rattle.steps.proofs.folded.Goals as goal

pub returns : goal.returns
returns c = folded-is c.args.x c.args.by
