-- `column` meets its contract. Assumes nothing.
use Rattle.steps.proofs.Columns.{column-placed}
use Rattle.steps.proofs.column.Goals as goal

pub returns : goal.returns
returns c = column-placed c.args.w c.args.v c.args.j c.requires.0 c.requires.1
