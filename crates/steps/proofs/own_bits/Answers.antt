-- `own_bits` meets its contract. Assumes nothing.
use Rattle.steps.proofs.Columns.{own-placed}
use Rattle.steps.proofs.own_bits.Goals as goal

pub returns : goal.returns
returns c = own-placed c.args.w c.args.j c.requires
