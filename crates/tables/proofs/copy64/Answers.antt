use Rattle.std.proofs.Common.{◌∙◌, arith}
use Rattle.tables.proofs.Copies.{copy_within-sets}
use Rattle.tables.proofs.copy64.Goals as goal

pub returns : goal.returns
returns c = let a = c.args in c.copy_within.ensures.after ∙ copy_within-sets a.size a.from a.at a.t.now (omega arith) (omega arith)
