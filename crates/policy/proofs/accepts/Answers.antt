-- `accepts` meets its contract: the table gives the colours, and the family their verdict. Assumes nothing.
use mathlib.Core.Path.{refl}
use Rattle.policy.proofs.ByColour.{table-accepts}
use Rattle.policy.proofs.accepts.Goals as goal

pub returns : goal.returns
returns c =
    table-accepts c.args.p.now c.requires.0 _ _ _ _ c.requires.1 refl c.colours_in-c.ensures
