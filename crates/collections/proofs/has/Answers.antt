-- `collections::has` meets its contract: the bit of s in its word. Assumes nothing.
use mathlib.Core.Path.{sym, ◌∙◌}
use Rattle.collections.proofs.Sets.{set_at}
use Rattle.collections.proofs.has.Goals as goal

pub returns : goal.returns
returns c = let t = c.args.t.now in c.has.ensures ∙ sym (set_at t c.args.s)
