-- `collections::add_if` meets its contract: the word of s, with its bit where b holds. Assumes nothing.
use Rattle.std.proofs.Common.{refl}
use Rattle.collections.proofs.Sets.{set-added}
use Rattle.collections.proofs.add_if.Goals as goal

pub returns : goal.returns
returns c = set-added c.args.t.now c.args.s c.args.s c.with_if.result c.requires c.ranges.s.fits refl c.args.b c.with_if.ensures
