-- `collections::remove` meets its contract: the word of s, without its bit. Assumes nothing.
use Rattle.std.proofs.Common.{refl}
use Prim.Native.Nat.{◌/◌}
use mathlib.Core.Path.{ap, ◌∙◌}
use lib.ListN.{get_or}
use Rattle.masks.specs.Masks.{minus}
use Rattle.collections.proofs.Sets.{set-removed}
use Rattle.collections.proofs.remove.Goals as goal

pub returns : goal.returns
returns c = set-removed c.args.t.now c.args.s c.args.s c.without.result c.requires c.ranges.s.fits refl (c.without.ensures ∙ ap (minus (get_or c.args.t.now (c.args.s / 64) 0)) c.with.ensures)
