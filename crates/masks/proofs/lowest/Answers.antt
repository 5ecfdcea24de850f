-- `masks::lowest` meets its contract: the lowest member stands above the trailing zeros. Assumes nothing.
use Rattle.masks.proofs.LowestMember.{trailing-lowest}
use Rattle.masks.proofs.lowest.Goals as goal

pub returns : goal.returns
returns c = let r = trailing-lowest 64 c.args.m c.requires c.ranges.m.fits in (r.1.0, r.0, r.1.1)
