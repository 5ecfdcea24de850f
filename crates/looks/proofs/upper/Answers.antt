use Rattle.looks.proofs.Spans.{lowest-some}
use Rattle.looks.specs.Spans.{upper}
use lib.Bits.{bit_and}
use mathlib.Core.Path.{ap}
use native.Mathlib.Omega.{arith}
use Rattle.looks.proofs.upper.Goals as goal

pub returns : goal.returns
unfolding upper
returns c = ap (bit_and c.args.c) (omega (arith, c.lowest.ensures.0, c.lowest.ensures.1, (lowest-some c.args.used c.args.c c.requires c.ranges.used.fits).1))
