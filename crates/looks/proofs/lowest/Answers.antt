use Rattle.looks.proofs.Spans.{lowest-some}
use Rattle.looks.specs.Spans.{lowest}
use lib.Bits.{bit_and}
use mathlib.Core.Path.{◌≡◌, sym, ap, subst}
use Prim.Native.Nat.{ℕ, ◌+◌, ◌-◌, ◌<◌}
use native.Mathlib.Omega.{arith}
use Rattle.looks.proofs.lowest.Goals as goal

pub returns : goal.returns
unfolding lowest
returns c =
    let m = c.args.used - c.args.c in
    let n : 255 - m + 1 ≡ 256 - m = omega (arith, c.requires, c.ranges.used.fits) in
    let e : bit_and m (255 - m + 1) ≡ lowest c.args.used c.args.c = ap (bit_and m) n in
    (e, subst (λ (x : ℕ). 0 < x) (sym e) (lowest-some c.args.used c.args.c c.requires c.ranges.used.fits).0)
