-- `collections::add_smaller` meets its contract: the word of h, and the two colours that lead to another word. Assumes nothing.
use Rattle.std.proofs.Common.{refl}
use Prim.Native.Nat.{◌/◌, ◌<◌}
use Rattle.masks.proofs.Members.{bit-lt}
use Rattle.collections.proofs.Fewer.{adding-here, adding-more, adding-all}
use Rattle.collections.proofs.add_smaller.Goals as goal

pub returns-then-h-lt64 : goal.returns-then-h-lt64
returns-then-h-lt64 c =
    let a = c.args in
    let small : a.h < 256 = c.ranges.h.fits in
    adding-all a.within.now a.t.now a.h _ 6 small (λ j k. bit-lt 6 a.h j c.if-h-lt64.true k) (adding-here a.within.now a.t.now a.h (a.h / 64) c.smaller_here-w.result c.requires small refl c.smaller_here-w.ensures)

pub returns : goal.returns
returns c =
    let a = c.args in
    let small : a.h < 256 = c.ranges.h.fits in
    adding-all a.within.now a.t.now a.h _ 8 small (λ j k. bit-lt 8 a.h j small k)
    (adding-more a.within.now a.t.now a.h _ 7 small (adding-more a.within.now a.t.now a.h _ 6 small (adding-here a.within.now a.t.now a.h (a.h / 64) c.smaller_here-w.result c.requires small refl c.smaller_here-w.ensures) _ c.add_without.ensures.0 c.add_without.ensures.1) _ c.add_without-2.ensures.0 c.add_without-2.ensures.1)
