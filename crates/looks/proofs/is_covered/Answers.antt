use native.Mathlib.Omega.{arith}
use mathlib.Core.Path.{◌≡◌, refl, sym, ap₂, ◌∙◌}
use mathlib.Core.Bool.{◌&&◌}
use lib.ListN.{get_or}
use Rattle.lists.proofs.AnyAll.{any_at}
use Rattle.candidates.specs.Candidates.{covers}
use Rattle.looks.proofs.Looks.{none_more, none_passes}
use Rattle.looks.proofs.is_covered.Goals as goal

pub loop-k-init : goal.loop-k-init
loop-k-init c = refl

pub returns-then-inside : goal.returns-then-inside
unfolding covers
returns-then-inside c =
    let covers-is : covers c.args.e c.args.y (get_or c.args.same.now c.loop-k.k-index 0) ≡ c.inside.result && c.inside-in-loop-k.result =
    ap₂ ◌&&◌ (sym c.inside.ensures) (sym c.inside-in-loop-k.ensures) in
    let a = c.args in sym (any_at (covers a.e a.y) a.same.now c.loop-k.k-index 0 c.loop-k-test.true (covers-is ∙ c.if-inside.true))

pub loop-k-preserved : goal.loop-k-preserved
unfolding covers
loop-k-preserved c =
    let covers-is : covers c.args.e c.args.y (get_or c.args.same.now c.loop-k.k-index 0) ≡ c.inside.result && c.inside-in-loop-k.result =
    ap₂ ◌&&◌ (sym c.inside.ensures) (sym c.inside-in-loop-k.ensures) in
    let a = c.args in (none_more (covers a.e a.y) a.same.now c.loop-k.k-index c.loop-k-test.true c.loop-k.invariant (covers-is ∙ c.if-inside.false))

pub returns : goal.returns
returns c = let a = c.args in sym (none_passes (covers a.e a.y) a.same.now c.loop-k.k-index (omega (arith, c.loop-k-test.false)) c.loop-k.invariant)
