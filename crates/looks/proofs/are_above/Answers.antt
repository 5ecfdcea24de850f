use Rattle.looks.proofs.Spans.{one_more, above-next}
use Rattle.masks.specs.Masks.{inside}
use Rattle.lists.proofs.Lists.{mem-at}
use lib.ListN.{get_or}
use mathlib.Core.Bool.{true, false≢true}
use mathlib.Core.Path.{◌≡◌, sym, subst}
use Prim.Native.Nat.{ℕ}
use native.Mathlib.Omega.{arith}
use Rattle.looks.proofs.are_above.Goals as goal

pub loop-hue-init : goal.loop-hue-init
loop-hue-init c = λ j b. absurd (omega arith)

pub returns-then-inside : goal.returns-then-inside
returns-then-inside c = λ t h m k. absurd (false≢true t)

pub loop-hue-preserved : goal.loop-hue-preserved
loop-hue-preserved c =
    let a = c.args in
    let i = c.loop-hue.hue-index in
    let next : inside a.up (get_or a.hues.now i 0) ≡ true → inside a.c (get_or a.hues.now i 0) ≡ true = above-next a.up a.c (get_or a.hues.now i 0) c.inside.ensures c.inside-in-loop-hue.ensures c.if-inside.false in
    (λ j b. one_more (λ (x : ℕ). inside a.up (get_or a.hues.now x 0) ≡ true → inside a.c (get_or a.hues.now x 0) ≡ true) i c.loop-hue.invariant next j b)

pub returns : goal.returns
returns c =
    let a = c.args in
    λ t h m k.
    let at = mem-at a.hues.now 0 h m in
    subst (λ (x : ℕ). inside a.c x ≡ true) at.2 (c.loop-hue.invariant at.0 (omega (arith, at.1, c.loop-hue-test.false)) (subst (λ (x : ℕ). inside a.up x ≡ true) (sym at.2) k))
