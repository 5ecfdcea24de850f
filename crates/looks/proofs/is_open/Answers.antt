use Rattle.looks.proofs.Looks.{none_more, none_passes, long-open, some-open, none_open}
use Rattle.masks.specs.Masks.{inside}
use Rattle.lists.proofs.AnyAll.{any_at}
use mathlib.Core.Path.{refl, sym, ◌∙◌}
use native.Mathlib.Omega.{arith}
use Rattle.looks.proofs.is_open.Goals as goal

pub returns-then-are_long : goal.returns-then-are_long
returns-then-are_long c = let a = c.args in long-open a.c a.hues.now a.same (sym c.are_long.ensures ∙ c.if-are_long.true)

pub loop-hue-init : goal.loop-hue-init
loop-hue-init c = refl

pub returns-then-inside : goal.returns-then-inside
returns-then-inside c = let a = c.args in some-open a.c a.hues.now a.same (any_at (inside a.c) a.hues.now c.loop-hue.hue-index 0 c.loop-hue-test.true (sym c.inside.ensures ∙ c.if-inside.true))

pub loop-hue-preserved : goal.loop-hue-preserved
loop-hue-preserved c = let a = c.args in (none_more (inside a.c) a.hues.now c.loop-hue.hue-index c.loop-hue-test.true c.loop-hue.invariant (sym c.inside.ensures ∙ c.if-inside.false))

pub returns : goal.returns
returns c = let a = c.args in none_open a.c a.hues.now a.same (sym c.are_long.ensures ∙ c.if-are_long.false) (none_passes (inside a.c) a.hues.now c.loop-hue.hue-index (omega (arith, c.loop-hue-test.false)) c.loop-hue.invariant)
