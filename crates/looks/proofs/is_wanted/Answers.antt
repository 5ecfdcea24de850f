use Rattle.looks.proofs.Looks.{long-wanted, none_yet, one_wanted, none-wanted}
use mathlib.Core.Path.{refl, sym, ◌∙◌}
use native.Mathlib.Omega.{arith}
use Rattle.looks.proofs.is_wanted.Goals as goal

pub returns-then-are_long : goal.returns-then-are_long
returns-then-are_long c = let a = c.args in long-wanted a.c a.m a.other.now a.hues.now a.same.now (sym c.are_long.ensures ∙ c.if-are_long.true)

pub loop-i-init : goal.loop-i-init
loop-i-init c = (omega arith, refl)

pub bounds-hues-i : goal.bounds-hues-i
bounds-hues-i c = omega (arith, c.loop-i-test.true, c.requires)

pub returns-then-may_hold : goal.returns-then-may_hold
returns-then-may_hold c = let a = c.args in one_wanted a.c a.m a.other.now a.hues.now a.same.now c.loop-i.i c.loop-i-test.true (sym c.may_hold.ensures ∙ c.if-may_hold.true)

pub loop-i-preserved : goal.loop-i-preserved
loop-i-preserved c = let a = c.args in (omega arith, none_yet a.c a.m a.other.now a.hues.now a.same.now c.loop-i.i c.loop-i.invariant.1 (sym c.may_hold.ensures ∙ c.if-may_hold.false))

pub returns : goal.returns
returns c = let a = c.args in none-wanted a.c a.m a.other.now a.hues.now a.same.now c.loop-i.i (omega (arith, c.loop-i.invariant.0, c.loop-i-test.false)) (sym c.are_long.ensures ∙ c.if-are_long.false) c.loop-i.invariant.1
