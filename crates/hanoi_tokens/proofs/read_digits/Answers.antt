use native.Mathlib.Omega.{arith}
use mathlib.Core.Path.{sym, refl}
use Rattle.hanoi_tokens.proofs.Numbers.{digits-first, digits-none, digits-not-first, digits-on, digits-zero, digits-over, digits-short, digits-break, digits-all}
use Rattle.hanoi_tokens.proofs.read_digits.Goals as goal

pub returns-then-not-is_ascii_digit : goal.returns-then-not-is_ascii_digit
returns-then-not-is_ascii_digit c = digits-none _ _ _ c.requires.1 c.requires.0 (sym c.if-not-is_ascii_digit.ensures.value)

pub returns-then-not-takes : goal.returns-then-not-takes
returns-then-not-takes c = digits-not-first _ _ _ c.requires.1 _ c.requires.0 (sym c.if-not-is_ascii_digit.ensures.value) c.value_of-n.ensures.0 (sym c.if-not-takes.ensures)

pub loop-i-init : goal.loop-i-init
loop-i-init c = (c.requires.1, digits-first _ _ _ c.requires.1 _ c.requires.0 (sym c.if-not-is_ascii_digit.ensures.value) c.value_of-n.ensures.0 (sym c.if-not-takes.ensures))

pub returns-then-not-ends : goal.returns-then-not-ends
returns-then-not-ends c = digits-short _ _ _ c.loop-i.invariant.0 _ _ c.loop-i.invariant.1 c.loop-i-test.true (sym c.if-not-is_ascii_digit-2.ensures.value) (sym c.if-not-ends.ensures)

pub returns-then-not-is_ascii_digit-2 : goal.returns-then-not-is_ascii_digit-2
returns-then-not-is_ascii_digit-2 c = digits-all _ _ _ c.loop-i.invariant.0 _ _ c.loop-i.invariant.1 c.loop-i-test.true (sym c.if-not-is_ascii_digit-2.ensures.value) (sym c.if-not-ends.ensures)

pub returns-then-n-eq0 : goal.returns-then-n-eq0
returns-then-n-eq0 c = digits-zero _ _ _ c.loop-i.invariant.0 _ _ c.loop-i.invariant.1 c.loop-i-test.true (sym c.if-not-is_ascii_digit-2.ensures.value) c.if-n-eq0.true

pub returns-then-not-takes-2 : goal.returns-then-not-takes-2
returns-then-not-takes-2 c = digits-over _ _ _ c.loop-i.invariant.0 _ _ c.loop-i.invariant.1 _ c.loop-i-test.true (sym c.if-not-is_ascii_digit-2.ensures.value) (omega arith) (rw c.value_of.ensures.0 refl) (sym c.if-not-takes-2.ensures)

pub loop-i-preserved : goal.loop-i-preserved
loop-i-preserved c = (c.loop-i.invariant.0, digits-on _ _ _ c.loop-i.invariant.0 _ _ c.loop-i.invariant.1 _ c.loop-i-test.true (sym c.if-not-is_ascii_digit-2.ensures.value) (omega arith) (rw c.value_of.ensures.0 refl) (sym c.if-not-takes-2.ensures))

pub returns : goal.returns
returns c = digits-break _ _ _ c.loop-i.invariant.0 _ _ c.loop-i.invariant.1 c.loop-i-test.false
