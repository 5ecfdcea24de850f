use Rattle.looks.proofs.Spans.{uniform-next}
use native.Mathlib.Omega.{arith}
use Rattle.looks.proofs.is_uniform.Goals as goal

pub loop-s-init : goal.loop-s-init
loop-s-init c = (omega arith, λ _ x a b. absurd (omega arith))

pub loop-s-preserved : goal.loop-s-preserved
loop-s-preserved c = let a = c.args in (omega arith, uniform-next a.family.now a.from c.loop-s.s a.c a.v c.inside.ensures c.loop-s.invariant.1)

pub returns : goal.returns
returns c = λ t x a b k. c.loop-s.invariant.1 t x a (omega (arith, c.loop-s-test.false)) k
