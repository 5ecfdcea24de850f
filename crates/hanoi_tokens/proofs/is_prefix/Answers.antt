use native.Mathlib.Omega.{arith}
use Rattle.hanoi_tokens.proofs.Numbers.{prefix-zero, cutting-none, cutting-more, cutting-all}
use Rattle.hanoi_tokens.proofs.is_prefix.Goals as goal

pub returns-then-n-eq0 : goal.returns-then-n-eq0
returns-then-n-eq0 c = rw c.if-n-eq0.true (prefix-zero _)

pub loop-rest-init : goal.loop-rest-init
loop-rest-init c = cutting-none _ _ c.requires.1

pub loop-rest-preserved : goal.loop-rest-preserved
loop-rest-preserved c = cutting-more _ _ _ c.loop-rest-test.true c.loop-rest.invariant

pub returns : goal.returns
returns c = cutting-all _ _ _ (omega (arith, c.if-n-eq0.false)) c.loop-rest-test.false c.loop-rest.invariant
