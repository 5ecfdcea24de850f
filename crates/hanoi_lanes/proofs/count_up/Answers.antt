use native.Mathlib.Omega.{arith}
use Rattle.hanoi_lanes.proofs.Counts.{rising-first, rising-more, rising-stop, rising-end}
use Rattle.hanoi_lanes.proofs.count_up.Goals as goal

pub loop-p-init : goal.loop-p-init
loop-p-init c = rising-first _ _

pub returns-then-carry-eq0 : goal.returns-then-carry-eq0
returns-then-carry-eq0 c = rising-stop _ _ _ _ _ c.loop-p.invariant c.if-carry-eq0.true

pub loop-p-preserved : goal.loop-p-preserved
loop-p-preserved c = rising-more _ _ _ _ _ _ c.loop-p.invariant (omega (arith, c.loop-p-test.true)) c.without.ensures

pub returns : goal.returns
returns c = rising-end _ _ _ _ _ c.loop-p.invariant (omega (arith, c.loop-p-test.false))
