use native.Mathlib.Omega.{arith}
use Rattle.hanoi_lanes.proofs.Counts.{falling-first, falling-more, falling-stop, falling-end}
use Rattle.hanoi_lanes.proofs.count_down.Goals as goal

pub loop-p-init : goal.loop-p-init
loop-p-init c = falling-first _ _

pub returns-then-borrow-eq0 : goal.returns-then-borrow-eq0
returns-then-borrow-eq0 c = falling-stop _ _ _ _ _ c.loop-p.invariant c.if-borrow-eq0.true

pub loop-p-preserved : goal.loop-p-preserved
loop-p-preserved c = falling-more _ _ _ _ _ _ _ c.loop-p.invariant (omega (arith, c.loop-p-test.true)) c.without.ensures c.without-lent.ensures

pub returns : goal.returns
returns c = falling-end _ _ _ _ _ c.loop-p.invariant (omega (arith, c.loop-p-test.false))
