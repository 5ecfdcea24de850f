use Rattle.orders.proofs.Orders.{inside-moved}
use Rattle.holding.proofs.Sifting.{sifts-fewer}
use native.Mathlib.Omega.{arith}
use Rattle.holding.proofs.release.Goals as goal

pub loop-again-smaller : goal.loop-again-smaller
loop-again-smaller c = sifts-fewer _ _ _ _ c.loop-again-test.true c.sift-r.ensures.from c.sift-r.ensures.few

pub sift-r-requires-clause-order : goal.sift-r-requires-clause-order
sift-r-requires-clause-order c = (c.loop-again.invariant.few, omega (arith, c.loop-again.invariant.moved.long, c.requires.order.0), inside-moved _ _ _ _ c.loop-again.invariant.moved c.requires.order.1)
