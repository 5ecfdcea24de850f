use Rattle.attracting.proofs.Sweeping.{sweeping-more}
use native.Mathlib.Omega.{arith}
use Rattle.attracting.proofs.sweep.Goals as goal

pub loop-i-preserved : goal.loop-i-preserved
loop-i-preserved c = sweeping-more _ _ _ _ _ _ _ c.args.g.now.rows c.requires.apart _ _ _ _ _ _ _ _ _ _ _ _ _ _ _ c.loop-i.invariant c.loop-i-test.true c.from-s.ensures (omega (arith, c.from-s.ensures, c.loop-i.invariant.parted.unseen c.loop-i.i (omega arith), c.requires.order.1 c.loop-i.i c.loop-i-test.true)) c.requires.long.0 c.requires.long.1 c.visit-gone.ensures c.keep-w.ensures
