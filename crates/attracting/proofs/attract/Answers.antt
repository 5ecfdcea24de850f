use Rattle.attracting.proofs.Sweeping.{attraction-none, attraction-more, sweeps-fewer}
use Rattle.attracting.proofs.attract.Goals as goal

pub loop-again-init : goal.loop-again-init
loop-again-init c = attraction-none _ _ _ _ _ _ _ c.args.g.now.rows c.requires.apart _ _ _ _ c.requires.order

pub loop-again-smaller : goal.loop-again-smaller
loop-again-smaller c = sweeps-fewer _ _ _ c.loop-again-test.true

pub loop-again-preserved : goal.loop-again-preserved
loop-again-preserved c = attraction-more _ _ _ _ _ _ _ c.args.g.now.rows c.requires.apart _ _ _ _ _ _ _ _ _ _ _ _ _ c.loop-again.invariant c.sweep-r.ensures
