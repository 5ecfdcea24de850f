use Rattle.orders.proofs.Walks.{gathering-more}
use mathlib.Core.Path.{refl}
use Rattle.orders.proofs.gather.Goals as goal

pub loop-i-preserved : goal.loop-i-preserved
loop-i-preserved c = gathering-more _ _ _ _ _ _ _ _ _ _ _ _ c.loop-i.invariant c.loop-i-test.true c.from.ensures refl c.keep-w.ensures
