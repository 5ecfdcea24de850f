-- `recursion::lose` meets its contract: what is attracted and painted twice, by the laws of Steps. Assumes nothing.
use Rattle.recursion.proofs.Steps.{paint-asks, front-asks, marks-few}
use lib.ListN.{length}
use native.Mathlib.Omega.{arith}
use Rattle.recursion.proofs.lose.Goals as goal

pub paint-requires : goal.paint-requires
paint-requires c = paint-asks (length c.args.g.now.sources.now) _ _ _ _ _ c.requires.arena.0 c.requires.arena.1 c.requires.arena.2 c.attract-rest.ensures.1.moved (omega (arith, c.attract-rest.ensures.0.so_far.marks_long, c.requires.long.0))

pub paint-requires-2 : goal.paint-requires-2
paint-requires-2 c = front-asks _ _ _ _ _ (omega (arith, c.attract-rest.ensures.1.few, c.requires.arena.0)) (paint-asks (length c.args.g.now.sources.now) _ _ _ _ _ c.requires.arena.0 c.requires.arena.1 c.requires.arena.2 c.attract-rest.ensures.1.moved (marks-few c.requires.long.0 c.attract-rest.ensures.0.so_far.marks_long c.paint.ensures.long))
