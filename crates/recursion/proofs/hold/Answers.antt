-- `recursion::hold` meets its contract: what is released, attracted and painted twice, by the laws of Steps. Assumes nothing.
use Rattle.recursion.proofs.Steps.{held_asks, paint-asks-twice, front-asks, le_trans, marks-few, marks-few-more}
use lib.ListN.{length}
use native.Mathlib.Omega.{arith}
use Rattle.recursion.proofs.hold.Goals as goal

pub attract-again-requires : goal.attract-again-requires
attract-again-requires c = let q = held_asks _ _ _ _ _ _ _ c.args.l.small _ _ _ _ _ _ _ _ _ c.held_task-k.ensures c.hold_of.ensures c.release-freed.ensures c.requires.arena.0 c.requires.arena.1 c.requires.by_index in record { apart = q.0; long = (omega (arith, c.release-freed.ensures.long, c.requires.long.0), c.requires.long.1); order = q.1 }

pub paint-requires : goal.paint-requires
paint-requires c = paint-asks-twice (length c.args.g.now.sources.now) _ _ _ _ _ _ c.release-freed.ensures.few c.requires.arena.0 c.requires.arena.1 c.release-freed.ensures.moved c.attract-again.ensures.1.moved (marks-few c.requires.long.0 c.release-freed.ensures.long c.attract-again.ensures.0.so_far.marks_long)

pub paint-requires-2 : goal.paint-requires-2
paint-requires-2 c = front-asks _ _ _ _ _ (le_trans c.attract-again.ensures.1.few c.release-freed.ensures.few) (paint-asks-twice (length c.args.g.now.sources.now) _ _ _ _ _ _ c.release-freed.ensures.few c.requires.arena.0 c.requires.arena.1 c.release-freed.ensures.moved c.attract-again.ensures.1.moved (marks-few-more c.requires.long.0 c.release-freed.ensures.long c.attract-again.ensures.0.so_far.marks_long c.paint.ensures.long))
