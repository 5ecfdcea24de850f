-- `climb` meets its contract. The invariant: n is on the branch of the leaf and no node below it has the edge, or n is
-- past the root and no root has it. Assumes nothing.
use Rattle.rows.proofs.Climbing.{Climbing, left}
use Rattle.rows.proofs.climb.Given as goal

abbrev pub invariant-loop-n : goal.invariant-loop-n
invariant-loop-n l = Climbing l.nodes.policy.now l.e l.leaf l.n l.child

abbrev pub decreases-loop-n : goal.decreases-loop-n
decreases-loop-n l = left l.n
