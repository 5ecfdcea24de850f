-- `fill_rows` meets its contract. The invariants: the rows of the edges of the states below v are written; and those of the letters below `letter`, from
-- v. Assumes nothing.
use Rattle.policy.specs.Policies.{edge_of}
use Rattle.rows.specs.Rows.{RowsWritten}
use Rattle.rows.proofs.fill_rows.Given as goal

abbrev pub invariant-loop-letter : goal.invariant-loop-letter
invariant-loop-letter l =
    RowsWritten l.states.forest.now.policy.now l.initial.targets l.initial.priorities l.targets l.priorities (edge_of l.states.forest.now.policy.now l.v 0) (edge_of l.states.forest.now.policy.now l.v l.letter)

abbrev pub invariant-loop-v : goal.invariant-loop-v
invariant-loop-v l =
    RowsWritten l.states.forest.now.policy.now l.initial.targets l.initial.priorities l.targets l.priorities 0 (edge_of l.states.forest.now.policy.now l.v 0)
