-- `fill_edge` meets its contract. The invariant: the rows of the states over v up to s are written, and the row at hand is that of each leaf that shares it.
-- Assumes nothing.
use Rattle.rows.specs.Rows.{Shares}
use Rattle.rows.proofs.RowTables.{EdgeRows}
use Rattle.rows.proofs.fill_edge.Given as goal

abbrev pub invariant-loop-s : goal.invariant-loop-s
invariant-loop-s l =
    EdgeRows l.states.forest.now.policy.now l.v l.letter l.initial.targets l.initial.priorities l.targets l.priorities l.s × Shares l.states.forest.now.policy.now l.e l.row.from l.row.to l.row.target l.row.priority
