-- `closed` meets its contract: the rows are joined at the states below k. Assumes nothing.
use Rattle.std.proofs.Common.{◌≡◌, ℕ, ◌<◌}
use Rattle.steps.specs.Steps.{row_at, turned}
use Rattle.steps.proofs.closed.Given as goal

abbrev pub invariant-loop-k : goal.invariant-loop-k
invariant-loop-k g l =
    (v : ℕ) → v < 16 → row_at l.joined.a l.joined.b l.joined.c l.joined.d v ≡ turned (row_at l.initial.joined.a l.initial.joined.b l.initial.joined.c l.initial.joined.d) l.k v
