-- `graph::reach_all` meets its contract. The invariant: the rows are joined at the states below k. Assumes nothing.
use mathlib.Core.Path.{◌≡◌}
use Prim.Native.Nat.{◌-◌, ◌≤◌}
use Rattle.graph.specs.Through.{joined_rows}
use Rattle.graph.proofs.reach_all.Given as goal

abbrev pub invariant-loop-k : goal.invariant-loop-k
invariant-loop-k l = (l.k ≤ l.states) × (l.rows ≡ joined_rows l.initial.rows 16 l.k)

abbrev pub decreases-loop-k : goal.decreases-loop-k
decreases-loop-k l = l.states - l.k
