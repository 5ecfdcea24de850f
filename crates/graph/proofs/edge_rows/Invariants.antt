-- `graph::edge_rows` meets its contract. The invariant: the rows below v stand. Assumes nothing.
use mathlib.Core.Path.{◌≡◌}
use Prim.Native.Nat.{◌-◌, ◌≤◌}
use Rattle.graph.specs.Through.{edge_rows}
use Rattle.graph.proofs.edge_rows.Given as goal

abbrev pub invariant-loop-v : goal.invariant-loop-v
invariant-loop-v l = (l.v ≤ l.states) × (l.rows ≡ edge_rows l.initial.rows l.heads l.letters l.m l.v)

abbrev pub decreases-loop-v : goal.decreases-loop-v
decreases-loop-v l = l.states - l.v
