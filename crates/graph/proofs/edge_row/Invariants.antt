-- `graph::edge_row` meets its contract. The invariant: the row has the targets of the edges passed. Assumes nothing.
use mathlib.Core.Path.{◌≡◌}
use Prim.Native.Nat.{◌-◌, ◌≤◌}
use Rattle.graph.specs.Through.{edge_row}
use Rattle.graph.proofs.edge_row.Given as goal

abbrev pub invariant-loop-a : goal.invariant-loop-a
invariant-loop-a l = (l.a ≤ l.letters) × (l.row ≡ edge_row l.t l.letters l.m l.v l.a)

abbrev pub decreases-loop-a : goal.decreases-loop-a
decreases-loop-a l = l.letters - l.a
