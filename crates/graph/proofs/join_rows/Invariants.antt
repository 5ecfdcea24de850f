-- `graph::join_rows` meets its contract. The invariant: the rows below u are joined. Assumes nothing.
use mathlib.Core.Path.{◌≡◌}
use Prim.Native.Nat.{◌-◌, ◌≤◌}
use Rattle.graph.specs.Through.{join_rows}
use Rattle.graph.proofs.join_rows.Given as goal

abbrev pub invariant-loop-u : goal.invariant-loop-u
invariant-loop-u l = (l.u ≤ 16) × (l.rows ≡ join_rows l.initial.rows l.k l.pivot l.u)

abbrev pub decreases-loop-u : goal.decreases-loop-u
decreases-loop-u l = 16 - l.u
