-- `graph::edges_out` meets its contract. The invariant: the places of the states passed stand. Assumes nothing.
use mathlib.Core.Path.{◌≡◌}
use Prim.Native.Nat.{◌-◌, ◌≤◌}
use Rattle.graph.specs.Through.{leaving}
use Rattle.graph.proofs.edges_out.Given as goal

abbrev pub invariant-loop-v : goal.invariant-loop-v
invariant-loop-v l = (l.v ≤ l.states) × (l.t ≡ leaving l.letters l.v)

abbrev pub decreases-loop-v : goal.decreases-loop-v
decreases-loop-v l = l.states - l.v
