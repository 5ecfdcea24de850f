-- `edges_in` meets its contract: m has the quiet edges, and those of the colours passed. Assumes nothing.
use Prim.Native.Nat.{◌-◌, ◌≤◌}
use mathlib.Core.Path.{◌≡◌}
use Rattle.policy.specs.ByColour.{table_edges_to}
use Rattle.policy.proofs.edges_in.Given as goal

abbrev pub invariant-loop-k : goal.invariant-loop-k
invariant-loop-k l = (l.k ≤ 8) × (l.m ≡ table_edges_to l.t l.k l.c)

abbrev pub decreases-loop-k : goal.decreases-loop-k
decreases-loop-k l = 8 - l.k
