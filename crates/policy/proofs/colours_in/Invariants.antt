-- `colours_in` meets its contract: s has those of the colours passed that have an edge of m. Assumes nothing.
use Prim.Native.Nat.{◌-◌, ◌≤◌}
use mathlib.Core.Path.{◌≡◌}
use Rattle.policy.specs.ByColour.{table_colours_to}
use Rattle.policy.proofs.colours_in.Given as goal

abbrev pub invariant-loop-k : goal.invariant-loop-k
invariant-loop-k l = (l.k ≤ 8) × (l.s ≡ table_colours_to l.t l.k l.m)

abbrev pub decreases-loop-k : goal.decreases-loop-k
decreases-loop-k l = 8 - l.k
