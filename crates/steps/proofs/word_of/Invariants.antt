-- `word_of` meets its contract: w has the entries of the colours passed. Assumes nothing.
use Prim.Native.Nat.{◌-◌, ◌≤◌}
use mathlib.Core.Path.{◌≡◌}
use Rattle.tables.specs.Copies.{part}
use Rattle.policy.specs.ByColour.{table_edges_to}
use Rattle.steps.proofs.word_of.Given as goal

abbrev pub invariant-loop-k : goal.invariant-loop-k
invariant-loop-k l = (l.k ≤ 8) × (l.w ≡ table_edges_to (part 9 l.first l.steps) l.k l.s)

abbrev pub decreases-loop-k : goal.decreases-loop-k
decreases-loop-k l = 8 - l.k
