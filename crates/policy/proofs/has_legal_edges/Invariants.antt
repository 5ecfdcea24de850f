-- `has_legal_edges` meets its contract: b says whether every edge passed is legal. Assumes nothing.
use Prim.Native.Nat.{◌-◌, ◌≤◌}
use mathlib.Core.Path.{◌≡◌}
use Rattle.lists.specs.Lists.{all, below}
use Rattle.policy.specs.Policies.{legal_edge}
use Rattle.policy.proofs.has_legal_edges.Given as goal

abbrev pub invariant-loop-e : goal.invariant-loop-e
invariant-loop-e l = (l.e ≤ 64) × (l.b ≡ all (legal_edge l.p) (below l.e))

abbrev pub decreases-loop-e : goal.decreases-loop-e
decreases-loop-e l = 64 - l.e
