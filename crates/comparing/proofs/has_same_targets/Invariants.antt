-- `has_same_targets` meets its contract: each edge passed has one target in both. Assumes nothing.
use Prim.Native.Nat.{◌-◌, ◌≤◌}
use mathlib.Core.Path.{◌≡◌}
use mathlib.Core.Bool.{true}
use Rattle.lists.specs.Lists.{all, below}
use Rattle.comparing.specs.Pairs.{same_head}
use Rattle.comparing.proofs.has_same_targets.Given as goal

abbrev pub invariant-loop-e : goal.invariant-loop-e
invariant-loop-e l = (l.e ≤ l.n) × (all (same_head l.p.target l.q.target) (below l.e) ≡ true)

abbrev pub decreases-loop-e : goal.decreases-loop-e
decreases-loop-e l = l.n - l.e
