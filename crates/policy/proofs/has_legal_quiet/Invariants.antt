-- `has_legal_quiet` meets its contract: b says whether only edges are quiet, and each one passed has the recorded colour 0. Assumes nothing.
use Prim.Native.Nat.{◌-◌, ◌≤◌}
use mathlib.Core.Path.{◌≡◌}
use mathlib.Core.Bool.{◌&&◌}
use Rattle.lists.specs.Lists.{all, below}
use Rattle.masks.specs.Masks.{inside}
use Rattle.policy.specs.Policies.{full, uncoloured}
use Rattle.policy.proofs.has_legal_quiet.Given as goal

abbrev pub invariant-loop-e : goal.invariant-loop-e
invariant-loop-e l = (l.e ≤ 64) × (l.b ≡ inside l.p.quiet (full l.p) && all (uncoloured l.p) (below l.e))

abbrev pub decreases-loop-e : goal.decreases-loop-e
decreases-loop-e l = 64 - l.e
