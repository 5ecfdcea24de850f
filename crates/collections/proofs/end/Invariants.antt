-- `collections::end` meets its contract. The invariant: all sets lie in the words below k. Assumes nothing.
use Prim.Native.Nat.{ℕ, ◌*◌, ◌≤◌, ◌<◌}
use mathlib.Core.Path.{◌≡◌}
use mathlib.Core.Bool.{true}
use Rattle.collections.specs.Collections.{has_set}
use Rattle.collections.proofs.end.Given as goal

abbrev pub invariant-loop-k : goal.invariant-loop-k
invariant-loop-k l = (l.k ≤ 4) × ((d : ℕ) → d < 256 → has_set l.t d ≡ true → d < 64 * l.k)

abbrev pub decreases-loop-k : goal.decreases-loop-k
decreases-loop-k l = l.k
