-- `collections::accepted_word` meets its contract. The invariant: w has the answers from j on, from bit 0 on. Assumes nothing.
use Prim.Native.Nat.{ℕ, ◌≤◌}
use mathlib.Core.Bool.{false}
use lib.ListN.{get_or}
use Rattle.collections.proofs.Upward.{Pushing}
use Rattle.collections.proofs.accepted_word.Given as goal

abbrev pub invariant-loop-j : goal.invariant-loop-j
invariant-loop-j l = (l.j ≤ l.n) × Pushing (λ (x : ℕ). get_or l.family x false) l.n l.j l.w

abbrev pub decreases-loop-j : goal.decreases-loop-j
decreases-loop-j l = l.j
