-- `is_wanted` meets its contract: none of the masks passed may hold one. Assumes nothing.
use Rattle.candidates.specs.Candidates.{may_hold}
use Rattle.lists.specs.Lists.{any, below}
use lib.ListN.{get_or}
use mathlib.Core.Bool.{false}
use mathlib.Core.Path.{◌≡◌}
use Prim.Native.Nat.{ℕ, ◌-◌, ◌≤◌}
use Rattle.looks.proofs.is_wanted.Given as goal

abbrev pub invariant-loop-i : goal.invariant-loop-i
invariant-loop-i l = (l.i ≤ l.i-end) × (any (λ (j : ℕ). may_hold l.c l.m l.same (get_or l.hues j 0) (get_or l.other j 0)) (below l.i) ≡ false)

abbrev pub decreases-loop-i : goal.decreases-loop-i
decreases-loop-i l = l.i-end - l.i
