-- `has_no_cycle` meets its contract: no state passed has such a cycle through it, nor one that is not left. Assumes nothing.
use Prim.Native.Nat.{ℕ, ◌-◌, ◌≤◌, ◌<◌}
use lib.ListN.{get_or}
use mathlib.Core.Path.{◌≡◌}
use mathlib.Core.Bool.{true, false}
use Rattle.lists.specs.Lists.{all, below}
use Rattle.masks.specs.Masks.{has}
use Rattle.comparing.specs.Pairs.{no_cycle_at}
use Rattle.comparing.proofs.has_no_cycle.Given as goal

abbrev pub invariant-loop-v : goal.invariant-loop-v
invariant-loop-v l =
    let p = l.g.policy.now in
    let q = l.h.policy.now in
    (l.v ≤ l.states) × ((w : ℕ) → has l.left w ≡ true → has (get_or l.rows w 0) w ≡ true)
    × (all (no_cycle_at p q l.c l.d) (below l.v) ≡ true) × ((w : ℕ) → w < p.states → has l.left w ≡ false → no_cycle_at p q l.c l.d w ≡ true)

abbrev pub decreases-loop-v : goal.decreases-loop-v
decreases-loop-v l = l.states - l.v
