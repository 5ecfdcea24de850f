-- `set_agrees` meets its contract: c agrees with each set passed of the colours in use. Assumes nothing.
use Prim.Native.Nat.{ℕ, ◌<◌}
use mathlib.Core.Path.{◌≡◌}
use mathlib.Core.Bool.{true}
use lib.ListN.{length}
use Rattle.masks.specs.Masks.{inside}
use Rattle.comparing.specs.Pairs.{pair_agrees}
use Rattle.comparing.proofs.set_agrees.Given as goal

abbrev pub invariant-loop-rows : goal.invariant-loop-rows
invariant-loop-rows l =
    (inside l.d l.used ≡ true) × (length l.rows ≡ 16) × ((e : ℕ) → l.d < e → inside e l.used ≡ true → pair_agrees l.g.policy.now l.h.policy.now l.c e ≡ true)

abbrev pub decreases-loop-rows : goal.decreases-loop-rows
decreases-loop-rows l = l.d
