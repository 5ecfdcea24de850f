-- `pairs_agree` meets its contract: each set passed agrees with all of the other side. Assumes nothing.
use Prim.Native.Nat.{◌-◌, ◌≤◌}
use mathlib.Core.Path.{◌≡◌}
use mathlib.Core.Bool.{true}
use lib.ListN.{length}
use Rattle.lists.specs.Lists.{all, below}
use Rattle.comparing.specs.Pairs.{set_agrees}
use Rattle.comparing.proofs.pairs_agree.Given as goal

abbrev pub invariant-loop-c : goal.invariant-loop-c
invariant-loop-c l =
    (l.c ≤ l.n) × (all (set_agrees l.g.policy.now l.h.policy.now) (below l.c) ≡ true) × (length l.rows ≡ 16)

abbrev pub decreases-loop-c : goal.decreases-loop-c
decreases-loop-c l = l.n - l.c
