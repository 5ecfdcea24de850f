use mathlib.Core.Path.{◌≡◌}
use Rattle.candidates.specs.Candidates.{Live}
use Rattle.policy.specs.Policies.{legal}
use Rattle.policy.specs.declared.Policy.{Policy}
use lib.ListN.{length, get_or}
use mathlib.Core.Bool.{true}
use Prim.Native.Nat.{ℕ, ◌-◌, ◌≤◌, ◌<◌}
use Rattle.looks.proofs.live_in.Given as goal

abbrev pub invariant-loop-i : goal.invariant-loop-i
invariant-loop-i l = (l.i ≤ 8) × ((p : Policy) (root : ℕ) → legal p ≡ true → ((d : ℕ) → d < length l.live → Live p root d (get_or l.live d 0)) → Live p root l.c l.m)

abbrev pub decreases-loop-i : goal.decreases-loop-i
decreases-loop-i l = 8 - l.i
