use Rattle.candidates.specs.Candidates.{wanted}
use Rattle.policy.specs.ByColour.{table_colours}
use lib.ListN.{get_or}
use mathlib.Core.Bool.{false}
use mathlib.Core.Logic.{◌⊎◌}
use mathlib.Core.Path.{◌≡◌}
use Prim.Native.Nat.{ℕ, ◌≤◌, ◌<◌}
use Rattle.looks.proofs.past_all.Given as goal

abbrev pub invariant-loop-x : goal.invariant-loop-x
invariant-loop-x l = (l.up ≤ l.left) × (l.left ≤ l.c) × (l.left < l.c → (j : ℕ) → j < l.x-index → (table_colours l.by (get_or l.cycles j 0) < l.left) ⊎ (wanted (table_colours l.by (get_or l.cycles j 0)) (get_or l.cycles j 0) l.other l.hues l.same ≡ false))
