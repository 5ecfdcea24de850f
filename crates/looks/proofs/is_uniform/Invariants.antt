use Rattle.masks.specs.Masks.{inside}
use lib.ListN.{get_or}
use mathlib.Core.Bool.{true, false}
use mathlib.Core.Path.{◌≡◌}
use Prim.Native.Nat.{ℕ, ◌-◌, ◌≤◌, ◌<◌}
use Rattle.looks.proofs.is_uniform.Given as goal

abbrev pub invariant-loop-s : goal.invariant-loop-s
invariant-loop-s l = (l.from ≤ l.s) × (l.same ≡ true → (x : ℕ) → l.from ≤ x → x < l.s → inside x l.c ≡ true → get_or l.family x false ≡ l.v)

abbrev pub decreases-loop-s : goal.decreases-loop-s
decreases-loop-s l = l.c - l.s
