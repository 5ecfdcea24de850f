use Rattle.masks.specs.Masks.{inside}
use lib.ListN.{get_or}
use mathlib.Core.Bool.{true}
use mathlib.Core.Path.{◌≡◌}
use Prim.Native.Nat.{ℕ, ◌<◌}
use Rattle.looks.proofs.are_above.Given as goal

abbrev pub invariant-loop-hue : goal.invariant-loop-hue
invariant-loop-hue l = (j : ℕ) → j < l.hue-index → inside l.up (get_or l.hues j 0) ≡ true → inside l.c (get_or l.hues j 0) ≡ true
