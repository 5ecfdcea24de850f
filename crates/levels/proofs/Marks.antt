-- The marks of a level are apart, and what the mark of a live state says. Assumes nothing.
use Prim.Native.Nat.{ℕ, ◌+◌, ◌*◌, ◌≤◌, ◌<◌}
use native.Mathlib.Omega.{arith}
use mathlib.Core.Path.{◌≡◌, refl, sym, ap, ◌∙◌}
use mathlib.Core.Logic.{◌≢◌}
use mathlib.Core.Bool.{Bool, true, false, not, ◌&&◌, ◌||◌, or_self, true≢false}
use mathlib.Core.List.{List}
use lib.Dec.{eqb, ltb}
use lib.ListN.{get_or}
use borrow.Author.Tests.{lt-ltb, le-ltb}
use Rattle.lists.proofs.Bools.{eqb≡, ≡eqb, neqb, and_l, and_r, both, and-absent, lt-true}
use Rattle.games.specs.Games.{serves}
use Rattle.attracting.specs.Attracting.{Apart}
use Rattle.levels.specs.Levels.{won_mark, live, rows_task, lost_task, held_task}

-- ---- what a player has won
pub won-low : (p : ℕ) (j : Bool) → 4 * p + 1 ≤ won_mark p j
won-low p true = omega arith
won-low p false = omega arith

pub won-high : (p : ℕ) (j : Bool) → won_mark p j ≤ 4 * p + 2
won-high p true = omega arith
won-high p false = omega arith

pub won-is : (p : ℕ) (j : Bool) → eqb (won_mark p j) (won_mark p true) ≡ j
won-is p true = ≡eqb (4 * p + 2) (4 * p + 2) refl
won-is p false = neqb (4 * p + 1) (4 * p + 2) (λ e. absurd (omega arith))

pub won-other : (p : ℕ) (j : Bool) → won_mark p j ≢ won_mark p (not j)
won-other p true = λ e. absurd (omega arith)
won-other p false = λ e. absurd (omega arith)

-- ---- the marks of each task are apart
pub rows_apart : (p : ℕ) → p ≤ 32 → Apart (rows_task p)
rows_apart p h = record { not_live = λ z. absurd (omega arith); not_also = λ z. absurd (omega arith); live_in = omega arith; also_in = omega arith; to_in = omega arith }

pub lost-apart : (p : ℕ) → Apart (lost_task p)
lost-apart p = record {
  not_live = λ z. absurd (omega (arith, z, won-low (p + 1) (not (serves p))));
  not_also = λ z. won-other (p + 1) (serves p) (sym z);
  live_in = omega arith;
  also_in = omega (arith, won-low (p + 1) (serves p));
  to_in = omega (arith, won-low (p + 1) (not (serves p)));
}

pub held-apart : (p : ℕ) → p ≤ 32 → Apart (held_task p)
held-apart p h = record { not_live = λ z. absurd (omega arith); not_also = λ z. absurd (omega arith); live_in = omega arith; also_in = omega arith; to_in = omega arith }

-- ---- live states
module _ (states : ℕ) (m : List ℕ) (s : ℕ) where
  pub live_state : live states m s ≡ true → s < states
  live_state e = lt-true s states (and_l (ltb s states) (eqb (get_or m s 0) 255) e)

  pub live-mark : live states m s ≡ true → get_or m s 0 ≡ 255
  live-mark e = eqb≡ (get_or m s 0) 255 (and_r (ltb s states) (eqb (get_or m s 0) 255) e)

  pub mark-live : s < states → get_or m s 0 ≡ 255 → live states m s ≡ true
  mark-live h e = both (ltb s states) (eqb (get_or m s 0) 255) (lt-ltb s states h) (≡eqb (get_or m s 0) 255 e)

  pub mark-not : get_or m s 0 ≢ 255 → live states m s ≡ false
  mark-not e = and-absent (ltb s states) (eqb (get_or m s 0) 255) (neqb (get_or m s 0) 255 e)

  pub not-mark : s < states → live states m s ≡ false → get_or m s 0 ≢ 255
  not-mark h e q = true≢false (sym (mark-live h q) ∙ e)

  pub out_of_range : states ≤ s → live states m s ≡ false
  out_of_range h = rw (le-ltb s states h) refl

  -- the live states are those that wait for an attraction from them
  pub live-waits : live states m s ≡ ltb s states && (eqb (get_or m s 0) 255 || eqb (get_or m s 0) 255)
  live-waits = ap (λ (b : Bool). ltb s states && b) (sym (or_self (eqb (get_or m s 0) 255)))
