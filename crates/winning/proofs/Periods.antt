-- Sequences that come back: a sequence that repeats a value and goes on alike is periodic, what it meets from there on recurs, and letters that come back are those of a stem and a loop.
-- Assumes nothing.
use Prim.Native.Nat.{ℕ, zero, suc, ◌+◌, ◌-◌, ◌*◌, ◌/◌, ◌%◌, ◌≤◌, ◌<◌}
use native.Mathlib.Omega.{arith}
use native.Mathlib.Decide.{dec_lt}
use native.Mathlib.Nat.{zero-mul, suc-mul, mul-pos, le-mul_of_pos_right, mod-lt, div-add-mod', add-mod_left}
use mathlib.Core.Path.{◌≡◌, refl, sym, ap, ◌∙◌}
use mathlib.Core.List.{List, map}
use lib.ListN.{length, get_or}
use borrow.Author.Tests.{lt-ltb, le-ltb}
use Rattle.lists.specs.Lists.{below}
use Rattle.lists.proofs.Lists.{length-map-below, get_or-map-below}
use Rattle.games.specs.Games.{Recurs}
use Rattle.correctness.specs.Demand3.{letter_at}

-- from place `from` on, f is the same again after every `period` places
pub record Periodic {A : Type 0} (f : ℕ → A) (from period : ℕ) : Type 0 where
  pub some : 0 < period
  pub back : (n : ℕ) → f (from + (period + n)) ≡ f (from + n)

module _ {A : Type 0} (f : ℕ → A) (from period : ℕ) (h : Periodic f from period) where
  pub many-back : (q n : ℕ) → f (from + (q * period + n)) ≡ f (from + n)
  many-back zero n = let e : from + (0 * period + n) ≡ from + n = omega (arith, zero-mul period) in ap f e
  many-back (suc q) n =
      let e : from + (suc q * period + n) ≡ from + (period + (q * period + n)) = omega (arith, suc-mul q period) in
      ap f e ∙ h.back (q * period + n) ∙ many-back q n

  -- several periods at once, and a later beginning
  pub periodic-later : (d q : ℕ) → 0 < q → Periodic f (from + d) (q * period)
  periodic-later d q l = record { some = mul-pos l h.some; back = again }
    where
      again : (n : ℕ) → f (from + d + (q * period + n)) ≡ f (from + d + n)
      again n =
          let e : from + d + (q * period + n) ≡ from + (q * period + (d + n)) = omega arith in
          let z : from + (d + n) ≡ from + d + n = omega arith in
          ap f e ∙ many-back q (d + n) ∙ ap f z

-- ---- a sequence whose next value is decided by the place and the value
module _ {A : Type 0} (x : ℕ → A) (next : ℕ → A → A) (goes : (n : ℕ) → x (suc n) ≡ next n (x n)) (from period : ℕ) (some : 0 < period)
    (alike : (n : ℕ) (y : A) → next (from + (period + n)) y ≡ next (from + n) y) (again : x (from + period) ≡ x from) where
  pub comes_back : Periodic x from period
  comes_back = record { some = some; back = back }
    where
      back : (n : ℕ) → x (from + (period + n)) ≡ x (from + n)
      back zero =
          let e : from + (period + 0) ≡ from + period = omega arith in
          let z : from ≡ from + 0 = omega arith in
          ap x e ∙ again ∙ ap x z
      back (suc n) =
          let e : from + (period + suc n) ≡ suc (from + (period + n)) = omega arith in
          let z : suc (from + n) ≡ from + suc n = omega arith in
          ap x e ∙ goes (from + (period + n)) ∙ alike n (x (from + (period + n))) ∙ ap (next (from + n)) (back n) ∙ sym (goes (from + n)) ∙ ap x z

-- ---- numbers
module _ (f : ℕ → ℕ) (from period : ℕ) (h : Periodic f from period) where
  -- what is met from there on recurs
  pub met-recurs : (m : ℕ) → from ≤ m → Recurs f (f m)
  met-recurs m l n =
      let e : from + (m - from) ≡ m = omega arith in
      (from + (n * period + (m - from)), omega (arith, le-mul_of_pos_right n h.some), many-back f from period h n (m - from) ∙ ap f e)

  -- what recurs is met within a period
  pub recurs-soon : (k : ℕ) → Recurs f k → (n : ℕ) → from ≤ n → (i : ℕ) × (i < period) × (f (n + i) ≡ k)
  recurs-soon k r n l = go (r n)
    where
      go : (m : ℕ) × (n ≤ m) × (f m ≡ k) → (i : ℕ) × (i < period) × (f (n + i) ≡ k)
      go t =
          let d = t.0 - n in
          let e : n + d % period ≡ from + ((n - from) + d % period) = omega arith in
          let z : from + (d / period * period + ((n - from) + d % period)) ≡ t.0 = omega (arith, div-add-mod' d period, t.1) in
          (d % period, mod-lt d h.some, ap f e ∙ sym (many-back f from period h (d / period) ((n - from) + d % period)) ∙ ap f z ∙ t.2)

-- ---- letters
-- those of a stem and a loop come back with the loop
pub loop-back : (stem loop : List ℕ) → 0 < length loop → Periodic (letter_at stem loop) (length stem) (length loop)
unfolding letter_at
loop-back stem loop some = record { some = some; back = back }
  where
    later : (n : ℕ) → letter_at stem loop (length stem + n) ≡ get_or loop (n % length loop) 0
    later n =
        let e : (length stem + n) - length stem ≡ n = omega arith in
        rw (le-ltb (length stem + n) (length stem) (omega arith), e) refl

    back : (n : ℕ) → letter_at stem loop (length stem + (length loop + n)) ≡ letter_at stem loop (length stem + n)
    back n = later (length loop + n) ∙ ap (λ (i : ℕ). get_or loop i 0) (add-mod_left (length loop) n) ∙ sym (later n)

-- and letters that come back are those of a stem and a loop
abbrev pub stem_of : (ℕ → ℕ) → ℕ → List ℕ
stem_of letter from = map letter (below from)

abbrev pub loop_of : (ℕ → ℕ) → ℕ → ℕ → List ℕ
loop_of letter from period = map (λ i. letter (from + i)) (below period)

pub reads-stem-and-loop : (letter : ℕ → ℕ) (from period : ℕ) → Periodic letter from period → (n : ℕ) → letter n ≡ letter_at (stem_of letter from) (loop_of letter from period) n
unfolding letter_at
reads-stem-and-loop letter from period h n = go (dec_lt n from)
  where
    go : Dec (n < from) → letter n ≡ letter_at (stem_of letter from) (loop_of letter from period) n
    go (yes l) = rw (length-map-below letter from, lt-ltb n from l) (sym (get_or-map-below letter from n 0 l))
    go (no l) =
        let i = (n - from) % period in
        let e : n ≡ from + ((n - from) / period * period + i) = omega (arith, div-add-mod' (n - from) period) in
        rw (length-map-below letter from, length-map-below (λ i. letter (from + i)) period, le-ltb n from (omega arith))
        (ap letter e ∙ many-back letter from period h ((n - from) / period) i ∙ sym (get_or-map-below (λ i. letter (from + i)) period i 0 (mod-lt (n - from) h.some)))
