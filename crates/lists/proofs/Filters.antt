-- Filtered lists: of two lists one after the other, where all or none pass, by tests that agree; and how many numbers of an interval. Assumes nothing.
use Prim.Native.Nat.{ℕ, zero, suc, ◌+◌, ◌-◌, ◌≤◌, ◌<◌, min}
use native.Mathlib.Omega.{arith}
use native.Mathlib.Decide.{dec_lt}
use mathlib.Core.Path.{◌≡◌, refl, sym, ap, ◌∙◌}
use mathlib.Core.Logic.{◌⊎◌, inl, inr, ◌↔◌}
use mathlib.Core.Bool.{Bool, true, false, cond, true≢false}
use mathlib.Core.List.{List, [], ◌∷◌, ◌++◌, Memᴰ}
use lib.ListN.{length, length-append}
use Rattle.lists.specs.Lists.{filter, below}
use Rattle.lists.proofs.Bools.{test}

module _ {A : Type 0} where
  pub filter-append : (t : A → Bool) (l r : List A) → filter t (l ++ r) ≡ filter t l ++ filter t r
  filter-append t [] r = refl
  filter-append t (x ∷ l) r = go (t x) (filter-append t l r)
    where
      go : (b : Bool) → filter t (l ++ r) ≡ filter t l ++ filter t r → cond b (x ∷ filter t (l ++ r)) (filter t (l ++ r)) ≡ cond b (x ∷ filter t l) (filter t l) ++ filter t r
      go true e = ap (λ (z : List A). x ∷ z) e
      go false e = e

  pub filter-all : (t : A → Bool) (l : List A) → ((x : A) → Memᴰ x l → t x ≡ true) → filter t l ≡ l
  filter-all t [] h = refl
  filter-all t (x ∷ l) h = rw (h x (Memᴰ.head refl)) (ap (λ (z : List A). x ∷ z) (filter-all t l (λ y m. h y (Memᴰ.tail m))))

  pub filter_none : (t : A → Bool) (l : List A) → ((x : A) → Memᴰ x l → t x ≡ false) → filter t l ≡ []
  filter_none t [] h = refl
  filter_none t (x ∷ l) h = rw (h x (Memᴰ.head refl)) (filter_none t l (λ y m. h y (Memᴰ.tail m)))

  pub filter_same : (t u : A → Bool) → ((x : A) → t x ≡ u x) → (l : List A) → filter t l ≡ filter u l
  filter_same t u h [] = refl
  filter_same t u h (x ∷ l) = rw (h x, filter_same t u h l) refl

  pub filter-few : (t : A → Bool) (l : List A) → length (filter t l) ≤ length l
  filter-few t [] = omega arith
  filter-few t (x ∷ l) = go (t x) (filter-few t l)
    where
      go : (b : Bool) → length (filter t l) ≤ length l → length (cond b (x ∷ filter t l) (filter t l)) ≤ suc (length l)
      go true h = omega arith
      go false h = omega arith

-- how many numbers of an interval
pub interval-count : (d : ℕ → Bool) (n end k : ℕ) → n ≤ end → ((j : ℕ) → j < k → (d j ≡ true) ↔ ((n ≤ j) × (j < end))) → length (filter d (below k)) ≡ min k end - min k n
interval-count d n end zero h t = omega arith
interval-count d n end (suc k) h t =
    ap length (filter-append d (below k) (k ∷ [])) ∙ length-append (filter d (below k)) (filter d (k ∷ [])) ∙ go (test (d k)) (interval-count d n end k h (λ j q. t j (omega arith)))
  where
    go : (d k ≡ true) ⊎ (d k ≡ false) → length (filter d (below k)) ≡ min k end - min k n → length (filter d (below k)) + length (filter d (k ∷ [])) ≡ min (suc k) end - min (suc k) n
    go (inl u) ih = rw u (omega (arith, (t k (omega arith)).0 u))
    go (inr u) ih = out (dec_lt k n) (dec_lt k end)
      where
        out : Dec (k < n) → Dec (k < end) → length (filter d (below k)) + length (filter d (k ∷ [])) ≡ min (suc k) end - min (suc k) n
        out (yes a) b = rw u (omega arith)
        out (no a) (yes b) = absurd (true≢false (sym ((t k (omega arith)).1 (omega arith, b)) ∙ u))
        out (no a) (no b) = rw u (omega arith)
