-- The least and the greatest: of the numbers that pass a test, of a list, by a number that each member has; and tests that an interval passes. Assumes nothing.
use Prim.Native.Nat.{ℕ, zero, suc, ◌-◌, ◌≤◌, ◌<◌}
use native.Mathlib.Omega.{arith}
use native.Mathlib.Nat.{le_refl}
use native.Mathlib.Decide.{ℕ_discrete, dec_lt, dec_le}
use mathlib.Core.Path.{◌≡◌, refl, sym, ap, ◌∙◌, subst}
use mathlib.Core.Logic.{◌⊎◌, inl, inr, ◌↔◌}
use mathlib.Core.Bool.{Bool, true, false, true≢false, false≢true}
use mathlib.Core.List.Memᴰ
use mathlib.Core.List.{List, [], ◌∷◌, Memᴰ}
use Rattle.lists.specs.Lists.{any, below}
use Rattle.lists.proofs.Bools.{test}
use Rattle.lists.proofs.Lists.{any_some, none_any, below-lt}

-- the least number that passes, from one that does
least-to : (t : ℕ → Bool) (k n : ℕ) → n < k → t n ≡ true → (u : ℕ) × (t u ≡ true) × (any t (below u) ≡ false)
least-to t zero n l h = absurd (omega arith)
least-to t (suc k) n l h = go (test (any t (below n))) (least-to t k)
  where
    go : (any t (below n) ≡ true) ⊎ (any t (below n) ≡ false) → ((m : ℕ) → m < k → t m ≡ true → (u : ℕ) × (t u ≡ true) × (any t (below u) ≡ false)) → (u : ℕ) × (t u ≡ true) × (any t (below u) ≡ false)
    go (inl a) ih = let r = any_some t (below n) a in ih r.0 (omega (arith, below-lt n r.0 r.1)) r.2
    go (inr a) ih = (n, h, a)

pub least : (t : ℕ → Bool) (n : ℕ) → t n ≡ true → (u : ℕ) × (t u ≡ true) × (any t (below u) ≡ false)
least t n h = least-to t (suc n) n (omega arith) h

-- a member of least f
pub least_by : (f : ℕ → ℕ) (a : ℕ) (l : List ℕ) → (n : ℕ) × Memᴰ n (a ∷ l) × ((y : ℕ) → Memᴰ y (a ∷ l) → f n ≤ f y)
least_by f a [] = (a, Memᴰ.head refl, λ y m. omega (arith, ap f (Memᴰ.eq_of_singleton m)))
least_by f a (b ∷ l) = go (least_by f b l)
  where
    go : ((n : ℕ) × Memᴰ n (b ∷ l) × ((y : ℕ) → Memᴰ y (b ∷ l) → f n ≤ f y)) → (n : ℕ) × Memᴰ n (a ∷ b ∷ l) × ((y : ℕ) → Memᴰ y (a ∷ b ∷ l) → f n ≤ f y)
    go r = pick (dec_le (f a) (f r.0))
      where
        low : (n : ℕ) → f n ≤ f a → f n ≤ f r.0 → (y : ℕ) → (y ≡ a) ⊎ Memᴰ y (b ∷ l) → f n ≤ f y
        low n h k y (inl e) = omega (arith, ap f e)
        low n h k y (inr m) = omega (arith, r.2 y m)

        pick : Dec (f a ≤ f r.0) → (n : ℕ) × Memᴰ n (a ∷ b ∷ l) × ((y : ℕ) → Memᴰ y (a ∷ b ∷ l) → f n ≤ f y)
        pick (yes h) = (a, Memᴰ.head refl, λ y m. low a (le_refl (f a)) h y (Memᴰ.cases_cons m))
        pick (no h) = (r.0, Memᴰ.tail r.1, λ y m. low r.0 (omega arith) (le_refl (f r.0)) y (Memᴰ.cases_cons m))

-- the greatest number of the list that passes the test
pub greatest : (p : ℕ → Bool) (l : List ℕ) → any p l ≡ true → (y : ℕ) × Memᴰ y l × (p y ≡ true) × ((z : ℕ) → Memᴰ z l → p z ≡ true → z ≤ y)
greatest p [] e = absurd (false≢true e)
greatest p (x ∷ xs) e = go (test (p x)) (test (any p xs)) (greatest p xs)
  where
    Best : List ℕ → Type 0
    Best l = (y : ℕ) × Memᴰ y l × (p y ≡ true) × ((z : ℕ) → Memᴰ z l → p z ≡ true → z ≤ y)

    step : (t : p x ≡ true) (r : Best xs) → Dec (x ≤ r.0) → Best (x ∷ xs)
    step t r (yes h) = (r.0, Memᴰ.tail r.1, r.2, λ z m q. pick z q (Memᴰ.cases_cons m))
      where
        pick : (z : ℕ) → p z ≡ true → (z ≡ x) ⊎ Memᴰ z xs → z ≤ r.0
        pick z q (inl k) = omega arith
        pick z q (inr k) = r.3 z k q
    step t r (no h) = (x, Memᴰ.head refl, t, λ z m q. pick z q (Memᴰ.cases_cons m))
      where
        pick : (z : ℕ) → p z ≡ true → (z ≡ x) ⊎ Memᴰ z xs → z ≤ x
        pick z q (inl k) = omega arith
        pick z q (inr k) = omega (arith, r.3 z k q)

    go : (p x ≡ true) ⊎ (p x ≡ false) → (any p xs ≡ true) ⊎ (any p xs ≡ false) → (any p xs ≡ true → Best xs) → Best (x ∷ xs)
    go (inl t) (inl a) ih = step t (ih a) (dec_le x (ih a).0)
    go (inl t) (inr n) ih = (x, Memᴰ.head refl, t, λ z m q. pick z q (Memᴰ.cases_cons m))
      where
        pick : (z : ℕ) → p z ≡ true → (z ≡ x) ⊎ Memᴰ z xs → z ≤ x
        pick z q (inl k) = omega arith
        pick z q (inr k) = absurd (false≢true (sym (none_any p xs n z k) ∙ q))
    go (inr f) (inl a) ih = ((ih a).0, Memᴰ.tail (ih a).1, (ih a).2, λ z m q. pick z q (Memᴰ.cases_cons m))
      where
        pick : (z : ℕ) → p z ≡ true → (z ≡ x) ⊎ Memᴰ z xs → z ≤ (ih a).0
        pick z q (inl k) = absurd (false≢true (sym f ∙ ap p (sym k) ∙ q))
        pick z q (inr k) = (ih a).3 z k q
    go (inr f) (inr n) ih = absurd (false≢true (sym n ∙ (rw f at e)))

-- a test that n passes, no lesser number, and with a later number also the one before it: those that pass are n up to some end
pub interval : (d : ℕ → Bool) (n k : ℕ) → n < k → d n ≡ true → ((j : ℕ) → j < k → d j ≡ true → n ≤ j) → ((j : ℕ) → n ≤ j → suc j < k → d (suc j) ≡ true → d j ≡ true)
    → (end : ℕ) × (n < end) × (end ≤ k) × ((j : ℕ) → j < k → (d j ≡ true) ↔ ((n ≤ j) × (j < end)))
interval d n zero l t low back = absurd (omega arith)
interval d n (suc k) l t low back = go (ℕ_discrete n k) (λ h. interval d n k h t (λ j q. low j (omega arith)) (λ j i q. back j i (omega arith)))
  where
    End : ℕ → Type 0
    End k = (end : ℕ) × (n < end) × (end ≤ k) × ((j : ℕ) → j < k → (d j ≡ true) ↔ ((n ≤ j) × (j < end)))

    first : n ≡ k → End (suc k)
    first e = (suc k, omega arith, omega arith, λ j q. (λ u. (low j q u, q), λ w. subst (λ (i : ℕ). d i ≡ true) (omega (arith, w.0)) t))

    -- k passes, so the number before it does, and the end so far is k
    longer : n < k → d k ≡ true → End k → End (suc k)
    longer h u r = (suc k, omega arith, omega arith, λ j q. (λ w. (low j q w, q), λ w. pick j q w.0 (dec_lt j k)))
      where
        whole : k ≤ r.0
        whole = omega (arith, ((r.3 (k - 1) (omega arith)).0 (back (k - 1) (omega arith) (omega arith) (subst (λ (i : ℕ). d i ≡ true) (omega arith) u))).1)

        pick : (j : ℕ) → j < suc k → n ≤ j → Dec (j < k) → d j ≡ true
        pick j q i (yes g) = (r.3 j g).1 (i, omega (arith, whole))
        pick j q i (no g) = subst (λ (i : ℕ). d i ≡ true) (omega arith) u

    same : d k ≡ false → End k → End (suc k)
    same f r = (r.0, r.1, omega (arith, r.2), λ j q. pick j q (dec_lt j k))
      where
        pick : (j : ℕ) → j < suc k → Dec (j < k) → (d j ≡ true) ↔ ((n ≤ j) × (j < r.0))
        pick j q (yes g) = r.3 j g
        pick j q (no g) = let e : j ≡ k = omega arith in (λ u. absurd (true≢false (sym u ∙ ap d e ∙ f)), λ w. absurd (omega (arith, w.1, r.2)))

    go : Dec (n ≡ k) → (n < k → End k) → End (suc k)
    go (yes e) ih = first e
    go (no e) ih = pick (test (d k))
      where
        pick : (d k ≡ true) ⊎ (d k ≡ false) → End (suc k)
        pick (inl u) = longer (omega arith) u (ih (omega arith))
        pick (inr f) = same f (ih (omega arith))
