-- What recurs in a run that comes back is exactly what it meets on one way round; so, among S states, what the rounds S to 2 S - 1 meet.
-- Assumes nothing.
use Prim.Native.Nat.{ℕ, zero, suc, ◌+◌, ◌-◌, ◌≤◌, ◌<◌}
use native.Mathlib.Omega.{arith}
use native.Mathlib.Nat.{zero-add, suc-add}
use native.Mathlib.Decide.{dec_lt, dec_le, ℕ_discrete}
use mathlib.Core.Path.{◌≡◌, refl, sym, ap, ◌∙◌, subst}
use mathlib.Core.Logic.{◌⊎◌, inl, inr, ◌↔◌}
use mathlib.Core.List.Memᴰ
use mathlib.Core.List.{List, ◌++◌, Memᴰ}
use Rattle.recurrence.specs.Iterates.{iter, rounds}
use Rattle.recurrence.proofs.Recurs.{RecursInRounds}
use Rattle.recurrence.proofs.Pigeon.{iter-repeats}

module _ {A B : Type 0} (f : A → A) (out : A → List B) (x : A) where
  module _ (i j : ℕ) (lt : i < j) (back : iter f i x ≡ iter f j x) where
    pub shift : (d : ℕ) → iter f (d + i) x ≡ iter f (d + j) x
    unfolding iter
    shift zero = ap (λ (k : ℕ). iter f k x) (zero-add i) ∙ back ∙ ap (λ (k : ℕ). iter f k x) (sym (zero-add j))
    shift (suc d) = ap (λ (k : ℕ). iter f k x) (suc-add d i) ∙ ap f (shift d) ∙ ap (λ (k : ℕ). iter f k x) (sym (suc-add d j))

    later : (t : ℕ) → i ≤ t → (n : ℕ) → (r : ℕ) × (n ≤ r) × (i ≤ r) × (iter f r x ≡ iter f t x)
    later t l zero = (t, omega arith, l, refl)
    later t l (suc n) =
        let q = later t l n in
        ((q.0 - i) + j, omega (arith, q.1, q.2), omega (arith, q.2), sym (shift (q.0 - i)) ∙ ap (λ (k : ℕ). iter f k x) (omega (arith, q.2)) ∙ q.3)

    within : (r : ℕ) → i ≤ r → (t : ℕ) × (i ≤ t) × (t < j) × (iter f r x ≡ iter f t x)
    unfolding iter
    within zero l = (zero, l, omega arith, refl)
    within (suc r) l = go (dec_le i r) (within r)
      where
        Here : Type 0
        Here = (t : ℕ) × (i ≤ t) × (t < j) × (iter f (suc r) x ≡ iter f t x)

        next : (q : (t : ℕ) × (i ≤ t) × (t < j) × (iter f r x ≡ iter f t x)) → Dec (suc q.0 < j) → Here
        next q (yes k) = (suc q.0, omega (arith, q.1), k, ap f q.3)
        next q (no k) = let e : suc q.0 ≡ j = omega (arith, q.2) in (i, omega arith, lt, ap f q.3 ∙ ap (λ (k : ℕ). iter f k x) e ∙ sym back)

        go : Dec (i ≤ r) → (i ≤ r → (t : ℕ) × (i ≤ t) × (t < j) × (iter f r x ≡ iter f t x)) → Here
        go (yes k) ih = let q = ih k in next q (dec_lt (suc q.0) j)
        go (no k) ih = (suc r, l, omega arith, refl)

    pub recurs-within : (y : B) → RecursInRounds f out x y → (t : ℕ) × (i ≤ t) × (t < j) × Memᴰ y (out (iter f t x))
    recurs-within y h =
        let r = h i in
        let q = within r.0 r.1 in
        (q.0, q.1, q.2, subst (λ (z : A). Memᴰ y (out z)) q.3 r.2)

    pub within-recurs : (y : B) (t : ℕ) → i ≤ t → Memᴰ y (out (iter f t x)) → RecursInRounds f out x y
    within-recurs y t l m n = let q = later t l n in (q.0, q.1, subst (λ (z : A). Memᴰ y (out z)) (sym q.3) m)

  pub rounds-mem : (i k t : ℕ) (y : B) → i ≤ t → t < i + k → Memᴰ y (out (iter f t x)) → Memᴰ y (rounds f out x i k)
  unfolding rounds
  rounds-mem i zero t y l h m = absurd (omega arith)
  rounds-mem i (suc k) t y l h m = go (ℕ_discrete i t) (λ q. rounds-mem (suc i) k t y q (omega arith) m)
    where
      go : Dec (i ≡ t) → (i < t → Memᴰ y (rounds f out x (suc i) k)) → Memᴰ y (out (iter f i x) ++ rounds f out x (suc i) k)
      go (yes e) ih = Memᴰ.append_left (rounds f out x (suc i) k) (subst (λ (z : ℕ). Memᴰ y (out (iter f z x))) (sym e) m)
      go (no n) ih = Memᴰ.append_right (out (iter f i x)) (ih (omega arith))

  pub mem-rounds : (i k : ℕ) (y : B) → Memᴰ y (rounds f out x i k) → (t : ℕ) × (i ≤ t) × (t < i + k) × Memᴰ y (out (iter f t x))
  unfolding rounds
  mem-rounds i zero y m = absurd (Memᴰ.not-nil m)
  mem-rounds i (suc k) y m = go (Memᴰ.append_cases (out (iter f i x)) m) (mem-rounds (suc i) k y)
    where
      go : Memᴰ y (out (iter f i x)) ⊎ Memᴰ y (rounds f out x (suc i) k) → (Memᴰ y (rounds f out x (suc i) k) → (t : ℕ) × (suc i ≤ t) × (t < suc i + k) × Memᴰ y (out (iter f t x)))
          → (t : ℕ) × (i ≤ t) × (t < i + suc k) × Memᴰ y (out (iter f t x))
      go (inl q) ih = (i, omega arith, omega arith, q)
      go (inr q) ih = let r = ih q in (r.0, omega (arith, r.1), omega (arith, r.2), r.3)

-- ---- a run among S states
module _ {B : Type 0} (f : ℕ → ℕ) (out : ℕ → List B) (x S : ℕ) (stays : (y : ℕ) → y < S → f y < S) (start : x < S) where
  pub recurs-window : (y : B) → RecursInRounds f out x y ↔ Memᴰ y (rounds f out x S S)
  recurs-window y = go (iter-repeats f S x stays start)
    where
      go : ((i : ℕ) × (j : ℕ) × (i < j) × (j ≤ S) × (iter f i x ≡ iter f j x)) → RecursInRounds f out x y ↔ Memᴰ y (rounds f out x S S)
      go r = (to, from)
        where
          i : ℕ
          i = r.0

          j : ℕ
          j = r.1

          later : iter f S x ≡ iter f (S + (j - i)) x
          later =
              let a : S ≡ (S - r.0) + r.0 = omega (arith, r.2, r.3) in
              let b : (S - r.0) + r.1 ≡ S + (r.1 - r.0) = omega (arith, r.2, r.3) in
              ap (λ (k : ℕ). iter f k x) a ∙ shift f out x r.0 r.1 r.2 r.4 (S - r.0) ∙ ap (λ (k : ℕ). iter f k x) b

          to : RecursInRounds f out x y → Memᴰ y (rounds f out x S S)
          to h =
              let q = recurs-within f out x S (S + (r.1 - r.0)) (omega (arith, r.2)) later y h in
              rounds-mem f out x S S q.0 y q.1 (omega (arith, q.2, r.2, r.3)) q.3

          from : Memᴰ y (rounds f out x S S) → RecursInRounds f out x y
          from m =
              let q = mem-rounds f out x S S y m in
              within-recurs f out x r.0 r.1 r.2 r.4 y q.0 (omega (arith, q.1, r.2, r.3)) q.3
