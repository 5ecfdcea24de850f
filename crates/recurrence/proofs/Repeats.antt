-- A run that is found to come back: one way round meets exactly what the window of n rounds holds, and the rounds until then meet all that any round
-- meets. Assumes nothing.
use Prim.Native.Nat.{ℕ, zero, suc, ◌+◌, ◌-◌, ◌≤◌, ◌<◌}
use native.Mathlib.Omega.{arith}
use native.Mathlib.Nat.{add-zero}
use native.Mathlib.Decide.{dec_le}
use mathlib.Core.Path.{◌≡◌, refl, sym, ap, ◌∙◌}
use mathlib.Core.Logic.{◌↔◌}
use mathlib.Core.List.{List, ◌++◌, append-nil, append_assoc, Memᴰ}
use Rattle.recurrence.specs.Iterates.{iter, rounds}
use Rattle.recurrence.proofs.Recurs.{RecursInRounds}
use Rattle.recurrence.proofs.Pigeon.{pigeon}
use Rattle.recurrence.proofs.Periods.{shift, recurs-within, within-recurs, rounds-mem, mem-rounds}
use Rattle.recurrence.proofs.Runs.{numbered-window}

-- ---- rounds one after the other
-- rounds that lead to the same
pub iter-any : {A : Type 0} (f g : A → A) → ((x : A) → f x ≡ g x) → (k : ℕ) (x : A) → iter f k x ≡ iter g k x
unfolding iter
iter-any f g h zero x = refl
iter-any f g h (suc k) x = h (iter f k x) ∙ ap g (iter-any f g h k x)

-- what each round keeps, rounds keep
pub iter-keeps : {A : Type 0} (f : A → A) (P : A → Type 0) → ((y : A) → P y → P (f y)) → (x : A) → P x → (k : ℕ) → P (iter f k x)
unfolding iter
iter-keeps f P h x p zero = p
iter-keeps f P h x p (suc k) = h (iter f k x) (iter-keeps f P h x p k)

module _ {A B : Type 0} (f : A → A) (out : A → List B) (x : A) where
  -- one round more
  pub rounds-snoc : (i k : ℕ) → rounds f out x i (suc k) ≡ rounds f out x i k ++ out (iter f (i + k) x)
  unfolding rounds
  rounds-snoc i zero = append-nil (out (iter f i x)) ∙ ap (λ (z : ℕ). out (iter f z x)) (sym (add-zero i))
  rounds-snoc i (suc k) =
      let e : suc i + k ≡ i + suc k = omega arith in
      ap (λ (l : List B). out (iter f i x) ++ l) (rounds-snoc (suc i) k)
      ∙ sym (append_assoc (out (iter f i x)) (rounds f out x (suc i) k) (out (iter f (suc i + k) x)))
      ∙ ap (λ (z : ℕ). (out (iter f i x) ++ rounds f out x (suc i) k) ++ out (iter f z x)) e

  module _ (i k : ℕ) (some : 0 < k) (back : iter f i x ≡ iter f (i + k) x) where
    -- what recurs is what one way round meets
    pub recurs-period : (y : B) → RecursInRounds f out x y ↔ Memᴰ y (rounds f out x i k)
    recurs-period y = (
      λ h. let q = recurs-within f out x i (i + k) (omega arith) back y h in rounds-mem f out x i k q.0 y q.1 q.2 q.3,
      λ m. let q = mem-rounds f out x i k y m in within-recurs f out x i (i + k) (omega arith) back y q.0 q.1 q.3,
    )

    -- whatever some round meets is met before the run comes back
    pub met-before : (t : ℕ) (y : B) → Memᴰ y (out (iter f t x)) → Memᴰ y (rounds f out x 0 (i + k))
    met-before t y m = go (dec_le i t)
      where
        go : Dec (i ≤ t) → Memᴰ y (rounds f out x 0 (i + k))
        go (yes l) =
            let q = recurs-within f out x i (i + k) (omega arith) back y (within-recurs f out x i (i + k) (omega arith) back y t l m) in
            rounds-mem f out x 0 (i + k) q.0 y (omega arith) (omega (arith, q.2)) q.3
        go (no n) = rounds-mem f out x 0 (i + k) t y (omega arith) (omega arith) m

    -- the run is back again k rounds after any later round
    pub back-later : (j : ℕ) → i ≤ j → iter f j x ≡ iter f (j + k) x
    back-later j l =
        let a : j ≡ (j - i) + i = omega arith in
        let b : (j - i) + (i + k) ≡ j + k = omega arith in
        ap (λ (z : ℕ). iter f z x) a ∙ shift f out x i (i + k) (omega arith) back (j - i) ∙ ap (λ (z : ℕ). iter f z x) b

-- ---- among n numbered states
module _ {A B : Type 0} (f : A → A) (out : A → List B) (x : A) (code : A → ℕ) (decode : ℕ → A) (decoded : (y : A) → decode (code y) ≡ y)
    (coded : (c : ℕ) → code (decode c) ≡ c) (n : ℕ) (stays : (y : A) → code y < n → code (f y) < n) (start : code x < n) where
  -- a run comes back within n rounds
  pub repeats : (i : ℕ) × (k : ℕ) × (0 < k) × (i + k ≤ n) × (iter f i x ≡ iter f (i + k) x)
  repeats =
      let q = pigeon n (λ t. code (iter f t x)) (λ t l. iter-keeps f (λ y. code y < n) stays x start t) in
      let e : q.1 ≡ q.0 + (q.1 - q.0) = omega (arith, q.2) in
      (q.0, q.1 - q.0, omega (arith, q.2), omega (arith, q.2, q.3), sym (decoded (iter f q.0 x)) ∙ ap decode q.4 ∙ decoded (iter f q.1 x) ∙ ap (λ (t : ℕ). iter f t x) e)

  -- whatever some round meets, one of the first n rounds meets
  pub met-first : (t : ℕ) (y : B) → Memᴰ y (out (iter f t x)) → Memᴰ y (rounds f out x 0 n)
  met-first t y m =
      let r = repeats in
      let q = mem-rounds f out x 0 (r.0 + r.1) y (met-before f out x r.0 r.1 r.2 r.4 t y m) in
      rounds-mem f out x 0 n q.0 y q.1 (omega (arith, q.2, r.3)) q.3

  module _ (i k : ℕ) (some : 0 < k) (back : iter f i x ≡ iter f (i + k) x) where
    -- one way round meets exactly what the window holds
    pub period-window : (y : B) → Memᴰ y (rounds f out x i k) ↔ Memᴰ y (rounds f out x n n)
    period-window y =
        let w = numbered-window f out code decode decoded coded n stays x start y in
        let r = recurs-period f out x i k some back y in
        (λ m. w.0 (r.1 m), λ m. r.0 (w.1 m))

    -- the rounds until the run is found to be back meet exactly what the first n rounds meet
    pub before-first : (y : B) → Memᴰ y (rounds f out x 0 (i + k)) ↔ Memᴰ y (rounds f out x 0 n)
    before-first y = (
      λ m. let q = mem-rounds f out x 0 (i + k) y m in met-first q.0 y q.3,
      λ m. let q = mem-rounds f out x 0 n y m in met-before f out x i k some back q.0 y q.3,
    )
