-- The pigeonhole principle, and its use for iterates: among S states, a run repeats within S rounds. Assumes nothing.
use Prim.Native.Nat.{ℕ, zero, suc, ◌-◌, ◌≤◌, ◌<◌}
use native.Mathlib.Omega.{arith}
use native.Mathlib.Decide.{ℕ_discrete}
use mathlib.Core.Path.{◌≡◌, sym, ◌∙◌}
use mathlib.Core.Logic.{◌⊎◌, inl, inr, ◌≢◌}
use Rattle.recurrence.specs.Iterates.{iter}

-- bounded search
pub search-below : (g : ℕ → ℕ) (v n : ℕ) → ((i : ℕ) × (i < n) × (g i ≡ v)) ⊎ ((i : ℕ) → i < n → g i ≢ v)
search-below g v zero = inr (λ i h. absurd (omega arith))
search-below g v (suc n) = go (search-below g v n) (ℕ_discrete (g n) v)
  where
    go : ((i : ℕ) × (i < n) × (g i ≡ v)) ⊎ ((i : ℕ) → i < n → g i ≢ v) → Dec (g n ≡ v) → ((i : ℕ) × (i < suc n) × (g i ≡ v)) ⊎ ((i : ℕ) → i < suc n → g i ≢ v)
    go (inl r) d = inl (r.0, omega arith, r.2)
    go (inr k) (yes e) = inl (n, omega arith, e)
    go (inr k) (no u) = inr (λ i h. pick i h (ℕ_discrete i n))
      where
        pick : (i : ℕ) → i < suc n → Dec (i ≡ n) → g i ≢ v
        pick i h (yes e) = rw e u
        pick i h (no w) = k i (omega arith)

abbrev repl : (x v : ℕ) {s : ℕ} → Dec (x ≡ s) → ℕ
repl x v (yes e) = v
repl x v (no u) = x

pub pigeon : (S : ℕ) (g : ℕ → ℕ) → ((i : ℕ) → i ≤ S → g i < S) → (i : ℕ) × (j : ℕ) × (i < j) × (j ≤ S) × (g i ≡ g j)
pigeon zero g h = absurd (omega (arith, h zero (omega arith)))
pigeon (suc S) g h = go (search-below g (g (suc S)) (suc S)) (pigeon S (λ i. repl (g i) (g (suc S)) (ℕ_discrete (g i) S)))
  where
    v : ℕ
    v = g (suc S)

    Found : Type 0
    Found = (i : ℕ) × (j : ℕ) × (i < j) × (j ≤ suc S) × (g i ≡ g j)

    low : (i : ℕ) → i ≤ S → g i ≢ g (suc S) → (d : Dec (g i ≡ S)) → repl (g i) (g (suc S)) d < S
    low i l u (yes e) = omega (arith, h (suc S) (omega arith))
    low i l u (no w) = omega (arith, h i (omega arith))

    back : (i j : ℕ) → g i ≢ g (suc S) → g j ≢ g (suc S) → (d : Dec (g i ≡ S)) (d' : Dec (g j ≡ S)) → repl (g i) (g (suc S)) d ≡ repl (g j) (g (suc S)) d' → g i ≡ g j
    back i j u w (yes e) (yes e') q = e ∙ sym e'
    back i j u w (yes e) (no k) q = absurd (w (sym q))
    back i j u w (no k) (yes e) q = absurd (u q)
    back i j u w (no k) (no k') q = q

    go : ((i : ℕ) × (i < suc S) × (g i ≡ g (suc S))) ⊎ ((i : ℕ) → i < suc S → g i ≢ g (suc S))
        → (((i : ℕ) → i ≤ S → repl (g i) (g (suc S)) (ℕ_discrete (g i) S) < S) → (i : ℕ) × (j : ℕ) × (i < j) × (j ≤ S) × (repl (g i) (g (suc S)) (ℕ_discrete (g i) S) ≡ repl (g j) (g (suc S)) (ℕ_discrete (g j) S)))
        → Found
    go (inl r) ih = (r.0, suc S, r.1, omega arith, r.2)
    go (inr k) ih = wrap (ih (λ i l. low i l (k i (omega arith)) (ℕ_discrete (g i) S)))
      where
        wrap : ((i : ℕ) × (j : ℕ) × (i < j) × (j ≤ S) × (repl (g i) (g (suc S)) (ℕ_discrete (g i) S) ≡ repl (g j) (g (suc S)) (ℕ_discrete (g j) S))) → Found
        wrap r = (r.0, r.1, r.2, omega arith, back r.0 r.1 (k r.0 (omega arith)) (k r.1 (omega arith)) (ℕ_discrete (g r.0) S) (ℕ_discrete (g r.1) S) r.4)

pub iter-below : (f : ℕ → ℕ) (S x : ℕ) → ((y : ℕ) → y < S → f y < S) → x < S → (n : ℕ) → iter f n x < S
unfolding iter
iter-below f S x hf hx zero = hx
iter-below f S x hf hx (suc n) = hf (iter f n x) (iter-below f S x hf hx n)

pub iter-repeats : (f : ℕ → ℕ) (S x : ℕ) → ((y : ℕ) → y < S → f y < S) → x < S → (i : ℕ) × (j : ℕ) × (i < j) × (j ≤ S) × (iter f i x ≡ iter f j x)
iter-repeats f S x hf hx = pigeon S (λ n. iter f n x) (λ i l. iter-below f S x hf hx i)
