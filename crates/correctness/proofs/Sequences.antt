-- A sequence of states that reads the letters of a stem and a loop one at a time is the run over them: at the rounds' ends it is where the rounds lead, and
-- what recurs among what its letters meet is what recurs in the run. Assumes nothing.
use Prim.Native.Nat.{ℕ, zero, suc, ◌+◌, ◌-◌, ◌*◌, ◌<◌}
use native.Mathlib.Omega.{arith}
use native.Mathlib.Nat.{add-zero, suc-mul, zero-mul}
use mathlib.Core.Path.{◌≡◌, refl, sym, ap, ◌∙◌, subst}
use mathlib.Core.Logic.{◌⊎◌, inl, inr, ◌↔◌}
use mathlib.Core.List.Memᴰ
use mathlib.Core.List.{List, [], ◌∷◌, Memᴰ}
use lib.Arith.{digits_mod}
use lib.ListN.{length, get_or}
use borrow.Author.Tests.{lt-ltb, le-ltb}
use Rattle.recurrence.specs.Iterates.{iter}
use Rattle.recurrence.specs.Runs.{after, met}
use Rattle.recurrence.proofs.Recurs.{RecursInRun}
use Rattle.correctness.specs.Demand3.{letter_at, Recurs}

-- ---- the letters
module _ (stem loop : List ℕ) where
  -- where round r begins
  abbrev pub round_start : ℕ → ℕ
  round_start r = length stem + r * length loop

  stem-letter : (j : ℕ) → j < length stem → letter_at stem loop (0 + j) ≡ get_or stem j 0
  unfolding letter_at
  stem-letter j h = let e : 0 + j ≡ j = omega arith in rw (e, lt-ltb j (length stem) h) refl

  loop-letter : (r j : ℕ) → j < length loop → letter_at stem loop (round_start r + j) ≡ get_or loop j 0
  unfolding letter_at
  loop-letter r j h =
      let e : (length stem + r * length loop + j) - length stem ≡ r * length loop + j = omega arith in
      rw (le-ltb (length stem + r * length loop + j) (length stem) (omega arith), e, digits_mod r h) refl

module _ {S B : Type 0} (step : S → ℕ → S) (meets : S → ℕ → List B) (letter : ℕ → ℕ) (state : ℕ → S) (goes : (i : ℕ) → state (suc i) ≡ step (state i) (letter i)) where
  -- ---- a word among the letters, from place k on
  abbrev Stands : List ℕ → ℕ → Type 0
  Stands w k = (j : ℕ) → j < length w → letter (k + j) ≡ get_or w j 0

  later : (a : ℕ) (w : List ℕ) (k : ℕ) → Stands (a ∷ w) k → Stands w (suc k)
  later a w k h j l = let e : suc k + j ≡ k + suc j = omega arith in ap letter e ∙ h (suc j) (omega arith)

  reads_first : (a : ℕ) (w : List ℕ) (k : ℕ) → Stands (a ∷ w) k → letter k ≡ a
  reads_first a w k h = ap letter (sym (add-zero k)) ∙ h 0 (omega arith)

  one_on : (a : ℕ) (w : List ℕ) (k : ℕ) → Stands (a ∷ w) k → state (suc k) ≡ step (state k) a
  one_on a w k h = goes k ∙ ap (step (state k)) (reads_first a w k h)

  after-word : (w : List ℕ) (k : ℕ) → Stands w k → state (k + length w) ≡ after step meets w (state k)
  unfolding after
  after-word [] k h = ap state (add-zero k)
  after-word (a ∷ w) k h =
      let e : k + suc (length w) ≡ suc k + length w = omega arith in
      ap state e ∙ after-word w (suc k) (later a w k h) ∙ ap (after step meets w) (one_on a w k h)

  abbrev met_at : ℕ → List B
  met_at i = meets (state i) (letter i)

  met-word : (w : List ℕ) (k : ℕ) → Stands w k → (y : B) → Memᴰ y (met step meets w (state k)) → (j : ℕ) × (j < length w) × Memᴰ y (met_at (k + j))
  unfolding met
  met-word [] k h y m = absurd (Memᴰ.not-nil m)
  met-word (a ∷ w) k h y m = go (Memᴰ.append_cases (meets (state k) a) m) (met-word w (suc k) (later a w k h) y)
    where
      go : Memᴰ y (meets (state k) a) ⊎ Memᴰ y (met step meets w (step (state k) a)) → (Memᴰ y (met step meets w (state (suc k))) → (j : ℕ) × (j < length w) × Memᴰ y (met_at (suc k + j)))
          → (j : ℕ) × (j < suc (length w)) × Memᴰ y (met_at (k + j))
      go (inl q) ih =
          (0, omega arith, subst (λ (i : ℕ). Memᴰ y (met_at i)) (sym (add-zero k)) (subst (λ (x : ℕ). Memᴰ y (meets (state k) x)) (sym (reads_first a w k h)) q))
      go (inr q) ih =
          let r = ih (subst (λ (s : S). Memᴰ y (met step meets w s)) (sym (one_on a w k h)) q) in
          let e : suc k + r.0 ≡ k + suc r.0 = omega arith in
          (suc r.0, omega (arith, r.1), subst (λ (i : ℕ). Memᴰ y (met_at i)) e r.2)

  word-met : (w : List ℕ) (k : ℕ) → Stands w k → (y : B) (j : ℕ) → j < length w → Memᴰ y (met_at (k + j)) → Memᴰ y (met step meets w (state k))
  unfolding met
  word-met [] k h y j l m = absurd (omega arith)
  word-met (a ∷ w) k h y zero l m =
      Memᴰ.append_left (met step meets w (step (state k) a)) (subst (λ (x : ℕ). Memᴰ y (meets (state k) x)) (reads_first a w k h) (subst (λ (i : ℕ). Memᴰ y (met_at i)) (add-zero k) m))
  word-met (a ∷ w) k h y (suc j) l m =
      let e : k + suc j ≡ suc k + j = omega arith in
      Memᴰ.append_right (meets (state k) a)
      (subst (λ (s : S). Memᴰ y (met step meets w s)) (one_on a w k h) (word-met w (suc k) (later a w k h) y j (omega arith) (subst (λ (i : ℕ). Memᴰ y (met_at i)) e m)))

module _ {S : Type 0} (step : S → ℕ → S) (meets : S → ℕ → List ℕ) (stem loop : List ℕ) (state : ℕ → S) (goes : (i : ℕ) → state (suc i) ≡ step (state i) (letter_at stem loop i)) where
  -- ---- the rounds
  round-start : (r : ℕ) → state (round_start stem loop r) ≡ iter (after step meets loop) r (after step meets stem (state 0))
  unfolding iter
  round-start zero =
      let e : length stem + 0 * length loop ≡ 0 + length stem = omega (arith, zero-mul (length loop)) in
      ap state e ∙ after-word step meets (letter_at stem loop) state goes stem 0 (stem-letter stem loop)
  round-start (suc r) =
      let e : length stem + suc r * length loop ≡ (length stem + r * length loop) + length loop = omega (arith, suc-mul r (length loop)) in
      ap state e ∙ after-word step meets (letter_at stem loop) state goes loop (round_start stem loop r) (loop-letter stem loop r) ∙ ap (after step meets loop) (round-start r)

  -- what the letters of round r meet is what the round meets
  pub recurs-along : (y : ℕ) → Recurs stem loop (λ i. meets (state i) (letter_at stem loop i)) y ↔ RecursInRun step meets stem loop (state 0) y
  recurs-along y = (to, from)
    where
      to : Recurs stem loop (λ i. meets (state i) (letter_at stem loop i)) y → RecursInRun step meets stem loop (state 0) y
      to h n =
          let q = h n in
          let j = q.2 - round_start stem loop q.0 in
          let e : q.2 ≡ round_start stem loop q.0 + j = omega (arith, q.3.from) in (
            q.0,
            q.1,
            subst (λ (s : S). Memᴰ y (met step meets loop s)) (round-start q.0)
                (word-met step meets (letter_at stem loop) state goes loop (round_start stem loop q.0) (loop-letter stem loop q.0) y j
                (omega (arith, q.3.from, q.3.until, suc-mul q.0 (length loop)))
                (subst (λ (i : ℕ). Memᴰ y (meets (state i) (letter_at stem loop i))) e q.4)),
          )

      from : RecursInRun step meets stem loop (state 0) y → Recurs stem loop (λ i. meets (state i) (letter_at stem loop i)) y
      from h n =
          let q = h n in
          let m = met-word step meets (letter_at stem loop) state goes loop (round_start stem loop q.0) (loop-letter stem loop q.0) y (subst (λ (s : S). Memᴰ y (met step meets loop s)) (sym (round-start q.0)) q.2) in
          (q.0, q.1, round_start stem loop q.0 + m.0, record { from = omega arith; until = omega (arith, m.1, suc-mul q.0 (length loop)) }, m.2)
