-- Runs over lists of letters: over a list and then another, over readings of a loop; what recurs in a run that comes back; and that among n
-- states what recurs is what the window holds. Assumes nothing.
use Prim.Native.Nat.{ℕ, zero, suc, ◌+◌, ◌<◌}
use native.Mathlib.Omega.{arith}
use native.Mathlib.Nat.{add-zero}
use mathlib.Core.Path.{◌≡◌, refl, sym, ap, ap₂, ◌∙◌, subst}
use mathlib.Core.Logic.{◌↔◌}
use mathlib.Core.List.{List, [], ◌∷◌, ◌++◌, append-nil, append_assoc, Memᴰ}
use Rattle.recurrence.specs.Iterates.{iter, rounds}
use Rattle.recurrence.specs.Runs.{times, through, after, met, window}
use Rattle.recurrence.proofs.Recurs.{RecursInRounds, RecursInRun}
use Rattle.recurrence.proofs.Periods.{recurs-within, within-recurs, rounds-mem, mem-rounds, recurs-window}

module _ {S B : Type 0} (step : S → ℕ → S) (meets : S → ℕ → List B) where
  -- ---- one list after the other
  pub after-append : (u w : List ℕ) (s : S) → after step meets (u ++ w) s ≡ after step meets w (after step meets u s)
  unfolding after
  after-append [] w s = refl
  after-append (a ∷ u) w s = after-append u w (step s a)

  pub met-append : (u w : List ℕ) (s : S) → met step meets (u ++ w) s ≡ met step meets u s ++ met step meets w (after step meets u s)
  unfolding after met
  met-append [] w s = refl
  met-append (a ∷ u) w s =
      ap (λ (l : List B). meets s a ++ l) (met-append u w (step s a)) ∙ sym (append_assoc (meets s a) (met step meets u (step s a)) (met step meets w (after step meets u (step s a))))

  -- what each step keeps, a run keeps
  pub after-keeps : (P : S → Type 0) → ((s : S) (a : ℕ) → P s → P (step s a)) → (w : List ℕ) (s : S) → P s → P (after step meets w s)
  unfolding after
  after-keeps P h [] s k = k
  after-keeps P h (a ∷ w) s k = after-keeps P h w (step s a) (h s a k)

  -- ---- readings of a loop, from the end of round i on
  module _ (loop : List ℕ) (s : S) where
    abbrev pub round_end : ℕ → S
    round_end i = iter (after step meets loop) i s

    pub after-times : (i k : ℕ) → after step meets (times k loop) (round_end i) ≡ round_end (i + k)
    unfolding times iter after
    after-times i zero = ap round_end (sym (add-zero i))
    after-times i (suc k) =
        let e : suc i + k ≡ i + suc k = omega arith in
        after-append loop (times k loop) (round_end i) ∙ after-times (suc i) k ∙ ap round_end e

    pub met-times : (i k : ℕ) → met step meets (times k loop) (round_end i) ≡ rounds (after step meets loop) (met step meets loop) s i k
    unfolding times iter rounds met
    met-times i zero = refl
    met-times i (suc k) = met-append loop (times k loop) (round_end i) ∙ ap (λ (l : List B). met step meets loop (round_end i) ++ l) (met-times (suc i) k)

    -- a run that comes back after k rounds: what recurs is what they meet
    pub period-recurs : (i k : ℕ) → 0 < k → round_end i ≡ round_end (i + k)
        → (y : B) → RecursInRounds (after step meets loop) (met step meets loop) s y ↔ Memᴰ y (met step meets (times k loop) (round_end i))
    period-recurs i k lt back y = (to, from)
      where
        to : RecursInRounds (after step meets loop) (met step meets loop) s y → Memᴰ y (met step meets (times k loop) (round_end i))
        to h =
            let q = recurs-within (after step meets loop) (met step meets loop) s i (i + k) (omega arith) back y h in
            subst (Memᴰ y) (sym (met-times i k)) (rounds-mem (after step meets loop) (met step meets loop) s i k q.0 y q.1 q.2 q.3)

        from : Memᴰ y (met step meets (times k loop) (round_end i)) → RecursInRounds (after step meets loop) (met step meets loop) s y
        from m =
            let q = mem-rounds (after step meets loop) (met step meets loop) s i k y (subst (Memᴰ y) (met-times i k) m) in
            within-recurs (after step meets loop) (met step meets loop) s i (i + k) (omega arith) back y q.0 q.1 q.3

-- ---- a run is the same whatever is looked for
pub after_any : {S A B : Type 0} (step : S → ℕ → S) (m : S → ℕ → List A) (m' : S → ℕ → List B) (w : List ℕ) (s : S) → after step m w s ≡ after step m' w s
unfolding after
after_any step m m' [] s = refl
after_any step m m' (a ∷ w) s = after_any step m m' w (step s a)

-- ---- a run that also collects what it meets into a value: where it leads, and what it collects
module _ {S B T M : Type 0} (step : S → ℕ → S) (meets : S → ℕ → List B) (next : T → ℕ → T) (run : T → S) (value : T → M) (val : List B → M)
    (moves : (t : T) (a : ℕ) → run (next t a) ≡ step (run t) a)
    (adds : (t : T) (a : ℕ) (l : List B) → value t ≡ val l → value (next t a) ≡ val (l ++ meets (run t) a)) where
  pub through-run : (w : List ℕ) (t : T) → run (through next w t) ≡ after step meets w (run t)
  unfolding through after
  through-run [] t = refl
  through-run (a ∷ w) t = through-run w (next t a) ∙ ap (after step meets w) (moves t a)

  pub through-value : (w : List ℕ) (t : T) (l : List B) → value t ≡ val l → value (through next w t) ≡ val (l ++ met step meets w (run t))
  unfolding through met
  through-value [] t l e = e ∙ ap val (sym (append-nil l))
  through-value (a ∷ w) t l e =
      through-value w (next t a) (l ++ meets (run t) a) (adds t a l e)
      ∙ ap (λ (s : S). val ((l ++ meets (run t) a) ++ met step meets w s)) (moves t a)
      ∙ ap val (append_assoc l (meets (run t) a) (met step meets w (step (run t) a)))

-- ---- rounds among states that are numbers, or are numbered
module _ {A B : Type 0} (f : A → A) (out : A → List B) (code : A → ℕ) (decode : ℕ → A) (decoded : (x : A) → decode (code x) ≡ x) (coded : (c : ℕ) → code (decode c) ≡ c) where
  abbrev coded_round : ℕ → ℕ
  coded_round c = code (f (decode c))

  abbrev coded_out : ℕ → List B
  coded_out c = out (decode c)

  iter-coded : (n : ℕ) (x : A) → iter coded_round n (code x) ≡ code (iter f n x)
  unfolding iter
  iter-coded zero x = refl
  iter-coded (suc n) x = ap coded_round (iter-coded n x) ∙ ap (λ (y : A). code (f y)) (decoded (iter f n x))

  out-coded : (n : ℕ) (x : A) → coded_out (iter coded_round n (code x)) ≡ out (iter f n x)
  out-coded n x = ap coded_out (iter-coded n x) ∙ ap out (decoded (iter f n x))

  rounds-coded : (i k : ℕ) (x : A) → rounds coded_round coded_out (code x) i k ≡ rounds f out x i k
  unfolding rounds
  rounds-coded i zero x = refl
  rounds-coded i (suc k) x = ap₂ (λ (l r : List B). l ++ r) (out-coded i x) (rounds-coded (suc i) k x)

  pub numbered-window : (n : ℕ) → ((x : A) → code x < n → code (f x) < n) → (x : A) → code x < n → (y : B) → RecursInRounds f out x y ↔ Memᴰ y (rounds f out x n n)
  numbered-window n stays x lt y =
      let w = recurs-window coded_round coded_out (code x) n (λ c h. stays (decode c) (subst (λ (z : ℕ). z < n) (sym (coded c)) h)) lt y in (
        λ h. subst (Memᴰ y) (rounds-coded n n x) (w.0 (λ m. let r = h m in (r.0, r.1, subst (Memᴰ y) (sym (out-coded r.0 x)) r.2))),
        λ m k. let r = w.1 (subst (Memᴰ y) (sym (rounds-coded n n x)) m) k in (r.0, r.1, subst (Memᴰ y) (out-coded r.0 x) r.2),
      )

-- ---- runs among n states: what recurs is what the window holds
module _ {S B : Type 0} (step : S → ℕ → S) (meets : S → ℕ → List B) (code : S → ℕ) (decode : ℕ → S) (decoded : (s : S) → decode (code s) ≡ s) (coded : (c : ℕ) → code (decode c) ≡ c)
    (n : ℕ) (stays : (s : S) (a : ℕ) → code s < n → code (step s a) < n) where
  pub numbered-recurring : (stem loop : List ℕ) (s : S) → code s < n → (y : B) → RecursInRun step meets stem loop s y ↔ Memᴰ y (window step meets n stem loop s)
  unfolding window
  numbered-recurring stem loop s lt y =
      numbered-window (after step meets loop) (met step meets loop) code decode decoded coded n (λ s h. kept loop s h) (after step meets stem s) (kept stem s lt) y
    where
      kept : (w : List ℕ) (s : S) → code s < n → code (after step meets w s) < n
      kept w s h = after-keeps step meets (λ s. code s < n) stays w s h

module _ {B : Type 0} (step : ℕ → ℕ → ℕ) (meets : ℕ → ℕ → List B) (n : ℕ) (stays : (s a : ℕ) → s < n → step s a < n) where
  pub recurring-window : (stem loop : List ℕ) (s : ℕ) → s < n → (y : B) → RecursInRun step meets stem loop s y ↔ Memᴰ y (window step meets n stem loop s)
  recurring-window stem loop s lt y = numbered-recurring step meets (λ s. s) (λ c. c) (λ s. refl) (λ c. refl) n stays stem loop s lt y
