-- A run that meets things of two kinds, each of the one kind with some of the other: where one of the first kind recurs, some of the second recurs that it is met with. Among n states both
-- are what the window holds. Assumes nothing.
use Prim.Native.Nat.{ℕ, ◌+◌, ◌≤◌, ◌<◌}
use mathlib.Core.Path.{◌≡◌, ap, ◌∙◌, subst}
use mathlib.Core.Logic.{◌⊎◌, inl, inr}
use mathlib.Core.List.Memᴰ
use mathlib.Core.List.{List, [], ◌∷◌, Memᴰ}
use Rattle.recurrence.specs.Iterates.{iter}
use Rattle.recurrence.specs.Runs.{after, met, window}
use Rattle.recurrence.proofs.Recurs.{RecursInRun}
use Rattle.recurrence.proofs.Periods.{rounds-mem, mem-rounds}
use Rattle.recurrence.proofs.Repeats.{iter-any, iter-keeps}
use Rattle.recurrence.proofs.Runs.{after_any, after-keeps, recurring-window}

module _ {A B : Type 0} (step : ℕ → ℕ → ℕ) (n : ℕ) (stays : (s a : ℕ) → s < n → step s a < n) (meets : ℕ → ℕ → List A) (others : ℕ → ℕ → List B) (With : A → B → Type 0)
    (each : (s a : ℕ) → s < n → (y : A) → Memᴰ y (meets s a) → (x : B) × Memᴰ x (others s a) × With y x) where
  -- over a list of letters
  met-with : (w : List ℕ) (s : ℕ) → s < n → (y : A) → Memᴰ y (met step meets w s) → (x : B) × Memᴰ x (met step others w s) × With y x
  unfolding met
  met-with [] s h y m = absurd (Memᴰ.not-nil m)
  met-with (a ∷ w) s h y m = go (Memᴰ.append_cases (meets s a) m) (met-with w (step s a) (stays s a h) y)
    where
      go : Memᴰ y (meets s a) ⊎ Memᴰ y (met step meets w (step s a)) → (Memᴰ y (met step meets w (step s a)) → (x : B) × Memᴰ x (met step others w (step s a)) × With y x)
          → (x : B) × Memᴰ x (met step others (a ∷ w) s) × With y x
      go (inl q) ih = let r = each s a h y q in (r.0, Memᴰ.append_left (met step others w (step s a)) r.1, r.2)
      go (inr q) ih = let r = ih q in (r.0, Memᴰ.append_right (others s a) r.1, r.2)

  pub recurs-with : (stem loop : List ℕ) (s : ℕ) → s < n → (y : A) → RecursInRun step meets stem loop s y → (x : B) × RecursInRun step others stem loop s x × With y x
  unfolding window
  recurs-with stem loop s h y rec =
      (r.0, (recurring-window step others n stays stem loop s h r.0).1 (rounds-mem round' (met step others loop) (after step others stem s) n n q.0 r.0 q.1 q.2 here), r.2)
    where
      round : ℕ → ℕ
      round = after step meets loop

      round' : ℕ → ℕ
      round' = after step others loop

      keeps : (w : List ℕ) (s : ℕ) → s < n → after step meets w s < n
      keeps w s k = after-keeps step meets (λ s. s < n) stays w s k

      -- a round of the window that meets y, and where it begins
      q : (t : ℕ) × (n ≤ t) × (t < n + n) × Memᴰ y (met step meets loop (iter (after step meets loop) t (after step meets stem s)))
      q = mem-rounds (after step meets loop) (met step meets loop) (after step meets stem s) n n y ((recurring-window step meets n stays stem loop s h y).0 rec)

      at : ℕ
      at = iter round q.0 (after step meets stem s)

      r : (x : B) × Memᴰ x (met step others loop at) × With y x
      r = met-with loop at (iter-keeps round (λ s. s < n) (keeps loop) (after step meets stem s) (keeps stem s h) q.0) y q.3

      same : at ≡ iter round' q.0 (after step others stem s)
      same = iter-any round round' (λ x. after_any step meets others loop x) q.0 (after step meets stem s) ∙ ap (iter round' q.0) (after_any step meets others stem s)

      here : Memᴰ r.0 (met step others loop (iter round' q.0 (after step others stem s)))
      here = subst (λ (x : ℕ). Memᴰ r.0 (met step others loop x)) same r.1
