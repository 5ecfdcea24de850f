-- A run over a list of letters, and over a stem and then rounds without end. `step s a` is the state after letter a, `meets s a` what reading a meets.
use Rattle.std.specs.Prelude.{ℕ, zero, suc, List, [], ◌∷◌, ◌++◌}
use Rattle.recurrence.specs.Iterates.{rounds}

-- n readings of the loop, one after the other
unfoldable pub times : ℕ → List ℕ → List ℕ
times zero loop = []
times (suc n) loop = loop ++ times n loop

-- what a list of letters leads to, if `next t a` is what letter a leads to
unfoldable pub through : {T : Type 0} → (T → ℕ → T) → List ℕ → T → T
through next [] t = t
through next (a ∷ w) t = through next w (next t a)

module _ {S B : Type 0} (step : S → ℕ → S) (meets : S → ℕ → List B) where
  -- the state after the letters
  unfoldable pub after : List ℕ → S → S
  after [] s = s
  after (a ∷ w) s = after w (step s a)

  -- all that reading the letters meets
  unfoldable pub met : List ℕ → S → List B
  met [] s = []
  met (a ∷ w) s = meets s a ++ met w (step s a)

  -- what the rounds n to 2 n - 1 meet. Among n states, this is what recurs
  unfoldable pub window : ℕ → List ℕ → List ℕ → S → List B
  window n stem loop s = rounds (after loop) (met loop) (after stem s) n n
