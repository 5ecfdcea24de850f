-- What recurs, round by round: of rounds that take x to f x and meet `out x`, and of a run over a stem and then a loop without end. Assumes nothing.
use Prim.Native.Nat.{ℕ, ◌≤◌}
use mathlib.Core.List.{List, Memᴰ}
use Rattle.recurrence.specs.Iterates.{iter}
use Rattle.recurrence.specs.Runs.{after, met}

module _ {A B : Type 0} (f : A → A) (out : A → List B) (x : A) where
  -- after every number of rounds some later round meets y
  abbrev pub RecursInRounds : B → Type 0
  RecursInRounds y = (n : ℕ) → (r : ℕ) × (n ≤ r) × Memᴰ y (out (iter f r x))

module _ {S B : Type 0} (step : S → ℕ → S) (meets : S → ℕ → List B) where
  -- a round is one reading of the loop
  abbrev pub RecursInRun : List ℕ → List ℕ → S → B → Type 0
  RecursInRun stem loop s y = RecursInRounds (after step meets loop) (met step meets loop) (after step meets stem s) y
