-- What question 13 of judging asks, in the words of running: some letter is answered 13 where the letters before it lead.
use Rattle.std.specs.Prelude.{ℕ, ◌≡◌, List, ◌∷◌, ◌++◌, Err}
use Rattle.refusals.specs.declared.Refusal.TheVariants.{NoSuchTarget}
use Rattle.recurrence.specs.Runs.{after}
use Rattle.running.specs.declared.Run.{Run}
use Rattle.running.specs.Running.{reading_of, row_step, row_meets}

module _ (letters : ℕ) (targets priorities : List ℕ) where
  -- the run from r over the letters w reads a row whose target is no state
  pub record ReadsDangling (r : Run) (w : List ℕ) : Type 0 where
    pub start : List ℕ
    pub letter : ℕ
    pub rest : List ℕ
    pub letters_are : w ≡ start ++ (letter ∷ rest)
    pub answered : reading_of letters targets priorities (after (row_step letters targets priorities) (row_meets letters targets priorities) start r) letter ≡ Err NoSuchTarget
