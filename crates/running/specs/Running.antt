-- The two runs (document 01, "The two runs"): the policy's, and the run over the rows of the built automaton with running's questions.
use Rattle.std.specs.Prelude.{ℕ, ◌+◌, ◌*◌, ◌/◌, ◌%◌, ◌≡◌, Bool, ◌&&◌, cond, List, [], ◌∷◌, eqb, ltb, leb, length, get_or, Result, Ok, Err}
use Rattle.lists.specs.Questions.{ask}
use Rattle.refusals.specs.declared.Refusal.{Refusal}
use Rattle.refusals.specs.declared.Refusal.TheVariants.{Lengths}
use Rattle.refusals.specs.Refusals.{number, refusal}
use Rattle.policy.specs.declared.Policy.{Policy}
use Rattle.policy.specs.Policies.{edge_of, target_of, edge_colours}
use Rattle.running.specs.declared.Run.{Run}
use Rattle.running.specs.declared.Met.{Met}

-- ---- the policy's run
module _ (p : Policy) where
  -- a letter of the policy takes the edge to its target; any other letter is refused, and the state stays
  unfoldable pub policy_step : ℕ → ℕ → ℕ
  policy_step v a = cond (ltb a p.letters) (target_of p (edge_of p v a)) v

  -- what reading a letter meets: the edge's colour; a refused letter meets nothing
  unfoldable pub policy_meets : ℕ → ℕ → List ℕ
  policy_meets v a = cond (ltb a p.letters) (edge_colours p (edge_of p v a)) []

-- ---- the run over rows
-- the row of a state and a letter
abbrev pub row_of : ℕ → ℕ → ℕ → ℕ
row_of letters s a = s * letters + a

-- document 01's number and values for each answer
-- the number of the refusal; 0 where the letter was read
abbrev pub number_of : Result Met Refusal → ℕ
number_of (Ok m) = 0
number_of (Err e) = number e

-- the run after a letter, from the run before it: a refused letter leaves the run as it is
abbrev pub run_after : Run → Result Met Refusal → Run
run_after r (Ok m) = m.run
run_after r (Err e) = r

-- the priority given back; 0 after a refusal
abbrev pub priority_of : Result Met Refusal → ℕ
priority_of (Ok m) = m.priority
priority_of (Err e) = 0

-- the priority met; a refused letter meets none
abbrev pub priorities_of : Result Met Refusal → List ℕ
priorities_of (Ok m) = m.priority ∷ []
priorities_of (Err e) = []

module _ (letters : ℕ) (targets priorities : List ℕ) where
  -- how many states the rows have
  unfoldable pub row_states : ℕ
  row_states = length targets / letters

  -- question 8: letters 1 to 8, row tables of one length, that a multiple of letters, at most 65,535 states
  unfoldable pub shaped : Bool
  shaped =
      leb 1 letters && leb letters 8 && eqb (length targets) (length priorities) && eqb (length targets % letters) 0 && leb row_states 65535

  -- how many states there are, if question 8 is answered yes
  unfoldable pub states_of : Result ℕ Refusal
  states_of = cond shaped (Ok row_states) (Err Lengths)

  -- the row that a letter asks for: its target, which may be no state, and its priority
  abbrev pub target_at : Run → ℕ → ℕ
  target_at r a = get_or targets (row_of letters r.state a) 0

  abbrev pub priority_at : Run → ℕ → ℕ
  priority_at r a = get_or priorities (row_of letters r.state a) 0

  -- running's questions 8, 11, 12, 13 in order; 0 if all are answered yes
  unfoldable pub refusal_of : Run → ℕ → ℕ
  refusal_of r a =
      ask shaped 8
      (ask (ltb r.state row_states) 11
      (ask (ltb a letters) 12
      (ask (ltb (target_at r a) row_states) 13 0)))

  -- then the move
  unfoldable pub reading_of : Run → ℕ → Result Met Refusal
  reading_of r a = cond (eqb (refusal_of r a) 0) (Ok (record { run = record { state = target_at r a }; priority = priority_at r a })) (Err (refusal (refusal_of r a)))

  -- what Run::read promises of its answer
  pub record ReadsLetter (r : Run) (a : ℕ) (x : Result Met Refusal) : Type 0 where
    pub answer_is : x ≡ reading_of r a
    pub number_is : number_of x ≡ refusal_of r a
    -- a refused letter leaves the run as it is
    pub run_is : run_after r x ≡ cond (eqb (refusal_of r a) 0) (record { state = target_at r a }) r
    pub priority_is : priority_of x ≡ cond (eqb (refusal_of r a) 0) (priority_at r a) 0

  unfoldable pub row_step : Run → ℕ → Run
  row_step r a = run_after r (reading_of r a)

  unfoldable pub row_meets : Run → ℕ → List ℕ
  row_meets r a = priorities_of (reading_of r a)
