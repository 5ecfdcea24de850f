-- Judging (document 01, the questions of judging): what a stem and then a loop without end comes to, by definitions that can be computed. proofs/ has the
-- theorems that they have the meaning of "recurs".
use Rattle.std.specs.Prelude.{ℕ, ◌≡◌, Bool, true, false, not, ◌&&◌, ◌||◌, cond, List, [], ◌∷◌, eqb, ltb, Result, Ok, Err}
use Rattle.refusals.specs.declared.Refusal.{Refusal}
use Rattle.refusals.specs.Refusals.{number, refusal}
use Rattle.lists.specs.Lists.{all}
use Rattle.lists.specs.Questions.{ask}
use Rattle.masks.specs.Masks.{set_of}
use Rattle.recurrence.specs.Iterates.{rounds}
use Rattle.recurrence.specs.Runs.{after, met, window}
use Rattle.policy.specs.declared.Policy.{Policy}
use Rattle.policy.specs.Policies.{in_family, legal}
use Rattle.running.specs.declared.Run.{Run}
use Rattle.running.specs.declared.Met.{Met}
use Rattle.running.specs.Running.{policy_step, policy_meets, row_states, shaped, reading_of, row_step, row_meets}
use Rattle.judging.specs.declared.Verdict.{Verdict}

-- ---- lists of letters, colours, priorities
abbrev pub non_empty : {A : Type 0} → List A → Bool
non_empty [] = false
non_empty (x ∷ xs) = true

-- every letter is below the number of letters
unfoldable pub in_range : ℕ → List ℕ → Bool
in_range letters w = all (λ a. ltb a letters) w

-- the least of some priorities; 255 of none
unfoldable pub least_of : List ℕ → ℕ
least_of [] = 255
least_of (x ∷ xs) = let r = least_of xs in cond (ltb x r) x r

-- ---- document 01's number and values for each answer
-- the number of the refusal; 0 where the policy was judged
abbrev pub policy_number_of : Result Verdict Refusal → ℕ
policy_number_of (Ok v) = 0
policy_number_of (Err e) = number e

-- the recurring colours, and yes or no; none and no after a refusal
abbrev pub policy_colours_of : Result Verdict Refusal → ℕ
policy_colours_of (Ok v) = v.colours
policy_colours_of (Err e) = 0

abbrev pub policy_accepted_of : Result Verdict Refusal → Bool
policy_accepted_of (Ok v) = v.accepted
policy_accepted_of (Err e) = false

-- the number of the refusal; 0 where the rows were judged
abbrev pub rows_number_of : Result ℕ Refusal → ℕ
rows_number_of (Ok priority) = 0
rows_number_of (Err e) = number e

-- the least recurring priority; 0 after a refusal
abbrev pub rows_least_of : Result ℕ Refusal → ℕ
rows_least_of (Ok priority) = priority
rows_least_of (Err e) = 0

-- ---- judging a policy from a state: 7, 11, 14, 12; then the recurring colours and their verdict
module _ (p : Policy) (v : ℕ) (stem loop : List ℕ) where
  -- among the policy's states, the window is what recurs
  unfoldable pub recurring_colours : ℕ
  recurring_colours = set_of (window (policy_step p) (policy_meets p) p.states stem loop v)

  -- the number of the first question that is answered no; 0 if all are answered yes
  unfoldable pub policy_refusal_of : ℕ
  policy_refusal_of =
      ask (legal p) 7
      (ask (ltb v p.states) 11
      (ask (non_empty loop) 14
      (ask (in_range p.letters stem && in_range p.letters loop) 12 0)))

  unfoldable pub policy_verdict : Result Verdict Refusal
  policy_verdict = let s = recurring_colours in cond (eqb policy_refusal_of 0) (Ok (record { colours = s; accepted = in_family p s })) (Err (refusal policy_refusal_of))

  -- what judge_policy promises of its answer
  pub record JudgesPolicy (x : Result Verdict Refusal) : Type 0 where
    pub answer_is : x ≡ policy_verdict
    pub number_is : policy_number_of x ≡ policy_refusal_of
    pub colours_are : policy_colours_of x ≡ cond (eqb policy_refusal_of 0) recurring_colours 0
    pub accepted_is : policy_accepted_of x ≡ cond (eqb policy_refusal_of 0) (in_family p recurring_colours) false

-- ---- judging rows from a state: running's 8 and 11, then 14, 12, 13; then the least recurring priority
-- reading met a row whose target is no state
abbrev pub no_state : Result Met Refusal → Bool
no_state (Ok m) = false
no_state (Err e) = eqb (number e) 13

module _ (letters : ℕ) (targets priorities : List ℕ) where
  -- what a letter meets, if only such rows are looked for
  unfoldable pub dangling_meets : Run → ℕ → List ℕ
  dangling_meets r a = cond (no_state (reading_of letters targets priorities r a)) (a ∷ []) []

  module _ (r : Run) (stem loop : List ℕ) where
    abbrev pub step : Run → ℕ → Run
    step = row_step letters targets priorities

    -- such a row is read in the stem, or in one of the first rounds, as many as there are states
    unfoldable pub ever_dangling : Bool
    ever_dangling =
        non_empty (met step dangling_meets stem r)
        || non_empty (rounds (after step dangling_meets loop) (met step dangling_meets loop) (after step dangling_meets stem r) 0 (row_states letters targets priorities))

    unfoldable pub least_recurring : ℕ
    least_recurring = least_of (window step (row_meets letters targets priorities) (row_states letters targets priorities) stem loop r)

    -- the number of the first question that is answered no; 0 if all are answered yes
    unfoldable pub rows_refusal_of : ℕ
    rows_refusal_of =
        ask (shaped letters targets priorities) 8
        (ask (ltb r.state (row_states letters targets priorities)) 11
        (ask (non_empty loop) 14
        (ask (in_range letters stem && in_range letters loop) 12
        (ask (not ever_dangling) 13 0))))

    unfoldable pub rows_verdict : Result ℕ Refusal
    rows_verdict = cond (eqb rows_refusal_of 0) (Ok least_recurring) (Err (refusal rows_refusal_of))

    -- what judge_rows promises of its answer
    pub record JudgesRows (x : Result ℕ Refusal) : Type 0 where
      pub answer_is : x ≡ rows_verdict
      pub number_is : rows_number_of x ≡ rows_refusal_of
      pub least_is : rows_least_of x ≡ cond (eqb rows_refusal_of 0) least_recurring 0
