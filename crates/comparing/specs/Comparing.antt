-- Comparing (document 01, the questions of comparing): yes exactly if every cycle, reached or not, has the same verdict in both policies.
use Rattle.std.specs.Prelude.{ℕ, ◌≡◌, Bool, false, not, ◌&&◌, cond, eqb, Result, Ok, Err}
use Rattle.refusals.specs.declared.Refusal.{Refusal}
use Rattle.refusals.specs.Refusals.{number, refusal}
use Rattle.lists.specs.Lists.{all}
use Rattle.lists.specs.Bools.{differs}
use Rattle.lists.specs.Questions.{ask}
use Rattle.policy.specs.declared.Policy.{Policy}
use Rattle.policy.specs.Policies.{accepting, legal, full}
use Rattle.graph.specs.Cycles.{cycles_in}
use Rattle.graph.specs.SameGraph.{same_graph}

-- ---- document 01's number and values for each answer
-- the number of the refusal; 0 where the policies were compared
abbrev pub number_of : Result Bool Refusal → ℕ
number_of (Ok same) = 0
number_of (Err e) = number e

-- yes or no; no after a refusal
abbrev pub same_of : Result Bool Refusal → Bool
same_of (Ok same) = same
same_of (Err e) = false

-- ---- the questions of comparing
module _ (p q : Policy) where
  -- the number of the first question that is answered no; 0 where there is none
  unfoldable pub refusal_of : ℕ
  refusal_of = ask (legal p && legal q) 7 (ask (same_graph p q) 15 0)

  -- every cycle has the same verdict in both
  unfoldable pub same_verdicts : Bool
  same_verdicts = all (λ m. not (differs (accepting p m) (accepting q m))) (cycles_in p (full p))

  unfoldable pub comparison : Result Bool Refusal
  comparison = cond (eqb refusal_of 0) (Ok same_verdicts) (Err (refusal refusal_of))

  -- what compare promises of its answer
  pub record Compares (x : Result Bool Refusal) : Type 0 where
    pub answer_is : x ≡ comparison
    pub number_is : number_of x ≡ refusal_of
    pub same_is : same_of x ≡ cond (eqb refusal_of 0) same_verdicts false
