-- What reading a text answers (document 02, S-4), by documents alone: 18, 4, 19 in order; then the policy.
use Rattle.std.specs.Prelude.{ℕ, ◌*◌, ◌≡◌, ◌&&◌, cond, List, leb, length, Result, Ok, Err}
use Rattle.refusals.specs.declared.Refusal.{Refusal}
use Rattle.refusals.specs.declared.Refusal.TheVariants.{OutOfRange, NotHanoi, TooManyMarkSets}
use Rattle.refusals.specs.Refusals.{number}
use Rattle.policy.specs.declared.Policy.{Policy}
use Rattle.policy.specs.Making.{zero_policy}
use Rattle.hanoi.specs.declared.TextRefused.{TextRefused}
use Rattle.hanoi.specs.Documents.{Document, letters, Says, Longest}
use Rattle.hanoi.specs.Meaning.{mark_sets, policy_of}

-- the policy, or why there is none
abbrev pub Answer : Type 0
Answer = Result Policy TextRefused

abbrev pub refused : Refusal → ℕ → Answer
refused refusal shared = Err (record { refusal = refusal; shared = shared })

-- the number of a refusal, 0 where there is none; the length beside 18, 0 elsewhere; and the policy, all zero after a refusal
abbrev pub number_of : Answer → ℕ
number_of (Ok p) = 0
number_of (Err e) = number e.refusal

abbrev pub shared_of : Answer → ℕ
shared_of (Ok p) = 0
shared_of (Err e) = e.shared

abbrev pub policy_read : Answer → Policy
policy_read (Ok p) = p
policy_read (Err e) = zero_policy

-- questions 4 and 19
module _ (d : Document) where
  unfoldable pub answer_of : Answer
  answer_of =
      cond (leb d.states 16 && leb (d.states * letters d) 64) (cond (leb (length (mark_sets d)) 8) (Ok (policy_of d)) (refused TooManyMarkSets 0)) (refused OutOfRange 0)

-- the answer for a text: what its document comes to, or 18
pub record Answers (text : List ℕ) (r : Answer) : Type 0 where
  pub said : (d : Document) → Says text d → r ≡ answer_of d
  pub unsaid : ((d : Document) → Says text d → ⊥) → (n : ℕ) × Longest text n × (r ≡ refused NotHanoi n)
