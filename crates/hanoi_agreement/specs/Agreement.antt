-- A text and a policy agree on every stem and loop (document 02, S-4): the text's own run, written as demand 3 writes the policy's; and what agreement is.
use Rattle.std.specs.Prelude.{ℕ, zero, suc, ◌<◌, ◌≡◌, ◌↔◌, true, List, ltb}
use Rattle.lists.specs.Lists.{any}
use Rattle.masks.specs.Masks.{has}
use Rattle.policy.specs.declared.Policy.{Policy}
use Rattle.policy.specs.Policies.{in_family, legal}
use Rattle.hanoi.specs.Documents.{Document, letters, Says}
use Rattle.hanoi.specs.Meaning.{holds, step, meets}
use Rattle.correctness.specs.Calls.{Function, Places, Call}
use Rattle.correctness.specs.Demand3.{letter_at, Recurs, policy_state, colours_met}
use Rattle.hanoi_agreement.specs.TextCalls.{ReadingText, read_text, read_text_shows, wulfrenda_read_hanoi, wulfrenda_read_hanoi_shows}

-- ---- the text's run, begun in v: its state before letter i, and the marks that letter i meets, none where it is refused
module _ (stem loop : List ℕ) (d : Document) (v : ℕ) where
  unfoldable pub text_state : ℕ → ℕ
  text_state zero = v
  text_state (suc i) = step d (text_state i) (letter_at stem loop i)

  unfoldable pub marks_met : ℕ → List ℕ
  marks_met i = meets d (text_state i) (letter_at stem loop i)

-- ---- agreement, of the runs begun in v
module _ (d : Document) (p : Policy) (v : ℕ) (stem loop : List ℕ) where
  -- a set of recurring marks and a set of recurring colours exist, and the formula holds of the one exactly if the other is in the family
  pub record Decided : Type 0 where
    pub marks : ℕ
    pub marks_recur : (m : ℕ) → (has marks m ≡ true) ↔ Recurs stem loop (marks_met stem loop d v) m
    pub colours : ℕ
    pub colours_recur : (c : ℕ) → (has colours c ≡ true) ↔ Recurs stem loop (colours_met stem loop p v) c
    pub verdict : holds marks d.formula ≡ in_family p colours

  -- both are always in one state; and a loop with a letter of the text is decided alike
  pub record Agreement : Type 0 where
    pub same_state : (i : ℕ) → text_state stem loop d v i ≡ policy_state stem loop p v i
    pub decided : any (λ a. ltb a (letters d)) loop ≡ true → Decided

-- ---- S-4: a text that is read says one document, and the policy agrees with it from every state
pub record TextAgrees (text : List ℕ) (p : Policy) : Type 0 where
  pub document : Document
  pub says : Says text document
  -- the only one that the text says
  pub only : (x : Document) → Says text x → x ≡ document
  pub legal_is : legal p ≡ true
  pub states_are : p.states ≡ document.states
  pub letters_are : p.letters ≡ letters document
  pub agrees : (v : ℕ) → v < document.states → (stem loop : List ℕ) → Agreement document p v stem loop

-- of a function that reads a text
abbrev pub Reads : (e : Function) → (Places e → ReadingText) → Type 0
Reads e shows = (r : Call e) → (shows r.at).number ≡ 0 → TextAgrees (shows r.at).text (shows r.at).policy

pub record TextsAgree : Type 0 where
  pub of_the_core : Reads read_text read_text_shows
  pub of_the_library : Reads wulfrenda_read_hanoi wulfrenda_read_hanoi_shows
