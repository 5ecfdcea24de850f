-- Demand 3 for a policy that was read from a text (document 02, S-4): the least recurring priority is even exactly if the text's formula holds of the marks that recur in the text's own run.
-- Of the calls nothing is known but what their contracts promise (correctness, specs/Calls).
use Rattle.std.specs.Prelude.{ℕ, ◌≤◌, ◌<◌, ◌≡◌, ◌↔◌, true, List, ltb}
use Rattle.lists.specs.Lists.{any}
use Rattle.masks.specs.Masks.{has}
use Rattle.forest.specs.Forest.{even}
use Rattle.hanoi.specs.Documents.{Document, letters, Says}
use Rattle.hanoi.specs.Meaning.{holds}
use Rattle.correctness.specs.Calls.{Function, Places, Call, Translating, Running, translate, translate_shows, read, read_shows, wulfrenda_translate, wulfrenda_translate_shows, wulfrenda_run, wulfrenda_run_shows}
use Rattle.correctness.specs.Demand3.{state_count, under, priorities_met, Recurs, BuiltRun}
use Rattle.hanoi_agreement.specs.TextCalls.{ReadingText, read_text, read_text_shows, wulfrenda_read_hanoi, wulfrenda_read_hanoi_shows}
use Rattle.hanoi_agreement.specs.Agreement.{text_state, marks_met}

-- ---- the claim, of a document, a call of translating and the calls of running after it; the text's run begins in the policy state under the first built state
module _ (stem loop : List ℕ) (d : Document) (t : Translating) (calls : ℕ → Running) where
  -- a least recurring priority and a set of recurring marks exist, and the one is even exactly if the formula holds of the other
  pub record TextDecided : Type 0 where
    pub least : ℕ
    pub least_recurs : Recurs stem loop (priorities_met calls) least
    pub least_lowest : (k : ℕ) → Recurs stem loop (priorities_met calls) k → least ≤ k
    pub marks : ℕ
    pub marks_recur : (m : ℕ) → (has marks m ≡ true) ↔ Recurs stem loop (marks_met stem loop d (under t (calls 0).state)) m
    pub verdict : even least ≡ holds marks d.formula

  -- the run is always in a built state that stands over the text's state; and a loop with a letter of the text is decided alike
  pub record TextAgreement : Type 0 where
    pub stands : (i : ℕ) → (calls i).state < state_count t
    pub over : (i : ℕ) → under t (calls i).state ≡ text_state stem loop d (under t (calls 0).state) i
    pub decided : any (λ a. ltb a (letters d)) loop ≡ true → TextDecided

-- ---- of a function that reads, one that translates and one that runs: after a call of the first that read a text, and one of the second that was given its policy and succeeded. There is
-- a document that the text says (specs/Agreement), and the claim is of any such
abbrev pub TextHolds : (e : Function) → (Places e → ReadingText) → (f : Function) → (Places f → Translating) → (g : Function) → (Places g → Running) → Type 0
TextHolds e shown f shows g shows' =
    (r : Call e) → (shown r.at).number ≡ 0 → (t : Call f) → (shows t.at).policy ≡ (shown r.at).policy → (shows t.at).number ≡ 0
    → (stem loop : List ℕ) (calls : ℕ → Call g) → BuiltRun stem loop (shows t.at) (λ i. shows' (calls i).at)
    → (d : Document) → Says (shown r.at).text d → TextAgreement stem loop d (shows t.at) (λ i. shows' (calls i).at)

pub record TextDemand3 : Type 0 where
  pub of_the_core : TextHolds read_text read_text_shows translate translate_shows read read_shows
  pub of_the_library : TextHolds wulfrenda_read_hanoi wulfrenda_read_hanoi_shows wulfrenda_translate wulfrenda_translate_shows wulfrenda_run wulfrenda_run_shows
