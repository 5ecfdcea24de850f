-- Premises that are met: a text, the document that it says, that it is read and has the policy B of document 01, and calls of which demand 3 for a text speaks.
use Rattle.std.specs.Prelude.{ℕ, ◌≡◌, true, List, [], ◌∷◌, ltb, Ok}
use Rattle.lists.specs.Lists.{any}
use Rattle.hanoi.specs.Texts.{ascii}
use Rattle.hanoi.specs.Documents.{fin, either, marked, Document, letters, Says}
use Rattle.hanoi.specs.Reading.{hanoi_of}
use Rattle.correctness.specs.Calls.{Function, Places, Call, Translating, Running, translate, translate_shows, read, read_shows, wulfrenda_translate, wulfrenda_translate_shows, wulfrenda_run, wulfrenda_run_shows}
use Rattle.correctness.specs.Demand3.{BuiltRun}
use Rattle.hanoi_agreement.specs.TextCalls.{ReadingText, read_text, read_text_shows, wulfrenda_read_hanoi, wulfrenda_read_hanoi_shows}
use Rattle.correctness.specs.Known.{B}
use Rattle.correctness.specs.Instances.{stem, loop}

abbrev pub text : List ℕ
text = ascii "HOA: v1 States: 2 Start: 0 AP: 1 \"a\" Acceptance: 2 Fin(0) | Fin(1) --BODY-- State: 0 0 {0} 1 {1} State: 1 0 {0} 1 {1} --END--\n"

abbrev pub document : Document
document = record {
  states = 2;
  start = 0;
  names = (97 ∷ []) ∷ [];
  sets = 2;
  formula = either (fin 0) (fin 1);
  rows = (marked 0 (0 ∷ []) ∷ marked 1 (1 ∷ []) ∷ []) ∷ (marked 0 (0 ∷ []) ∷ marked 1 (1 ∷ []) ∷ []) ∷ [];
}

-- a call that read the text, one that was given its policy and succeeded, and calls of running from the start that are a run over a stem and a loop with a letter of the text
pub record PremisesMet (e : Function) (shown : Places e → ReadingText) (f : Function) (shows : Places f → Translating) (g : Function) (shows' : Places g → Running) : Type 0 where
  pub reading : Call e
  pub text_is : (shown reading.at).text ≡ text
  pub read : (shown reading.at).number ≡ 0
  pub call : Call f
  pub policy_is : (shows call.at).policy ≡ (shown reading.at).policy
  pub succeeded : (shows call.at).number ≡ 0
  pub calls : ℕ → Call g
  pub run : BuiltRun stem loop (shows call.at) (λ i. shows' (calls i).at)
  pub letter : any (λ a. ltb a (letters document)) loop ≡ true

pub record Instances : Type 0 where
  pub says : Says text document
  pub read_is : hanoi_of text ≡ Ok B
  pub of_the_core : PremisesMet read_text read_text_shows translate translate_shows read read_shows
  pub of_the_library : PremisesMet wulfrenda_read_hanoi wulfrenda_read_hanoi_shows wulfrenda_translate wulfrenda_translate_shows wulfrenda_run wulfrenda_run_shows
