-- Premises that are met: policy B of document 01 from its own bytes, a translation of B that succeeded with places to spare, each refusal of translating, and calls of which demand 3 speaks.
use Rattle.std.specs.Prelude.{ℕ, ◌≡◌, true, List, [], ◌∷◌, ltb, replicate, Result, Ok}
use Rattle.lists.specs.Lists.{any}
use Rattle.policy.specs.declared.Policy.{Policy}
use Rattle.policy.specs.Making.{zero_policy}
use Rattle.reading.specs.Reading.{reading_of}
use Rattle.builder.specs.Tables.{Tables, tables, translated, refused, translation_of, tables_after}
use Rattle.refusals.specs.declared.Refusal.{Refusal}
use Rattle.builder.specs.declared.Counts.{Counts}
use Rattle.correctness.specs.Calls.{Function, Places, Call, Translating, Running, translate, translate_shows, read, read_shows, wulfrenda_translate, wulfrenda_translate_shows, wulfrenda_translate_bytes, wulfrenda_translate_bytes_shows, wulfrenda_run, wulfrenda_run_shows}
use Rattle.correctness.specs.Demand3.{BuiltRun}
use Rattle.correctness.specs.Known.{B}

-- ---- reading
abbrev pub bytes_of_b : List ℕ
bytes_of_b =
    1 ∷ 2 ∷ 2 ∷ 2 ∷ 0 ∷ 2 ∷ 0 ∷ 0 ∷ 0 ∷ 0 ∷ 2 ∷ 0 ∷ 1 ∷ 1 ∷ 1 ∷ 2 ∷ 1 ∷ 0 ∷ 0 ∷ 0 ∷ 2 ∷ 1 ∷ 1 ∷ 1 ∷ 1 ∷ 3 ∷ 1 ∷ 3 ∷ 2 ∷ 0 ∷ []

-- all 30 bytes are read, and give B
abbrev pub BytesGiveB : Type 0
BytesGiveB = reading_of bytes_of_b ≡ Ok (record { policy = B; end = 30 })

-- ---- translating
-- tables for so many nodes, states and rows, with one number in every place
abbrev pub filled_with : ℕ → ℕ → ℕ → ℕ → Tables
filled_with x nodes states rows =
    tables (replicate nodes x) (replicate nodes x) (replicate nodes x) (replicate states x) (replicate states x) (replicate rows x) (replicate rows x)

-- a policy and the tables at entry; the answer and the tables at exit
pub record Case : Type 0 where
  pub policy : Policy
  pub entry : Tables
  pub answer : Result Counts Refusal
  pub exit : Tables

abbrev pub case : Policy → Tables → Result Counts Refusal → Tables → Case
case p entry answer exit = record { policy = p; entry = entry; answer = answer; exit = exit }

-- B with a place to spare in each table, and each refusal
abbrev pub cases : List Case
cases =
    case B (filled_with 7 4 3 6) (translated 3 2 0)
    (tables (15 ∷ 1 ∷ 8 ∷ 0 ∷ []) (65535 ∷ 0 ∷ 0 ∷ 0 ∷ []) (1 ∷ 2 ∷ 2 ∷ 0 ∷ []) (0 ∷ 1 ∷ 0 ∷ []) (1 ∷ 2 ∷ 0 ∷ []) (0 ∷ 1 ∷ 0 ∷ 1 ∷ 0 ∷ 0 ∷ []) (2 ∷ 1 ∷ 1 ∷ 2 ∷ 0 ∷ 0 ∷ []))
    ∷ case zero_policy (filled_with 7 4 3 6) (refused 7) (filled_with 7 4 3 6)
    ∷ case B (filled_with 7 4 3 5) (refused 8) (filled_with 7 4 3 5)
    ∷ case B (filled_with 7 2 2 4) (refused 9) (filled_with 0 2 2 4)
    ∷ case B (filled_with 7 3 1 2) (refused 10) (filled_with 0 3 1 2)
    ∷ []

abbrev pub CasesHold : List Case → Type 0
CasesHold [] = Unit {0}
CasesHold (c ∷ cs) = (translation_of c.policy c.entry ≡ c.answer) × (tables_after c.policy c.entry ≡ c.exit) × CasesHold cs

-- ---- demand 3
-- a stem with a letter that is refused, and a loop with letters of B
abbrev pub stem : List ℕ
stem = 1 ∷ 5 ∷ []

abbrev pub loop : List ℕ
loop = 0 ∷ 1 ∷ []

-- a call that was given B and succeeded, and calls of running from the start that are a run over these letters
pub record PremisesMet (f : Function) (shows : Places f → Translating) (g : Function) (shows' : Places g → Running) : Type 0 where
  pub call : Call f
  pub policy_is : (shows call.at).policy ≡ B
  pub succeeded : (shows call.at).number ≡ 0
  pub calls : ℕ → Call g
  pub run : BuiltRun stem loop (shows call.at) (λ i. shows' (calls i).at)
  pub letter : any (λ a. ltb a (shows call.at).policy.letters) loop ≡ true

pub record Instances : Type 0 where
  pub bytes : BytesGiveB
  pub translated : CasesHold cases
  pub of_the_core : PremisesMet translate translate_shows read read_shows
  pub of_the_library : PremisesMet wulfrenda_translate wulfrenda_translate_shows wulfrenda_run wulfrenda_run_shows
  pub of_the_library_from_bytes : PremisesMet wulfrenda_translate_bytes wulfrenda_translate_bytes_shows wulfrenda_run wulfrenda_run_shows
