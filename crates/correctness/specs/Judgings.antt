-- Judging both sides after a call of translating that succeeded: a corollary of demand 3.
use Rattle.std.specs.Prelude.{ℕ, ◌<◌, ◌≡◌, true, List, take, Ok}
use Rattle.forest.specs.Forest.{even}
use Rattle.judging.specs.Judging.{non_empty, in_range, policy_verdict, rows_verdict}
use Rattle.correctness.specs.Calls.{Function, Places, Call, Translating, translate, translate_shows, wulfrenda_translate, wulfrenda_translate_shows, wulfrenda_translate_bytes, wulfrenda_translate_bytes_shows}
use Rattle.correctness.specs.Demand3.{state_count, under, Beginning}

-- over a beginning of the row tables, the rows from built state s answer a least priority, and the policy from the state under s answers yes exactly if it is even
pub record JudgedAlike (t : Translating) (size : ℕ) (stem loop : List ℕ) (s : ℕ) : Type 0 where
  pub least : ℕ
  pub colours : ℕ
  pub rows_answer : rows_verdict t.policy.letters (take size t.exit.targets) (take size t.exit.priorities) (record { state = s }) stem loop ≡ Ok least
  pub policy_answers : policy_verdict t.policy (under t s) stem loop ≡ Ok (record { colours = colours; accepted = even least })

-- wherever neither is refused: the loop is not empty, and all letters are the policy's
abbrev pub JudgingsAgree : (f : Function) → (Places f → Translating) → Type 0
JudgingsAgree f shows =
    (t : Call f) → (shows t.at).number ≡ 0 → (size : ℕ) → Beginning (shows t.at) size
    → (stem loop : List ℕ) → non_empty loop ≡ true → in_range (shows t.at).policy.letters stem ≡ true → in_range (shows t.at).policy.letters loop ≡ true
    → (s : ℕ) → s < state_count (shows t.at) → JudgedAlike (shows t.at) size stem loop s

pub record Judgings : Type 0 where
  pub of_the_core : JudgingsAgree translate translate_shows
  pub of_the_library : JudgingsAgree wulfrenda_translate wulfrenda_translate_shows
  pub of_the_library_from_bytes : JudgingsAgree wulfrenda_translate_bytes wulfrenda_translate_bytes_shows
