-- Demand 3, over the calls: from what the contracts promise of a call of translating that succeeded and of the calls of running. Assumes nothing.
use Prim.Native.Nat.{ℕ}
use mathlib.Core.Path.{◌≡◌, sym, ap, ◌∙◌}
use mathlib.Core.Logic.{◌⊎◌, inl, inr}
use mathlib.Core.Bool.{true, false}
use lib.Dec.{eqb}
use borrow.Author.Tests.{eqb-false}
use Rattle.lists.proofs.Bools.{test}
use Rattle.reading.specs.Reading.{reading_of as bytes_reading_of, number_of as read_number_of}
use Rattle.builder.specs.Tables.{counts_of, translation_of, number_of as translate_number_of}
use Rattle.running.specs.declared.Met.{Met}
use Rattle.std.specs.Prelude.{Result}
use Rattle.refusals.specs.declared.Refusal.{Refusal}
use Rattle.running.specs.Running.{run_after, priority_of, number_of as run_number_of}
use Rattle.answers.specs.Answers.{first_of}
use Rattle.correctness.specs.Calls.{Call, translate, translate_shows, read, read_shows, wulfrenda_translate, wulfrenda_translate_shows, wulfrenda_translate_bytes, wulfrenda_translate_bytes_shows, wulfrenda_run, wulfrenda_run_shows}
use Rattle.correctness.specs.Demand3.{Demand3}
use Rattle.correctness.proofs.Translated.{Success}
use Rattle.correctness.proofs.Agreement.{Answered, agreement}

-- ---- translating
pub translated : (t : Call translate) → (translate_shows t.at).number ≡ 0 → Success (translate_shows t.at)
translated t returned = record {
  number_is = sym (ap translate_number_of t.learnt.answer_is) ∙ returned;
  counts_are = ap counts_of t.learnt.answer_is;
  tables_are = t.learnt.tables_are;
}

pub wulfrenda-translated : (t : Call wulfrenda_translate) → (wulfrenda_translate_shows t.at).number ≡ 0 → Success (wulfrenda_translate_shows t.at)
wulfrenda-translated t returned = record { number_is = sym t.learnt.0 ∙ returned; counts_are = t.learnt.1.0; tables_are = t.learnt.1.1 }

-- the first of two numbers that is not 0 is 0: both are
pub second_none : (a b : ℕ) → first_of a b ≡ 0 → b ≡ 0
unfolding first_of
second_none a b e = go (test (eqb a 0))
  where
    go : (eqb a 0 ≡ true) ⊎ (eqb a 0 ≡ false) → b ≡ 0
    go (inl t) = rw t at e
    go (inr f) = absurd (eqb-false a 0 f (rw f at e))

pub wulfrenda-translated-bytes : (t : Call wulfrenda_translate_bytes) → (wulfrenda_translate_bytes_shows t.at).number ≡ 0 → Success (wulfrenda_translate_bytes_shows t.at)
wulfrenda-translated-bytes t returned = record {
  number_is = second_none (read_number_of (bytes_reading_of t.at.given.0.now)) (translate_number_of (translation_of (wulfrenda_translate_bytes_shows t.at).policy (wulfrenda_translate_bytes_shows t.at).entry)) (sym t.learnt.0 ∙ returned);
  counts_are = t.learnt.1.0;
  tables_are = t.learnt.1.1.0;
}

-- ---- running
pub read-answered : (c : Call read) → Answered (read_shows c.at)
read-answered c =
    let e = c.learnt.answer_is in
    record { number_is = ap run_number_of e; next_is = ap (λ (q : Result Met Refusal). (run_after c.at.given.0 q).state) e; priority_is = ap priority_of e }

pub wulfrenda-run-answered : (c : Call wulfrenda_run) → Answered (wulfrenda_run_shows c.at)
wulfrenda-run-answered c = record { number_is = c.learnt.0; next_is = c.learnt.1.0; priority_is = c.learnt.1.1 }

-- ---- demand 3
pub demand3 : Demand3
demand3 = record {
  of_the_core = λ t returned stem loop calls run. agreement (translate_shows t.at) (translated t returned) stem loop (λ i. read_shows (calls i).at) (λ i. read-answered (calls i)) run;
  of_the_library = λ t returned stem loop calls run.
      agreement (wulfrenda_translate_shows t.at) (wulfrenda-translated t returned) stem loop (λ i. wulfrenda_run_shows (calls i).at) (λ i. wulfrenda-run-answered (calls i)) run;
  of_the_library_from_bytes = λ t returned stem loop calls run.
      agreement (wulfrenda_translate_bytes_shows t.at) (wulfrenda-translated-bytes t returned) stem loop (λ i. wulfrenda_run_shows (calls i).at) (λ i. wulfrenda-run-answered (calls i)) run;
}
