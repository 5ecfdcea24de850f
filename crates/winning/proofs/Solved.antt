-- What holds after a call of solving that succeeded, over the calls: from what the contracts promise of it and of the calls of running. Assumes nothing.
use mathlib.Core.Path.{◌≡◌, sym, ap, ◌∙◌}
use Rattle.builder.specs.Tables.{counts_of, number_of as translate_number_of}
use Rattle.reading.specs.Reading.{reading_of as bytes_reading_of, number_of as read_number_of}
use Rattle.correctness.specs.Calls.{Function, Places, Call, Running, read, read_shows, wulfrenda_run, wulfrenda_run_shows}
use Rattle.correctness.proofs.Agreement.{Answered, agreement}
use Rattle.correctness.proofs.Demand3.{second_none, read-answered, wulfrenda-run-answered}
use Rattle.solving.specs.Solving.{solving_of}
use Rattle.winning.specs.Calls.{Solving, solve, solve_shows, wulfrenda_solve, wulfrenda_solve_shows, wulfrenda_solve_bytes, wulfrenda_solve_bytes_shows}
use Rattle.winning.specs.Solved.{AfterSolving, OneAnswer, Solved}
use Rattle.winning.proofs.Done.{Done, done-success, done-winners, done-wins, one_answer}

-- ---- the contracts of solving
pub solved : (c : Call solve) → (solve_shows c.at).translating.number ≡ 0 → Done (solve_shows c.at)
solved c returned = record {
  number_is = sym (ap translate_number_of c.learnt.answer_is) ∙ returned;
  counts_are = ap counts_of c.learnt.answer_is;
  tables_are = c.learnt.tables_are;
  winners_are = c.learnt.winners_are;
  letters_are = c.learnt.letters_are;
}

pub wulfrenda-solved : (c : Call wulfrenda_solve) → (wulfrenda_solve_shows c.at).translating.number ≡ 0 → Done (wulfrenda_solve_shows c.at)
wulfrenda-solved c returned = record {
  number_is = sym c.learnt.0 ∙ returned;
  counts_are = c.learnt.1.0;
  tables_are = c.learnt.1.1.0;
  winners_are = c.learnt.1.1.1.0;
  letters_are = c.learnt.1.1.1.1;
}

pub wulfrenda-solved-bytes : (c : Call wulfrenda_solve_bytes) → (wulfrenda_solve_bytes_shows c.at).translating.number ≡ 0 → Done (wulfrenda_solve_bytes_shows c.at)
wulfrenda-solved-bytes c returned =
    let s = wulfrenda_solve_bytes_shows c.at in
    record {
      number_is = second_none (read_number_of (bytes_reading_of c.at.given.0.now))
          (translate_number_of (solving_of s.translating.policy s.owners s.translating.entry s.winners_entry s.letters_entry)) (sym c.learnt.0 ∙ returned);
      counts_are = c.learnt.1.0;
      tables_are = c.learnt.1.1.0;
      winners_are = c.learnt.1.1.1.0;
      letters_are = c.learnt.1.1.1.1.0;
    }

-- ---- of a function that solves and a function that runs
module _ (f : Function) (shows : Places f → Solving) (done : (c : Call f) → (shows c.at).translating.number ≡ 0 → Done (shows c.at)) where
  pub after-solving : (g : Function) (shows' : Places g → Running) → ((c : Call g) → Answered (shows' c.at)) → AfterSolving f shows g shows'
  after-solving g shows' answered = record {
    translates = λ c returned stem loop calls run.
        agreement (shows c.at).translating (done-success (shows c.at) (done c returned)) stem loop (λ i. shows' (calls i).at) (λ i. answered (calls i)) run;
    winners = λ c returned. done-winners (shows c.at) (done c returned);
    letters = λ c returned calls play. done-wins (shows c.at) (done c returned) (λ i. shows' (calls i).at) (λ i. answered (calls i)) play;
  }

  pub answers-alike : (g : Function) (shows' : Places g → Solving) → ((c : Call g) → (shows' c.at).translating.number ≡ 0 → Done (shows' c.at)) → OneAnswer f shows g shows'
  answers-alike g shows' done' c d returned returned' same owned n h = one_answer (shows c.at) (shows' d.at) (done c returned) (done' d returned') same owned n h

pub after : Solved
after = record {
  of_the_core = after-solving solve solve_shows solved read read_shows read-answered;
  of_the_library = after-solving wulfrenda_solve wulfrenda_solve_shows wulfrenda-solved wulfrenda_run wulfrenda_run_shows wulfrenda-run-answered;
  of_the_library_from_bytes = after-solving wulfrenda_solve_bytes wulfrenda_solve_bytes_shows wulfrenda-solved-bytes wulfrenda_run wulfrenda_run_shows wulfrenda-run-answered;
  core_and_library = answers-alike solve solve_shows solved wulfrenda_solve wulfrenda_solve_shows wulfrenda-solved;
  record_and_bytes = answers-alike wulfrenda_solve wulfrenda_solve_shows wulfrenda-solved wulfrenda_solve_bytes wulfrenda_solve_bytes_shows wulfrenda-solved-bytes;
}
