-- `solving_calls::solve_record` meets its contract: the number and the counts of the answer, and the nine tables. Assumes nothing.
use mathlib.Core.Path.{ap, ◌∙◌}
use Rattle.builder.specs.Tables.{number_of, counts_of}
use Rattle.solving.proofs.SolveLaws.{same-solves}
use Rattle.solving_calls.proofs.solve_record.Goals as goal

pub returns : goal.returns
returns c =
    let t = same-solves c.policy_of-p.ensures c.solve-t.ensures in
    let number = c.of_translation.ensures.number ∙ ap number_of t.answer_is in
    let counts = c.of_translation.ensures.counts ∙ ap counts_of t.answer_is in
    record { number_is = number; solved = record { counts_are = counts; tables_are = t.tables_are; winners_are = t.winners_are; letters_are = t.letters_are } }
