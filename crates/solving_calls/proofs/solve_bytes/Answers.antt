-- `solving_calls::solve_bytes` meets its contract: after a refused reading nothing is solved, and a policy that was read is legal. Assumes nothing.
use Prim.Native.Nat.{ℕ}
use mathlib.Core.Path.{sym, ap, ◌∙◌}
use mathlib.Core.Logic.{◌≢◌}
use mathlib.Core.Bool.{cond}
use lib.Dec.{eqb}
use Rattle.reading.specs.Reading.{reading_of, offset_of, policy_read, number_of as read_number_of}
use Rattle.reading.proofs.Legal.{read-legal, refused-number, refused-illegal}
use Rattle.builder.specs.Tables.{counts_of, tables, number_of}
use Rattle.solving.proofs.SolveLaws.{same-solves, refused-seven}
use Rattle.answers.proofs.TwoCalls.{first-refused, offset-refused, first-passed, offset-passed}
use Rattle.solving_calls.proofs.solve_bytes.Goals as goal

pub returns-in-Err : goal.returns-in-Err
returns-in-Err c =
    let a = c.args in
    let back = sym c.read.ensures.answer_is ∙ c.in-Err.is in
    let number = c.number.ensures ∙ ap read_number_of (sym back) in
    let some : c.number.result ≢ 0 = λ z. refused-number a.bytes.now back (sym c.number.ensures ∙ z) in
    let t = tables a.masks.now a.parents.now a.node_priorities.now a.sources.now a.leaves.now a.targets.now a.priorities.now in
    let s = refused-seven (policy_read (reading_of a.bytes.now)) a.owners.now t a.winners.now a.letters.now (refused-illegal a.bytes.now back) in
    record {
      number_is = first-refused _ _ _ 0 number some;
      solved = record { counts_are = ap counts_of s.answer_is; tables_are = s.tables_are; winners_are = s.winners_are; letters_are = s.letters_are };
      offset_is = ap offset_of (sym back) ∙ offset-refused _ _ _ _ number some;
    }

pub solve_legal-t-requires : goal.solve_legal-t-requires
solve_legal-t-requires c = read-legal c.args.bytes.now (sym c.read.ensures.answer_is ∙ c.in-Ok.is)

pub returns : goal.returns
returns c =
    let is = sym c.in-Ok.is ∙ c.read.ensures.answer_is in
    let t = same-solves (ap policy_read is) c.solve_legal-t.ensures in
    let zero = ap read_number_of (sym is) in
    let n = c.of_translation-number.ensures.number ∙ ap number_of t.answer_is in
    let offset = c.unless_refused.ensures ∙ ap (λ (x : ℕ). cond (eqb c.of_translation-number.result 0) x 0) (ap offset_of is) ∙ offset-passed _ _ _ _ zero n in
    record {
      number_is = first-passed _ _ _ 0 zero n;
      solved = record {
        counts_are = c.of_translation-number.ensures.counts ∙ ap counts_of t.answer_is;
        tables_are = t.tables_are;
        winners_are = t.winners_are;
        letters_are = t.letters_are;
      };
      offset_is = offset;
    }
