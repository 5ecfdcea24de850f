-- `wulfrenda::wulfrenda_translate_bytes` meets its contract: after a refused reading nothing is translated, and a policy that was read is legal. Assumes nothing.
use Prim.Native.Nat.{ℕ}
use mathlib.Core.Path.{sym, ap, ◌∙◌}
use mathlib.Core.Logic.{◌≢◌}
use mathlib.Core.Bool.{cond}
use lib.Dec.{eqb}
use Rattle.reading.specs.Reading.{offset_of, policy_read, number_of as read_number_of}
use Rattle.reading.proofs.Legal.{read-legal, refused-number, refused-illegal}
use Rattle.builder.specs.Tables.{counts_of, number_of}
use Rattle.builder.proofs.TranslateLaws.{same-policy}
use Rattle.answers.proofs.TwoCalls.{first-refused, offset-refused, first-passed, offset-passed}
use Rattle.wulfrenda.proofs.Bytes.{illegal-counts, illegal-tables}
use Rattle.wulfrenda.proofs.wulfrenda_translate_bytes.Goals as goal

pub returns-in-Err : goal.returns-in-Err
returns-in-Err c =
    let a = c.args in
    let is = c.read.ensures.answer_is in
    let back = sym is ∙ c.in-Err.is in
    let number = c.number.ensures ∙ ap read_number_of (sym back) in
    let some : c.number.result ≢ 0 = λ z. refused-number a.bytes.now back (sym c.number.ensures ∙ z) in
    let illegal = refused-illegal a.bytes.now back in
    record {
      number = first-refused _ _ _ 0 number some;
      counts = illegal-counts _ a.masks.now a.parents.now a.node_priorities.now a.sources.now a.leaves.now a.targets.now a.priorities.now illegal;
      tables = illegal-tables _ a.masks.now a.parents.now a.node_priorities.now a.sources.now a.leaves.now a.targets.now a.priorities.now illegal;
      offset = ap offset_of (sym back) ∙ offset-refused _ _ _ _ number some;
    }

pub translate_legal-t-requires : goal.translate_legal-t-requires
translate_legal-t-requires c = read-legal c.args.bytes.now (sym c.read.ensures.answer_is ∙ c.in-Ok.is)

pub returns : goal.returns
returns c =
    let is = sym c.in-Ok.is ∙ c.read.ensures.answer_is in
    let t = same-policy (ap policy_read is) c.translate_legal-t.ensures in
    let zero = ap read_number_of (sym is) in
    let n = c.of_translation-number.ensures.number ∙ ap number_of t.answer_is in
    record {
      number = first-passed _ _ _ 0 zero n;
      counts = c.of_translation-number.ensures.counts ∙ ap counts_of t.answer_is;
      tables = t.tables_are;
      offset = c.unless_refused.ensures ∙ ap (λ (x : ℕ). cond (eqb c.of_translation-number.result 0) x 0) (ap offset_of is) ∙ offset-passed _ _ _ _ zero n;
    }
