-- `wulfrenda::wulfrenda_translate` meets its contract: the number and the counts of the translation, and its tables. Assumes nothing.
use mathlib.Core.Path.{ap, ◌∙◌}
use Rattle.builder.specs.Tables.{number_of, counts_of}
use Rattle.builder.proofs.TranslateLaws.{same-policy}
use Rattle.wulfrenda.proofs.wulfrenda_translate.Goals as goal

pub returns : goal.returns
returns c = let t = same-policy c.policy_of-p.ensures c.translate-t.ensures in
    let number = c.of_translation.ensures.number ∙ ap number_of t.answer_is in
    let counts = c.of_translation.ensures.counts ∙ ap counts_of t.answer_is in record { number = number; counts = counts; tables = t.tables_are }
