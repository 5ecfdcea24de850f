-- `answers::of_translation` meets its contract, case by case. Assumes nothing.
use mathlib.Core.Path.{sym, ap, ◌∙◌}
use Rattle.builder.specs.Tables.{counts_of, number_of}
use Rattle.answers.proofs.of_translation.Goals as goal

pub returns-in-Ok : goal.returns-in-Ok
returns-in-Ok c = let is = c.in-Ok.is in record { number = sym (ap number_of is); counts = sym (ap counts_of is) }

pub returns-in-Err : goal.returns-in-Err
returns-in-Err c = let is = c.in-Err.is in record { number = c.number.ensures ∙ sym (ap number_of is); counts = sym (ap counts_of is) }
