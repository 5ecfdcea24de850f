-- `row_of` meets its contract. Assumes nothing.
use mathlib.Core.Path.{refl}
use Rattle.steps.specs.Steps.{word_row}
use Rattle.steps.proofs.row_of.Goals as goal

pub returns : goal.returns
unfolding word_row
returns c = refl
