-- `coloured` meets its contract: by the table below colour 6, and by the word's number from there on. Assumes nothing.
use native.Mathlib.Omega.{arith}
use mathlib.Core.Path.{sym, ◌∙◌}
use Rattle.hanoi_family.proofs.Words.{table, low-has, high-has}
use Rattle.hanoi_family.proofs.coloured.Goals as goal

pub returns-then-c-lt6 : goal.returns-then-c-lt6
unfolding table
returns-then-c-lt6 c = low-has _ _ c.requires.0 c.if-c-lt6.true

pub returns-then-has : goal.returns-then-has
returns-then-has c = high-has _ _ _ c.requires.0 (omega (arith, c.if-c-lt6.false)) c.requires.1 (sym c.if-has.true ∙ c.has.ensures)

pub returns : goal.returns
returns c = high-has _ _ _ c.requires.0 (omega (arith, c.if-c-lt6.false)) c.requires.1 (sym c.if-has.false ∙ c.has.ensures)
