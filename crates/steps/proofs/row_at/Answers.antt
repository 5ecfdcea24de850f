-- `row_at` meets its contract, word by word. Assumes nothing.
use mathlib.Core.Path.{sym, ◌∙◌}
use Rattle.steps.proofs.WordRows.{row-a, row-b, row-c, row-d}
use Rattle.steps.proofs.row_at.Goals as goal

pub returns-then-v-lt4 : goal.returns-then-v-lt4
returns-then-v-lt4 c = let w = c.args.w in c.row_of.ensures ∙ sym (row-a w.a w.b w.c w.d c.args.v c.if-v-lt4.true)

pub returns-then-v-lt8 : goal.returns-then-v-lt8
returns-then-v-lt8 c = let w = c.args.w in c.row_of-then-v-lt8.ensures ∙ sym (row-b w.a w.b w.c w.d c.args.v c.if-v-lt4.false c.if-v-lt8.true)

pub returns-then-v-lt12 : goal.returns-then-v-lt12
returns-then-v-lt12 c = let w = c.args.w in c.row_of-then-v-lt12.ensures ∙ sym (row-c w.a w.b w.c w.d c.args.v c.if-v-lt8.false c.if-v-lt12.true)

pub returns : goal.returns
returns c = let w = c.args.w in c.row_of-2.ensures ∙ sym (row-d w.a w.b w.c w.d c.args.v c.if-v-lt12.false)
