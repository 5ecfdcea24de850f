use Rattle.looks.proofs.Spans.{span-passed}
use lib.ListN.{length, get_or}
use mathlib.Core.Bool.{cond, false≢true}
use mathlib.Core.Path.{sym, ◌∙◌}
use borrow.Author.Rules.{rules}
use Rattle.looks.proofs.is_passed.Goals as goal

pub returns-then-c-up-lt3 : goal.returns-then-c-up-lt3
returns-then-c-up-lt3 c = λ t s a b i j. absurd (false≢true t)

pub returns-then-is_open_for : goal.returns-then-is_open_for
returns-then-is_open_for c = λ t s a b i j. absurd (false≢true t)

pub returns : goal.returns
returns c =
    let a = c.args in
    λ t s l h i j.
    span-passed a.family.now (get_or a.by.now 8 0) a.up c.first_from.result s a.c a.v (cond a.v a.rejected.now a.accepted.now) (length (cond a.v a.accepted.now a.rejected.now)) c.first_from.ensures (c.is_uniform.ensures t) (sym c.is_open_for.ensures ∙ c.if-is_open_for.false) l h i j
