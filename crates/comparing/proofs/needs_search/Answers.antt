-- `needs_search` meets its contract. Assumes nothing.
use mathlib.Core.Path.{sym, ap, ◌∙◌}
use lib.Bits.{bit_and}
use Rattle.comparing.specs.Pairs.{exactly_by}
use Rattle.comparing.proofs.Searches.{by_one, by_two}
use Rattle.comparing.proofs.needs_search.Goals as goal

pub returns-then-h-d : goal.returns-then-h-d
returns-then-h-d c =
    let a = c.args in
    sym (by_one a.g.now.by a.h.now.by a.h.now.policy.now.family a.verdict a.m a.c a.d c.if-h-d.true)

pub returns : goal.returns
returns c =
    let a = c.args in
    c.has_exactly.ensures ∙ ap (exactly_by a.g.now.by a.h.now.by a.c a.d) (c.both-x.ensures ∙ ap (bit_and a.m) c.edges_in.ensures)
    ∙ sym (by_two a.g.now.by a.h.now.by a.h.now.policy.now.family a.verdict a.m a.c a.d c.if-h-d.false)
