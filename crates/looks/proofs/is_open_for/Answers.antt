use Rattle.candidates.specs.Candidates.{is_open}
use lib.ListN.{length}
use mathlib.Core.Bool.{Bool, cond}
use mathlib.Core.Path.{sym, ap, ◌∙◌}
use Rattle.looks.proofs.is_open_for.Goals as goal

pub returns-then-v : goal.returns-then-v
returns-then-v c =
    let a = c.args in
    c.is_open.ensures ∙ ap (λ (v : Bool). is_open a.c (cond v a.rejected.now a.accepted.now) (length (cond v a.accepted.now a.rejected.now))) (sym c.if-v.true)

pub returns : goal.returns
returns c =
    let a = c.args in
    c.is_open-2.ensures ∙ ap (λ (v : Bool). is_open a.c (cond v a.rejected.now a.accepted.now) (length (cond v a.accepted.now a.rejected.now))) (sym c.if-v.false)
