-- `may_hold` meets its contract. Assumes nothing.
use mathlib.Core.Path.{sym, ap, ◌∙◌}
use mathlib.Core.Bool.{Bool, not, ◌&&◌}
use lib.Dec.{eqb}
use Rattle.looks.proofs.Looks.{held, unheld}
use Rattle.looks.proofs.may_hold.Goals as goal

pub returns-then-inside-e : goal.returns-then-inside-e
returns-then-inside-e c = let a = c.args in held a.c a.m a.same.now a.h a.y _ _ c.both-e.ensures c.is_covered.ensures (ap (λ (d : Bool). d && not (eqb c.both-e.result 0)) (sym c.inside.ensures) ∙ c.if-inside-e.true)

pub returns : goal.returns
returns c = let a = c.args in unheld a.c a.m a.same.now a.h a.y _ c.both-e.ensures (ap (λ (d : Bool). d && not (eqb c.both-e.result 0)) (sym c.inside.ensures) ∙ c.if-inside-e.false)
