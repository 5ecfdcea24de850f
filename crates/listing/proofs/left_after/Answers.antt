use Rattle.lists.proofs.Bools.{≡eqb, neqb}
use mathlib.Core.Bool.{Bool, cond}
use mathlib.Core.Path.{sym, ap}
use Rattle.listing.proofs.left_after.Goals as goal

pub returns-then-edges-eq0 : goal.returns-then-edges-eq0
returns-then-edges-eq0 c = sym (ap (λ (b : Bool). cond b c.args.up c.args.c) (≡eqb c.args.edges 0 c.if-edges-eq0.true))

pub returns : goal.returns
returns c = sym (ap (λ (b : Bool). cond b c.args.up c.args.c) (neqb c.args.edges 0 c.if-edges-eq0.false))
