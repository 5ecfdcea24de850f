-- `graph::with_target` meets its contract. Assumes nothing.
use mathlib.Core.Path.{ap, ◌∙◌}
use mathlib.Core.Bool.{Bool, cond}
use lib.ListN.{get_or}
use Rattle.masks.specs.Masks.{insert}
use Rattle.graph.specs.Through.{with_target}
use Rattle.graph.proofs.with_target.Goals as goal

pub returns : goal.returns
unfolding with_target
returns c =
    let a = c.args in
    c.with_if.ensures ∙ ap (λ (b : Bool). cond b (insert a.row (get_or a.t.now a.e 0)) a.row) c.has.ensures
