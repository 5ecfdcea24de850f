-- `collections::sides` meets its contract: what is not accepted is rejected. Assumes nothing.
use native.Mathlib.Omega.{arith}
use mathlib.Core.Path.{ap, ◌∙◌}
use mathlib.Core.Bool.{not}
use Rattle.collections.proofs.sides.Goals as goal

pub returns : goal.returns
returns c =
    let few = c.requires in
    let a = c.accepted-t.ensures in
    let o = c.others-u.ensures in (
      λ d s l k is. c.over.ensures d s l k (a d l ∙ is),
      λ d s l k is. c.over-2.ensures d s l k (o d (omega arith) ∙ ap not (a d l ∙ is)),
    )
