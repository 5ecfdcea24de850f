-- `is_kept` meets its contract. Assumes nothing.
use mathlib.Core.Path.{sym, ◌∙◌}
use Rattle.siblings.specs.Positions.{kept}
use Rattle.siblings.proofs.is_kept.Goals as goal

pub returns-then-properly_inside : goal.returns-then-properly_inside
unfolding kept
returns-then-properly_inside c = rw (sym c.properly_inside.ensures ∙ c.if-properly_inside.true) c.is_outside.ensures

pub returns-else-properly_inside : goal.returns-else-properly_inside
unfolding kept
returns-else-properly_inside c = rw (sym c.properly_inside.ensures ∙ c.if-properly_inside.false) c.if-properly_inside.false
