-- `graph::join_row` meets its contract: by whether the row has k. Assumes nothing.
use Rattle.lists.proofs.Bools.{≡eqb, neqb}
use Rattle.masks.specs.Masks.{has}
use Rattle.graph.specs.Through.{join_row}
use Rattle.graph.proofs.join_row.Goals as goal

pub returns-then-row-k-eq1 : goal.returns-then-row-k-eq1
unfolding join_row has
returns-then-row-k-eq1 c = simp (≡eqb _ _ c.if-row-k-eq1.true)

pub returns : goal.returns
unfolding join_row has
returns c = simp (neqb _ _ c.if-row-k-eq1.false)
