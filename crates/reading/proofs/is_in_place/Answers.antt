-- `reading::is_in_place` meets its contract: each command's case.
-- Assumes nothing.
use lib.Dec.{eqb}
use Rattle.lists.proofs.Bools.{cond-not, cond-true}
use Rattle.reading.specs.Reading.{in_place, is_shape}
use Rattle.reading.proofs.is_in_place.Goals as goal

pub returns-in-End : goal.returns-in-End
unfolding in_place is_shape
returns-in-End c = rw c.in-End.is (cond-not (eqb c.args.at 0))

pub returns-in-Shape : goal.returns-in-Shape
unfolding in_place is_shape
returns-in-Shape c = rw c.in-Shape.is (cond-true (eqb c.args.at 0))

pub returns-in-Edge : goal.returns-in-Edge
unfolding in_place is_shape
returns-in-Edge c = rw c.in-Edge.is (cond-not (eqb c.args.at 0))

pub returns-in-Accept : goal.returns-in-Accept
unfolding in_place is_shape
returns-in-Accept c = rw c.in-Accept.is (cond-not (eqb c.args.at 0))

pub returns-in-Quiet : goal.returns-in-Quiet
unfolding in_place is_shape
returns-in-Quiet c = rw c.in-Quiet.is (cond-not (eqb c.args.at 0))
