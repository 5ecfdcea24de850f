-- `is_before` meets its contract. Assumes nothing.
use mathlib.Core.Path.{refl}
use Rattle.forest.specs.Forest.{before}
use Rattle.siblings.proofs.is_before.Goals as goal

pub returns : goal.returns
unfolding before
returns c = refl
