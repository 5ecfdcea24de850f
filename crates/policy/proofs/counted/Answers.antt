-- `counted` meets its contract: the definition, opened. Assumes nothing.
use mathlib.Core.Path.{refl}
use Rattle.policy.specs.Making.{counted}
use Rattle.policy.proofs.counted.Goals as goal

pub returns : goal.returns
unfolding counted
returns c = refl
