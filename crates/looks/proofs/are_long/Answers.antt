use Rattle.candidates.specs.Candidates.{are_long}
use mathlib.Core.Path.{refl}
use Rattle.looks.proofs.are_long.Goals as goal

pub returns : goal.returns
unfolding are_long
returns c = refl
