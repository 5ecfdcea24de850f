-- `has_fitting_lengths` meets its contract. Assumes nothing.
use mathlib.Core.Path.{refl}
use Rattle.builder.specs.Tables.{sizes_fit}
use Rattle.builder.proofs.has_fitting_lengths.Goals as goal

pub returns : goal.returns
unfolding sizes_fit
returns c = rw (c.is_times.ensures, c.is_times-2.ensures) refl
