use Rattle.std.proofs.Common.{ℕ, ap}
use Rattle.masks.specs.Masks.{has}
use Rattle.masks.proofs.has.Goals as goal

pub returns : goal.returns
unfolding has
returns g c = ap (λ (m : ℕ). has m c.args.e) c.wide.ensures.0
