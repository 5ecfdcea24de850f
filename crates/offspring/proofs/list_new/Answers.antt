-- `offspring::list_new` meets its contract: unless it is listed, and if the space does. Assumes nothing.
use Rattle.offspring.proofs.Looking.{listed-short, listed-now}
use native.Mathlib.Omega.{arith}
use Rattle.offspring.proofs.list_new.Goals as goal

pub returns-then-pool-count-lt16 : goal.returns-then-pool-count-lt16
returns-then-pool-count-lt16 c = λ p parts l. listed-short l c.requires.places.0 (omega arith) c.if-pool-count-lt16.true

pub list_set-requires : goal.list_set-requires
list_set-requires c = record { policy = (c.requires.policy.0, c.requires.policy.1, c.requires.policy.2); places = (omega (arith, c.requires.policy.2.long), c.requires.places.0, c.requires.places.1, omega arith) }

pub returns : goal.returns
returns c = λ p parts l. listed-now (c.list_set.ensures p parts l)
