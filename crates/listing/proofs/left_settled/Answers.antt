use Rattle.listing.proofs.Steps.{settled-none, settled-end}
use mathlib.Core.Path.{refl}
use native.Mathlib.Omega.{arith}
use Rattle.listing.proofs.left_settled.Goals as goal

pub returns-then-e-eq0 : goal.returns-then-e-eq0
returns-then-e-eq0 c = let a = c.args in record { settled = λ p t f w. settled-none t a.v a.up a.c a.e a.up a.other.now a.same.now c.if-e-eq0.true; left = (omega arith, c.requires.other.1) }

pub returns-then-c-up-lt7 : goal.returns-then-c-up-lt7
returns-then-c-up-lt7 c = let a = c.args in record { settled = λ p t f w. settled-end t a.v a.up a.c a.e a.c a.other.now a.same.now refl; left = (c.requires.other.1, omega arith) }

pub returns-then-are_long : goal.returns-then-are_long
returns-then-are_long c = let a = c.args in record { settled = λ p t f w. settled-end t a.v a.up a.c a.e a.c a.other.now a.same.now refl; left = (c.requires.other.1, omega arith) }
