use Rattle.lists.proofs.Bools.{eqb≡, and_l, and_r}
use lib.ListN.{get_or}
use lib.Dec.{eqb}
use mathlib.Core.Path.{refl}
use native.Mathlib.Omega.{arith}
use Rattle.looks.proofs.first_from.Goals as goal

pub returns-then-up-by : goal.returns-then-up-by
returns-then-up-by c = let t = c.if-up-by.true in let a = c.args in let z = eqb≡ a.up 0 (and_l (eqb a.up 0) (eqb (get_or a.by.now 8 0) 0) t) in (omega (arith, z), λ _. (z, refl, eqb≡ (get_or a.by.now 8 0) 0 (and_r (eqb a.up 0) (eqb (get_or a.by.now 8 0) 0) t)))
