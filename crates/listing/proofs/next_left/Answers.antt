use Rattle.listing.proofs.Steps.{none_between}
use Rattle.lists.proofs.Bools.{and_l, and_r, lt-true}
use lib.Dec.{ltb}
use lib.Bits.{and_le_l}
use mathlib.Core.Path.{sym, ◌∙◌}
use Prim.Native.Nat.{◌-◌}
use native.Mathlib.Omega.{arith}
use Rattle.listing.proofs.next_left.Goals as goal

pub overflow_sub-result : goal.overflow_sub-result
overflow_sub-result c = let a = c.args in let h = lt-true 0 a.left (and_l (ltb 0 a.left) c.inside.result c.if-left-inside.true) in omega (arith, h)

pub overflow_add-result : goal.overflow_add-result
overflow_add-result c = let a = c.args in let h = lt-true 0 a.left (and_l (ltb 0 a.left) c.inside.result c.if-left-inside.true) in omega (arith, h, and_le_l (a.left - 1) a.used, c.ranges.left.fits)

pub returns-then-left-inside : goal.returns-then-left-inside
returns-then-left-inside c = let a = c.args in let h = lt-true 0 a.left (and_l (ltb 0 a.left) c.inside.result c.if-left-inside.true) in (omega (arith, h, and_le_l (a.left - 1) a.used), none_between a.used a.left (sym c.inside.ensures ∙ and_r (ltb 0 a.left) c.inside.result c.if-left-inside.true))

pub returns : goal.returns
returns c = (omega arith, λ x a b. absurd (omega (arith, a, b)))
