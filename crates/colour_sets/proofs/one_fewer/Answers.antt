-- `colour_sets::one_fewer` meets its contract, by one computed test of all sizes. Assumes nothing.
use Prim.Native.Nat.{ℕ, ◌-◌, ◌*◌, ◌/◌}
use native.Mathlib.Nat.{mul-le-mul}
use native.Mathlib.Omega.{arith}
use mathlib.Core.Path.{ap, ◌∙◌}
use borrow.Author.Rules.{rules}
use Rattle.colour_sets.proofs.Counting.{count-fewer}
use Rattle.colour_sets.proofs.one_fewer.Goals as goal

pub overflow_mul-result : goal.overflow_mul-result
overflow_mul-result c = omega (arith, mul-le-mul (count-fewer c.args.c c.requires.0 c.requires.1).1 c.requires.1, ap (λ (n : ℕ). n * c.args.c) c.requires.2)

pub returns : goal.returns
returns c = ap (λ (n : ℕ). n * c.args.c / (9 - c.args.c)) c.requires.2 ∙ (count-fewer c.args.c c.requires.0 c.requires.1).0
