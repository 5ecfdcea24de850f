-- `counts_fit` meets its contract: the product of two bytes fits, and the test is that of the definition. Assumes nothing.
use Prim.Native.Nat.{◌<◌}
use native.Mathlib.Omega.{arith}
use borrow.Author.Rules.{rules}
use Rattle.lists.proofs.Numbers.{product_lt}
use Rattle.policy.specs.Policies.{counts_fit}
use Rattle.policy.proofs.counts_fit.Goals as goal

pub overflow_mul-edges : goal.overflow_mul-edges
overflow_mul-edges c =
    let a : c.args.states < 256 = search rules in
    let b : c.args.letters < 256 = search rules in
    omega (arith, product_lt a b)

pub returns : goal.returns
unfolding counts_fit
returns c = search rules
