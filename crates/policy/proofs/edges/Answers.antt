use Prim.Native.Nat.{◌<◌}
use native.Mathlib.Omega.{arith}
use native.Mathlib.Nat.{mul-le-mul}
use borrow.Author.Rules.{rules}
use Rattle.policy.specs.Policies.{edges}
use Rattle.policy.proofs.edges.Goals as goal

pub overflow_mul-result : goal.overflow_mul-result
overflow_mul-result c =
    let a : c.args.p.now.states < 256 = search rules in
    let b : c.args.p.now.letters < 256 = search rules in
    omega (arith, mul-le-mul a b)

pub returns : goal.returns
unfolding edges
returns c = search rules
