-- `where_has` meets its contract. Assumes nothing.
use Prim.Native.Nat.{◌/◌, ◌^◌}
use native.Mathlib.Omega.{arith}
use Rattle.policy.proofs.ByColour.{times-le, times-chosen}
use Rattle.policy.proofs.where_has.Goals as goal

pub overflow_mul-result : goal.overflow_mul-result
overflow_mul-result c = omega (arith, times-le c.args.m (c.args.c / 2 ^ c.args.k))

pub returns : goal.returns
returns c = times-chosen c.args.m c.args.c c.args.k
