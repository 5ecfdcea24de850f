-- `is_times` meets its contract. Assumes nothing.
use native.Mathlib.Omega.{arith}
use Rattle.lists.proofs.Numbers.{times-fits, times-is}
use Rattle.builder.proofs.is_times.Goals as goal

pub overflow_mul-result : goal.overflow_mul-result
overflow_mul-result c = omega (arith, times-fits c.args.k c.args.m c.ranges.k.fits c.if-m-lt72057594037927936.true)

pub returns : goal.returns
returns c = times-is c.args.n c.args.k c.args.m c.requires
