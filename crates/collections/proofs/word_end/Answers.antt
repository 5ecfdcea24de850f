-- `collections::word_end` meets its contract: the leading zeros and the bits up to the highest one make 64. Assumes nothing.
use native.Mathlib.Omega.{arith}
use lib.Count.{leading_le}
use Rattle.collections.proofs.Ends.{word_end}
use Rattle.collections.proofs.word_end.Goals as goal

pub overflow_cast-result : goal.overflow_cast-result
overflow_cast-result c = record { fits = omega (arith, leading_le 64 c.args.w) }

pub overflow_sub-result : goal.overflow_sub-result
overflow_sub-result c = leading_le 64 c.args.w

pub returns : goal.returns
returns c = word_end c.args.w c.ranges.w.fits
