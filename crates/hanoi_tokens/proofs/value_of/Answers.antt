-- `value_of` meets its contract: a digit is a byte from 48 to 57. Assumes nothing.
use native.Mathlib.Omega.{arith}
use Rattle.hanoi.proofs.Digits.{byte-digit}
use Rattle.hanoi_tokens.proofs.value_of.Goals as goal

pub overflow_sub-b : goal.overflow_sub-b
overflow_sub-b c = (byte-digit _ c.requires).0

pub returns : goal.returns
returns c = (c.from.ensures, omega (arith, c.from.ensures, byte-digit c.args.b c.requires))
