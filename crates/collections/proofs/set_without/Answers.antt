-- `collections::set_without` meets its contract: below 8 the shift is exact. Assumes nothing.
use Prim.Native.Nat.{ℕ}
use mathlib.Core.Path.{ap}
use lib.Bits.{bit_and, bit_xor}
use Rattle.masks.specs.Masks.{minus}
use Rattle.masks.proofs.Bits.{shl_one}
use Rattle.collections.proofs.set_without.Goals as goal

pub returns : goal.returns
unfolding minus
returns c = ap (λ (x : ℕ). bit_xor c.args.s (bit_and c.args.s x)) (shl_one 8 c.args.i c.requires)
