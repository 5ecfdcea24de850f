-- `reading::sets_of` meets its contract: the shift loses no bit.
-- Assumes nothing.
use Prim.Native.Nat.{◌^◌}
use native.Mathlib.Nat.{one-mul}
use native.Mathlib.Omega.{arith}
use mathlib.Core.Path.{◌∙◌}
use lib.Dec.{lit<}
use lib.Pow.{shl_exact}
use Rattle.reading.proofs.sets_of.Goals as goal

pub returns : goal.returns
returns c = shl_exact {a = 1} 1 c.args.colours 64 (lit< tt) (omega (arith, c.requires)) ∙ one-mul (2 ^ c.args.colours)
