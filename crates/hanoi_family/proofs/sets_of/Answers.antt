-- `sets_of` meets its contract: the shift loses no bit. Assumes nothing.
use Prim.Native.Nat.{◌^◌}
use native.Mathlib.Nat.{one-mul}
use native.Mathlib.Omega.{arith}
use mathlib.Core.Path.{◌∙◌}
use lib.Dec.{lit<}
use lib.Pow.{shl_exact}
use Rattle.hanoi_family.proofs.Families.{sets_few}
use Rattle.hanoi_family.proofs.sets_of.Goals as goal

pub returns : goal.returns
returns c =
    let e = shl_exact {a = 1} 1 c.args.colours 64 (lit< tt) (omega (arith, c.requires)) ∙ one-mul (2 ^ c.args.colours) in
    let few = sets_few c.args.colours c.requires in
    (e, omega (arith, e, few.0), omega (arith, e, few.1))
