-- `letters_of` meets its contract: the shift loses no bit. Assumes nothing.
use Prim.Native.Nat.{ℕ, ◌^◌, ◌≤◌}
use native.Mathlib.Omega.{arith}
use native.Mathlib.Nat.{one-mul}
use mathlib.Core.Path.{◌∙◌, sym, subst}
use lib.Dec.{lit<}
use lib.Pow.{shl_exact}
use Rattle.hanoi_reader.proofs.Reading.{letters_few}
use Rattle.hanoi_reader.proofs.letters_of.Goals as goal

pub returns : goal.returns
returns c = let e = shl_exact {a = 1} 1 c.args.names 64 (lit< tt) (omega (arith, c.requires)) ∙ one-mul (2 ^ c.args.names) in (e, subst (λ (n : ℕ). n ≤ 8) (sym e) (letters_few c.args.names c.requires))
