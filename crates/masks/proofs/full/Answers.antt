use mathlib.Core.Path.{◌≡◌, ap, sym}
use Prim.Native.Nat.{ℕ, ◌*◌, ◌-◌, ◌%◌, ◌^◌}
use native.Mathlib.Omega.{arith}
use lib.Pow.{pow_pos}
use Rattle.masks.proofs.Bits.{shl_one}
use Rattle.masks.proofs.full.Goals as goal

pub returns-then-n-eq64 : goal.returns-then-n-eq64
returns-then-n-eq64 c = ap (λ (n : ℕ). 2 ^ n - 1) (sym c.if-n-eq64.true)

-- below 64 the shift is exact
shifted : (c : goal.Else-n-eq64) → 1 * 2 ^ c.args.n % 2 ^ 64 ≡ 2 ^ c.args.n
shifted c = shl_one 64 c.args.n (omega arith)

pub overflow_sub-result : goal.overflow_sub-result
overflow_sub-result c = omega (arith, shifted c, pow_pos c.args.n)

pub returns : goal.returns
returns c = ap (λ (x : ℕ). x - 1) (shifted c)
