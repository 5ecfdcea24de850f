-- The lowest member of a set: the trailing zeros of its mask lie below it, and m & (m - 1) is the set without it. Assumes nothing.
use Prim.Native.Nat.{ℕ, zero, suc, ◌-◌, ◌/◌, ◌%◌, ◌^◌, ◌<◌}
use native.Mathlib.Omega.{arith}
use mathlib.Core.Path.{◌≡◌, refl, sym, ◌∙◌}
use mathlib.Core.Logic.{◌≢◌}
use mathlib.Core.Bool.{Bool, true, false, not, ◌&&◌, true≢false}
use lib.Bits.{bit_and}
use lib.Count.{count_trailing_zeros, under}
use lib.Dec.{eqb, eqb-zero-suc, eqb-suc-suc}
use Rattle.lists.proofs.Bools.{eqb≡, ≡eqb, neqb}
use Rattle.masks.specs.Masks.{has}
use Rattle.masks.proofs.Bits.{has-zero, has-suc, has-and}

-- r is the lowest member of m
abbrev pub Lowest : ℕ → ℕ → Type 0
Lowest m r = (has m r ≡ true) × ((e : ℕ) → e < r → has m e ≡ false)

even-bit : (m : ℕ) → m % 2 ≡ 0 → has m 0 ≡ false
even-bit m z = has-zero m ∙ neqb (m % 2) 1 (λ o. omega arith)

-- of an even number it is that of the half, moved up
up : (m r : ℕ) → m % 2 ≡ 0 → Lowest (m / 2) r → Lowest m (suc r)
up m r z h = (has-suc m r ∙ h.0, low)
  where
    low : (e : ℕ) → e < suc r → has m e ≡ false
    low zero l = even-bit m z
    low (suc e) l = has-suc m e ∙ h.1 e (omega arith)

pub trailing-lowest : (k m : ℕ) → m ≢ 0 → m < 2 ^ k → (count_trailing_zeros k m < k) × Lowest m (count_trailing_zeros k m)
unfolding count_trailing_zeros
trailing-lowest zero m n l = absurd (n (omega arith))
trailing-lowest (suc k) m n l = go (m % 2) refl (λ z. trailing-lowest k (m / 2) (λ q. n (omega arith)) (omega arith))
  where
    go : (d : ℕ) → m % 2 ≡ d → (m % 2 ≡ 0 → (count_trailing_zeros k (m / 2) < k) × Lowest (m / 2) (count_trailing_zeros k (m / 2)))
        → (under d (count_trailing_zeros k (m / 2)) < suc k) × Lowest m (under d (count_trailing_zeros k (m / 2)))
    go zero z ih = let r = ih z in (omega (arith, r.0), up m (count_trailing_zeros k (m / 2)) z (r.1))
    go (suc d) o ih = (omega arith, (has-zero m ∙ ≡eqb (m % 2) 1 (omega arith), λ e q. absurd (omega arith)))

-- m & (m - 1), by the lowest bit of m
pub without-lowest : (m v e : ℕ) → Lowest m v → has (bit_and m (m - 1)) e ≡ has m e && not (eqb v e)
without-lowest m v e h = has-and e m (m - 1) ∙ go v e m h
  where
    twice : (b : Bool) → b && b ≡ b && true
    twice true = refl
    twice false = refl

    odd : (m : ℕ) → has m 0 ≡ true → m % 2 ≡ 1
    odd m t = eqb≡ (m % 2) 1 (sym (has-zero m) ∙ t)

    go : (v e m : ℕ) → Lowest m v → has m e && has (m - 1) e ≡ has m e && not (eqb v e)
    go zero zero m h =
        let o = odd m (h.0) in
        rw (even-bit (m - 1) (omega arith)) refl
    go zero (suc e) m h =
        let o = odd m (h.0) in
        let q : (m - 1) / 2 ≡ m / 2 = omega arith in
        rw (has-suc m e, has-suc (m - 1) e, q, eqb-zero-suc e) (twice (has (m / 2) e))
    go (suc v) zero m h = rw (h.1 0 (omega arith)) refl
    go (suc v) (suc e) m h =
        let n : m % 2 ≢ 1 = λ o. true≢false (sym (has-zero m ∙ ≡eqb (m % 2) 1 o) ∙ h.1 0 (omega arith)) in
        let q : (m - 1) / 2 ≡ m / 2 - 1 = omega arith in
        rw (has-suc m e, has-suc (m - 1) e, eqb-suc-suc v e, q) (go v e (m / 2) (sym (has-suc m v) ∙ h.0, λ k l. sym (has-suc m k) ∙ h.1 (suc k) (omega arith)))
