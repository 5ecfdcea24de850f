-- The sets inside u by falling mask: the largest one below d, which is inside u, is d - 1 without what u lacks. Assumes nothing.
use Prim.Native.Nat.{ℕ, ◌+◌, ◌-◌, ◌*◌, ◌/◌, ◌%◌, ◌≤◌, ◌<◌, min}
use native.Mathlib.Omega.{arith}
use native.Mathlib.Nat.{mod-lt, div-add-mod', zero-lt-suc}
use native.Mathlib.Decide.{ℕ_discrete, dec_lt}
use mathlib.Core.Path.{◌≡◌, sym, ap, ◌∙◌, subst}
use mathlib.Core.Bool.{true}
use lib.Arith.{bin_ind}
use lib.Bits.{bit_and, and_step, and_le_l}
use Rattle.lists.proofs.Bools.{eqb≡}
use Rattle.masks.specs.Masks.{inside}

-- by the lowest bit of d
below-by-bits : (d u e : ℕ) → bit_and d u ≡ d → bit_and e u ≡ e → e < d → e ≤ bit_and (d - 1) u
below-by-bits = bin_ind (λ (d : ℕ). (u e : ℕ) → bit_and d u ≡ d → bit_and e u ≡ e → e < d → e ≤ bit_and (d - 1) u) (λ u e _ _ l. absurd (omega arith)) step
  where
    half : (d u : ℕ) → bit_and d u ≡ d → (bit_and (d / 2) (u / 2) ≡ d / 2) × (d % 2 ≤ u % 2)
    half d u h =
        let a = and_step d u in
        let m = div-add-mod' d 2 in
        let b = and_le_l (d / 2) (u / 2) in
        (omega (arith, a, m, b, mod-lt d (zero-lt-suc 1)), omega (arith, a, m, b, mod-lt d (zero-lt-suc 1)))

    step : (d : ℕ) → ((u e : ℕ) → bit_and (d / 2) u ≡ d / 2 → bit_and e u ≡ e → e < d / 2 → e ≤ bit_and (d / 2 - 1) u) → (u e : ℕ) → bit_and d u ≡ d → bit_and e u ≡ e → e < d → e ≤ bit_and (d - 1) u
    step d ih u e hd he l = go (ℕ_discrete (d % 2) 1)
      where
        md : d / 2 * 2 + d % 2 ≡ d
        md = div-add-mod' d 2

        mp : (d - 1) / 2 * 2 + (d - 1) % 2 ≡ d - 1
        mp = div-add-mod' (d - 1) 2

        me : e / 2 * 2 + e % 2 ≡ e
        me = div-add-mod' e 2

        is : (x : ℕ) → (d - 1) / 2 ≡ x → bit_and (d - 1) u ≡ bit_and x (u / 2) * 2 + min ((d - 1) % 2) (u % 2)
        is x q = and_step (d - 1) u ∙ ap (λ (z : ℕ). bit_and z (u / 2) * 2 + min ((d - 1) % 2) (u % 2)) q

        go : Dec (d % 2 ≡ 1) → e ≤ bit_and (d - 1) u
        go (yes odd) = omega (arith, l, md, mp, mod-lt (d - 1) (zero-lt-suc 1), (half d u hd).0, is (d / 2) (omega (arith, l, md, mp, odd, mod-lt (d - 1) (zero-lt-suc 1))))
        go (no even) =
            let z : d % 2 ≡ 0 = omega (arith, even, mod-lt d (zero-lt-suc 1)) in
            let lower : e / 2 < d / 2 = omega (arith, l, md, me, z) in
            omega (arith, l, md, mp, me, z, mod-lt (d - 1) (zero-lt-suc 1), mod-lt e (zero-lt-suc 1), mod-lt u (zero-lt-suc 1), (half e u he).1, ih (u / 2) (e / 2) (half d u hd).0 (half e u he).0 lower, is (d / 2 - 1) (omega (arith, l, md, mp, z, mod-lt (d - 1) (zero-lt-suc 1))))

pub below-inside : (d u e : ℕ) → inside d u ≡ true → inside e u ≡ true → e < d → e ≤ bit_and (d - 1) u
unfolding inside
below-inside d u e hd he l = below-by-bits d u e (eqb≡ (bit_and d u) d hd) (eqb≡ (bit_and e u) e he) l

-- so a set above it is not below d
pub not-between : (d u e : ℕ) → inside d u ≡ true → inside e u ≡ true → bit_and (d - 1) u < e → d ≤ e
not-between d u e hd he l = go (dec_lt e d)
  where
    go : Dec (e < d) → d ≤ e
    go (yes k) = absurd (omega (arith, l, below-inside d u e hd he k))
    go (no k) = omega arith

-- what holds of d and of the sets above it
pub from-here : (P : ℕ → Type 0) (d u : ℕ) → P d → ((e : ℕ) → d < e → inside e u ≡ true → P e) → (e : ℕ) → d ≤ e → inside e u ≡ true → P e
from-here P d u h k e l i = go (ℕ_discrete e d)
  where
    go : Dec (e ≡ d) → P e
    go (yes z) = subst P (sym z) h
    go (no z) = k e (omega arith) i
