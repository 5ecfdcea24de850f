-- The set of the numbers below n that pass a test, as a mask: its bits, and what a loop that builds it meets. Assumes nothing.
use Prim.Native.Nat.{ℕ, zero, suc, ◌+◌, ◌^◌, ◌<◌}
use native.Mathlib.Omega.{arith}
use mathlib.Core.Path.{◌≡◌, refl, sym, ap, ◌∙◌}
use mathlib.Core.Logic.{◌⊎◌, inl, inr}
use mathlib.Core.Bool.{Bool, true, false, ◌||◌, cond, or-true, or-false}
use lib.Pow.{pow_pos}
use native.Mathlib.Numerals.{add-one}
use Rattle.lists.proofs.Bools.{test, ≡eqb, neqb}
use Rattle.masks.specs.Masks.{has, insert, mask_of}
use Rattle.masks.proofs.Bits.{insert-top, has-top, has-high}
use Rattle.masks.proofs.Members.{bit-lt}

pub mask-of-lt : (t : ℕ → Bool) (n : ℕ) → mask_of t n < 2 ^ n
unfolding mask_of
mask-of-lt t zero = omega arith
mask-of-lt t (suc n) = go (t n) (mask-of-lt t n)
  where
    go : (b : Bool) → mask_of t n < 2 ^ n → cond b (mask_of t n + 2 ^ n) (mask_of t n) < 2 ^ suc n
    go true h = omega arith
    go false h = omega (arith, pow_pos n)

pub has-mask-of : (t : ℕ → Bool) (n e : ℕ) → e < n → has (mask_of t n) e ≡ t e
unfolding mask_of
has-mask-of t zero e h = absurd (omega arith)
has-mask-of t (suc n) e h = go (native.Mathlib.Decide.ℕ_discrete n e) (test (t n)) (has-mask-of t n e)
  where
    go : Dec (n ≡ e) → (t n ≡ true) ⊎ (t n ≡ false) → (e < n → has (mask_of t n) e ≡ t e) → has (mask_of t (suc n)) e ≡ t e
    go (yes q) (inl u) ih = rw u (has-top n e (mask_of t n) (mask-of-lt t n) ∙ ap (λ (b : Bool). has (mask_of t n) e || b) (≡eqb n e q) ∙ or-true (has (mask_of t n) e) ∙ sym (ap t (sym q) ∙ u))
    go (yes q) (inr u) ih = rw u (has-high n e (mask_of t n) (mask-of-lt t n) (omega arith) ∙ sym (ap t (sym q) ∙ u))
    go (no q) (inl u) ih = rw u (has-top n e (mask_of t n) (mask-of-lt t n) ∙ ap (λ (b : Bool). has (mask_of t n) e || b) (neqb n e q) ∙ or-false (has (mask_of t n) e) ∙ ih (omega arith))
    go (no q) (inr u) ih = rw u (ih (omega arith))

-- a member is below n, and passes
pub mask-of-some : (t : ℕ → Bool) (n e : ℕ) → has (mask_of t n) e ≡ true → (e < n) × (t e ≡ true)
mask-of-some t n e h = let l = bit-lt n (mask_of t n) e (mask-of-lt t n) h in (l, sym (has-mask-of t n e l) ∙ h)

-- with n, or without it, as a loop meets it
pub mask-of-none : (t : ℕ → Bool) → mask_of t 0 ≡ 0
unfolding mask_of
mask-of-none t = refl

pub mask-of-in : (t : ℕ → Bool) (n : ℕ) → t n ≡ true → mask_of t (n + 1) ≡ insert (mask_of t n) n
unfolding mask_of
mask-of-in t n h = rw add-one (ap (λ (b : Bool). cond b (mask_of t n + 2 ^ n) (mask_of t n)) h ∙ sym (insert-top n (mask_of t n) (mask-of-lt t n)))

pub mask-of-out : (t : ℕ → Bool) (n : ℕ) → t n ≡ false → mask_of t (n + 1) ≡ mask_of t n
unfolding mask_of
mask-of-out t n h = rw add-one (ap (λ (b : Bool). cond b (mask_of t n + 2 ^ n) (mask_of t n)) h)
