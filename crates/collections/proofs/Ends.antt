-- The highest bit of a word, and the greatest set of a collection. Assumes nothing.
use Prim.Native.Nat.{ℕ, zero, suc, ◌+◌, ◌-◌, ◌*◌, ◌/◌, ◌%◌, ◌^◌, ◌≤◌, ◌<◌}
use native.Mathlib.Omega.{arith}
use native.Mathlib.Nat.{div-add-mod'}
use native.Mathlib.Decide.{ℕ_discrete}
use mathlib.Core.Path.{◌≡◌, refl, ap, ◌∙◌, subst}
use mathlib.Core.Logic.{◌≢◌}
use mathlib.Core.Bool.{true}
use mathlib.Core.List.{List}
use lib.Count.{count_leading_zeros, leading_length}
use lib.ListN.{get_or}
use Rattle.lists.proofs.Bools.{≡eqb}
use Rattle.masks.specs.Masks.{has}
use Rattle.masks.proofs.Bits.{has-zero, has-suc}
use Rattle.masks.proofs.Members.{bit-lt, none-zero}
use Rattle.collections.specs.Collections.{has_set, WordEnd, End}
use Rattle.collections.proofs.Sets.{set-in, set-of}

high_bit : (j w : ℕ) → 2 ^ j ≤ w → w < 2 ^ suc j → has w j ≡ true
high_bit zero w l h = has-zero w ∙ ≡eqb (w % 2) 1 (omega arith)
high_bit (suc j) w l h = has-suc w j ∙ high_bit j (w / 2) (omega arith) (omega arith)

pub word_end : (w : ℕ) → w < 2 ^ 64 → WordEnd w (64 - count_leading_zeros 64 w)
word_end w l = go (leading_length 64 w l)
  where
    top : (m : ℕ) → m ≢ 0 → w < 2 ^ m → 2 ^ m ≤ 2 * w + 1 → has w (m - 1) ≡ true
    top zero n h g = absurd (n refl)
    top (suc m) n h g =
        let e : suc m - 1 ≡ m = omega arith in
        ap (has w) e ∙ high_bit m w (omega arith) h

    go : ((m : ℕ) × (count_leading_zeros 64 w + m ≡ 64) × (w < 2 ^ m) × (2 ^ m ≤ 2 * w + 1)) → WordEnd w (64 - count_leading_zeros 64 w)
    go r =
        let e : r.0 ≡ 64 - count_leading_zeros 64 w = omega (arith, r.1) in
        subst (WordEnd w) e (record { most = omega (arith, r.1); past = λ x t. bit-lt r.0 w x r.2 t; last = λ n. top r.0 n r.2 r.3 })

-- in a word that is not empty, below which all sets lie, stands the greatest
pub end-here : (t : List ℕ) (k e : ℕ) → k < 4 → ((d : ℕ) → d < 256 → has_set t d ≡ true → d < 64 * (k + 1)) → get_or t k 0 ≢ 0 → WordEnd (get_or t k 0) e → End t (64 * k + e)
end-here t k e l above n w = record { most = omega (arith, w.most); past = past; last = λ _. last }
  where
    some : e ≢ 0
    some z = n (none-zero (get_or t k 0) (λ x h. absurd (omega (arith, w.past x h, z))))

    past : (d : ℕ) → d < 256 → has_set t d ≡ true → d < 64 * k + e
    past d m h = go (ℕ_discrete (d / 64) k)
      where
        go : Dec (d / 64 ≡ k) → d < 64 * k + e
        go (yes q) = omega (arith, div-add-mod' d 64, w.past (d % 64) (set-in t k d q ∙ h))
        go (no q) = omega (arith, above d m h)

    last : has_set t (64 * k + e - 1) ≡ true
    last =
        let p : 64 * k + e - 1 ≡ 64 * k + (e - 1) = omega (arith, some) in
        ap (has_set t) p ∙ set-of t k (e - 1) (omega (arith, w.most, some)) ∙ w.last some

-- an empty word holds none
pub end-lower : (t : List ℕ) (k : ℕ) → get_or t k 0 ≡ 0 → ((d : ℕ) → d < 256 → has_set t d ≡ true → d < 64 * (k + 1)) → (d : ℕ) → d < 256 → has_set t d ≡ true → d < 64 * k
end-lower t k z above d m h = go (ℕ_discrete (d / 64) k)
  where
    go : Dec (d / 64 ≡ k) → d < 64 * k
    go (yes q) = absurd (Rattle.masks.proofs.Members.some-nonzero (get_or t k 0) (d % 64) (set-in t k d q ∙ h) z)
    go (no q) = omega (arith, above d m h)

pub end_none : (t : List ℕ) (k : ℕ) → k ≤ 0 → ((d : ℕ) → d < 256 → has_set t d ≡ true → d < 64 * k) → End t 0
end_none t k z above = record { most = omega arith; past = λ d m h. omega (arith, above d m h); last = λ n. absurd (n refl) }
