-- The union of the mark sets of a colour set: one place more, its members, and that empty sets past the last one add nothing. Assumes nothing.
use Prim.Native.Nat.{ℕ, zero, suc, ◌+◌, ◌<◌}
use native.Mathlib.Omega.{arith}
use native.Mathlib.Decide.{ℕ_discrete}
use native.Mathlib.Nat.{add-suc, add-zero}
use native.Mathlib.Numerals.{add-one}
use mathlib.Core.Path.{◌≡◌, refl, sym, ap, ap₂, ◌∙◌}
use mathlib.Core.Logic.{◌⊎◌, inl, inr, ◌↔◌}
use mathlib.Core.Bool.{Bool, true, false, cond, true≢false, false≢true}
use mathlib.Core.List.{List, [], ◌∷◌, ◌++◌}
use lib.Bits.{bit_or, or_zero_r}
use lib.ListN.{length, get_or, replicate, get_or-eq_default}
use Rattle.lists.proofs.Bools.{test, or_cases, or_left, or_right}
use Rattle.lists.proofs.Lists.{replicate-at}
use Rattle.masks.specs.Masks.{has}
use Rattle.masks.proofs.Bits.{has-or, has-none}
use Rattle.mark_sets.specs.MarkSets.{union_at}

-- ---- one turn
pub union-none : (l : List ℕ) (s : ℕ) → union_at l s 0 ≡ 0
unfolding union_at
union-none l s = refl

pub union-with : (l : List ℕ) (s n : ℕ) → has s n ≡ true → union_at l s (n + 1) ≡ bit_or (union_at l s n) (get_or l n 0)
unfolding union_at
union-with l s n t = rw add-one (ap (λ (b : Bool). cond b (bit_or (union_at l s n) (get_or l n 0)) (union_at l s n)) t)

pub union-without : (l : List ℕ) (s n : ℕ) → has s n ≡ false → union_at l s (n + 1) ≡ union_at l s n
unfolding union_at
union-without l s n f = rw add-one (ap (λ (b : Bool). cond b (bit_or (union_at l s n) (get_or l n 0)) (union_at l s n)) f)

-- ---- sets past the last one
union-same : (l r : List ℕ) (s n : ℕ) → ((c : ℕ) → get_or l c 0 ≡ get_or r c 0) → union_at l s n ≡ union_at r s n
unfolding union_at
union-same l r s zero h = refl
union-same l r s (suc n) h = ap₂ (λ (u x : ℕ). cond (has s n) (bit_or u x) u) (union-same l r s n h) (h n)

union-past : (l : List ℕ) (n s : ℕ) → union_at l s (length l + n) ≡ union_at l s (length l)
unfolding union_at
union-past l zero s = ap (union_at l s) (add-zero (length l))
union-past l (suc n) s =
    ap (union_at l s) (add-suc (length l) n)
    ∙ ap (λ (x : ℕ). cond (has s (length l + n)) (bit_or (union_at l s (length l + n)) x) (union_at l s (length l + n))) (get_or-eq_default l 0 (omega arith))
    ∙ go (has s (length l + n)) ∙ union-past l n s
  where
    u : ℕ
    u = union_at l s (length l + n)

    go : (b : Bool) → cond b (bit_or u 0) u ≡ u
    go true = or_zero_r u
    go false = refl

-- 0 past the last place changes no place
pub filled_at : (l : List ℕ) (n c : ℕ) → get_or (l ++ replicate n 0) c 0 ≡ get_or l c 0
filled_at [] n c = replicate-at n c 0
filled_at (x ∷ l) n zero = refl
filled_at (x ∷ l) n (suc c) = filled_at l n c

pub union-filled : (l : List ℕ) (n s : ℕ) → union_at (l ++ replicate n 0) s (length l + n) ≡ union_at l s (length l)
union-filled l n s = union-same (l ++ replicate n 0) l s (length l + n) (filled_at l n) ∙ union-past l n s

-- ---- its members
pub union-has : (l : List ℕ) (s n m : ℕ) → (has (union_at l s n) m ≡ true) ↔ ((c : ℕ) × (c < n) × (has s c ≡ true) × (has (get_or l c 0) m ≡ true))
unfolding union_at
union-has l s zero m = (λ h. absurd (false≢true (sym (has-none m) ∙ h)), λ r. absurd (omega (arith, r.1)))
union-has l s (suc n) m = (λ h. to (test (has s n)) (union-has l s n m) h, λ r. from (test (has s n)) (union-has l s n m) r (ℕ_discrete r.0 n))
  where
    u : ℕ
    u = union_at l s n

    x : ℕ
    x = get_or l n 0

    Some : ℕ → Type 0
    Some n = (c : ℕ) × (c < n) × (has s c ≡ true) × (has (get_or l c 0) m ≡ true)

    up : Some n → Some (suc n)
    up r = (r.0, omega (arith, r.1), r.2, r.3)

    with : has s n ≡ true → (has u m ≡ true) ↔ Some n → (has u m ≡ true) ⊎ (has x m ≡ true) → Some (suc n)
    with t ih (inl h) = up (ih.0 h)
    with t ih (inr h) = (n, omega arith, t, h)

    to : (has s n ≡ true) ⊎ (has s n ≡ false) → (has u m ≡ true) ↔ Some n → has (cond (has s n) (bit_or u x) u) m ≡ true → Some (suc n)
    to (inl t) ih h = with t ih (or_cases (has u m) (has x m) (sym (has-or m u x) ∙ (rw t at h)))
    to (inr f) ih h = up (ih.0 (rw f at h))

    from : (has s n ≡ true) ⊎ (has s n ≡ false) → (has u m ≡ true) ↔ Some n → (r : Some (suc n)) → Dec (r.0 ≡ n) → has (cond (has s n) (bit_or u x) u) m ≡ true
    from (inl t) ih r (yes e) = rw t (has-or m u x ∙ or_right (has u m) (has x m) (ap (λ (c : ℕ). has (get_or l c 0) m) (sym e) ∙ r.3))
    from (inl t) ih r (no k) = rw t (has-or m u x ∙ or_left (has u m) (has x m) (ih.1 (r.0, omega (arith, r.1, k), r.2, r.3)))
    from (inr f) ih r (yes e) = absurd (true≢false (sym r.2 ∙ ap (has s) e ∙ f))
    from (inr f) ih r (no k) = rw f (ih.1 (r.0, omega (arith, r.1, k), r.2, r.3))
