-- The members of a set: one more, some or none, and where they lie. Assumes nothing.
use Prim.Native.Nat.{ℕ, ◌-◌, ◌^◌, ◌<◌}
use native.Mathlib.Omega.{arith}
use native.Mathlib.Decide.{dec_lt}
use mathlib.Core.Path.{◌≡◌, refl, sym, ap, ◌∙◌}
use mathlib.Core.Logic.{◌⊎◌, inl, inr, ◌≢◌}
use mathlib.Core.Bool.{true, false, true≢false, false≢true}
use mathlib.Core.List.{Memᴰ}
use lib.Count.{ones}
use lib.Dec.{eqb}
use lib.Pow.{pow_pos}
use Rattle.lists.specs.Lists.{any, below}
use Rattle.lists.proofs.Bools.{test, eqb≡, ≡eqb, or_cases, or_left, or_right, bool-ext}
use Rattle.lists.proofs.Lists.{any_some, none_any, filter-mem, mem-filter, mem_below, below-lt}
use Rattle.masks.specs.Masks.{has, insert, members}
use Rattle.masks.proofs.Bits.{has-none, has-insert, has-high, mask-ext, mask-ext-to, ones-inside}

-- ---- one more
pub insert-cases : (m t e : ℕ) → has (insert m t) e ≡ true → (has m e ≡ true) ⊎ (t ≡ e)
insert-cases m t e h = go (or_cases (has m e) (eqb t e) (sym (has-insert m t e) ∙ h))
  where
    go : (has m e ≡ true) ⊎ (eqb t e ≡ true) → (has m e ≡ true) ⊎ (t ≡ e)
    go (inl k) = inl k
    go (inr k) = inr (eqb≡ t e k)

pub insert-keeps : (m t e : ℕ) → has m e ≡ true → has (insert m t) e ≡ true
insert-keeps m t e h = has-insert m t e ∙ or_left (has m e) (eqb t e) h

pub insert-adds : (m t : ℕ) → has (insert m t) t ≡ true
insert-adds m t = has-insert m t t ∙ or_right (has m t) (eqb t t) (≡eqb t t refl)

-- ---- where they lie
-- a bit of a number below 2 ^ n stands below n
pub bit-lt : (n m e : ℕ) → m < 2 ^ n → has m e ≡ true → e < n
bit-lt n m e l t = go (dec_lt e n)
  where
    go : Dec (e < n) → e < n
    go (yes k) = k
    go (no k) = absurd (false≢true (sym (has-high n e m l (omega arith)) ∙ t))

pub full-lt : (n e : ℕ) → has (2 ^ n - 1) e ≡ true → e < n
full-lt n e t = bit-lt n (2 ^ n - 1) e (omega (arith, pow_pos n)) t

-- the list of the members below n
pub members-has : (n m e : ℕ) → Memᴰ e (members n m) → has m e ≡ true
unfolding members
members-has n m e k = (filter-mem (has m) (below n) e k).1

pub members-lt : (n m e : ℕ) → Memᴰ e (members n m) → e < n
unfolding members
members-lt n m e k = below-lt n e (filter-mem (has m) (below n) e k).0

pub has-members : (n m e : ℕ) → e < n → has m e ≡ true → Memᴰ e (members n m)
unfolding members
has-members n m e l t = mem-filter (has m) (below n) e (mem_below n e l) t

-- ---- some or none
-- a set with a member is not empty
pub some-nonzero : (m e : ℕ) → has m e ≡ true → m ≢ 0
some-nonzero m e t z = false≢true (sym (ap (λ (x : ℕ). has x e) z ∙ has-none e) ∙ t)

-- a set without a member is empty
pub none-zero : (m : ℕ) → ((e : ℕ) → has m e ≡ true → ⊥) → m ≡ 0
none-zero m h = mask-ext m 0 (λ e. bool-ext (has m e) (has 0 e) (λ t. absurd (h e t)) (λ t. absurd (false≢true (sym (has-none e) ∙ t))))

-- a number that is not 0 has a bit
pub some-bit : (k x : ℕ) → x < 2 ^ k → x ≢ 0 → (e : ℕ) × (e < k) × (has x e ≡ true)
some-bit k x h n = go (test (any (has x) (below k)))
  where
    go : (any (has x) (below k) ≡ true) ⊎ (any (has x) (below k) ≡ false) → (e : ℕ) × (e < k) × (has x e ≡ true)
    go (inl t) = let r = any_some (has x) (below k) t in (r.0, below-lt k r.0 r.1, r.2)
    go (inr f) = absurd (n (mask-ext-to k x 0 h (pow_pos k) (λ e q. none_any (has x) (below k) f e (mem_below k e q) ∙ sym (has-none e))))

-- a set of numbers below n is empty, or has a member
pub none_or_some : (n m : ℕ) → ((e : ℕ) → has m e ≡ true → e < n) → (m ≡ 0) ⊎ ((e : ℕ) × (has m e ≡ true))
none_or_some n m lt = go (test (any (has m) (below n)))
  where
    go : (any (has m) (below n) ≡ true) ⊎ (any (has m) (below n) ≡ false) → (m ≡ 0) ⊎ ((e : ℕ) × (has m e ≡ true))
    go (inl t) = let r = any_some (has m) (below n) t in inr (r.0, r.2)
    go (inr f) = inl (none-zero m (λ e t. true≢false (sym t ∙ none_any (has m) (below n) f e (mem_below n e (lt e t)))))

pub one-member : (u : ℕ) → 0 < ones (2 ^ u)
one-member u = go (ones-inside 0 (2 ^ u) (λ e t. absurd (false≢true (sym (has-none e) ∙ t))))
  where
    go : (0 ≡ 2 ^ u) ⊎ (ones 0 < ones (2 ^ u)) → 0 < ones (2 ^ u)
    go (inl e) = absurd (omega (arith, pow_pos u))
    go (inr l) = omega arith
