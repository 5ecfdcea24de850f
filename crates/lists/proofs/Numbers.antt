-- Numbers: tests of order, products and quotients. Assumes nothing.
use Prim.Native.Nat.{ℕ, suc, ◌+◌, ◌*◌, ◌/◌, ◌%◌, ◌^◌, ◌≤◌, ◌<◌, min}
use native.Mathlib.Omega.{arith}
use native.Mathlib.Decide.{ℕ_discrete}
use native.Mathlib.Nat.{mul_comm, suc-mul, mul-le-mul, mul-le-mul_right, div-add-mod', div-mul-le_self}
use mathlib.Core.Path.{◌≡◌, sym, ap, ◌∙◌}
use mathlib.Core.Logic.{◌⊎◌, inl, inr}
use mathlib.Core.Bool.{true, false, ◌&&◌, ◌||◌, cond, true≢false}
use lib.Arith.{digits_div, digits_mod}
use lib.Dec.{eqb, ltb, leb}
use lib.Pow.{pow_mono}
use borrow.Author.Tests.{lt-ltb, le-ltb, le-leb}
use Rattle.lists.proofs.Bools.{test, eqb≡, ≡eqb, neqb, lt-true, lt-false, le-true, le-false, and_l, and_r, both, or_left, or_right, bool-ext}

-- ---- order
pub below_suc : (n i : ℕ) → n < suc i → (n < i) ⊎ (n ≡ i)
below_suc n i h = go (ℕ_discrete n i)
  where
    go : Dec (n ≡ i) → (n < i) ⊎ (n ≡ i)
    go (yes e) = inr e
    go (no k) = inl (omega arith)

-- below 1 is 0
pub below_one : (x : ℕ) → ltb x 1 ≡ eqb x 0
below_one x = go (ℕ_discrete x 0)
  where
    go : Dec (x ≡ 0) → ltb x 1 ≡ eqb x 0
    go (yes q) = lt-ltb x 1 (omega arith) ∙ sym (≡eqb x 0 q)
    go (no q) = le-ltb x 1 (omega arith) ∙ sym (neqb x 0 q)

pub not-zero : (n : ℕ) → eqb (n + 1) 0 ≡ false
not-zero n = neqb (n + 1) 0 (λ e. omega (arith, e))

pub leb-min : (a b c : ℕ) → leb a b && leb a c ≡ leb a (min b c)
leb-min a b c =
    bool-ext (leb a b && leb a c) (leb a (min b c)) (λ t. le-leb a (min b c) (omega (arith, le-true a b (and_l (leb a b) (leb a c) t), le-true a c (and_r (leb a b) (leb a c) t))))
    (λ t. let l = le-true a (min b c) t in both (leb a b) (leb a c) (le-leb a b (omega arith)) (le-leb a c (omega arith)))

pub cond-min : (x y : ℕ) → cond (ltb x y) x y ≡ min x y
cond-min x y = go (test (ltb x y))
  where
    go : (ltb x y ≡ true) ⊎ (ltb x y ≡ false) → cond (ltb x y) x y ≡ min x y
    go (inl t) = rw t (omega (arith, lt-true x y t))
    go (inr f) = rw f (omega (arith, lt-false x y f))

-- not before `from`, and not at `to` or past it
pub within : (from to x : ℕ) → (ltb x from || leb to x) ≡ false → (from ≤ x) × (x < to)
within from to x e = (go (test (ltb x from)), over (test (leb to x)))
  where
    go : (ltb x from ≡ true) ⊎ (ltb x from ≡ false) → from ≤ x
    go (inl t) = absurd (true≢false (sym (or_left (ltb x from) (leb to x) t) ∙ e))
    go (inr f) = lt-false x from f

    over : (leb to x ≡ true) ⊎ (leb to x ≡ false) → x < to
    over (inl t) = absurd (true≢false (sym (or_right (ltb x from) (leb to x) t) ∙ e))
    over (inr f) = le-false to x f

-- ---- products, quotients and powers
-- of two bytes
pub product_lt : {a b : ℕ} → a < 256 → b < 256 → a * b < 65536
product_lt h g = omega (arith, mul-le-mul (most h) (most g))
  where
    most : {x : ℕ} → x < 256 → x ≤ 255
    most k = omega arith

-- of a byte and a number of 56 bits, in a word
pub times-fits : (k m : ℕ) → k < 256 → m < 72057594037927936 → k * m < 18446744073709551616
times-fits k m h g = let a : k ≤ 255 = omega arith in omega (arith, mul-le-mul_right m a)

-- n is k times m, without multiplying
pub times-is : (n k m : ℕ) → 1 ≤ k → (eqb (n % k) 0 && eqb (n / k) m) ≡ eqb n (k * m)
times-is n k m h = bool-ext (eqb (n % k) 0 && eqb (n / k) m) (eqb n (k * m)) there back
  where
    there : eqb (n % k) 0 && eqb (n / k) m ≡ true → eqb n (k * m) ≡ true
    there t =
        let r : n % k ≡ 0 = eqb≡ (n % k) 0 (and_l (eqb (n % k) 0) (eqb (n / k) m) t) in
        let q : n / k ≡ m = eqb≡ (n / k) m (and_r (eqb (n % k) 0) (eqb (n / k) m) t) in
        ≡eqb n (k * m) (omega (arith, div-add-mod' n k, ap (λ (x : ℕ). x * k) q, mul_comm m k))

    back : eqb n (k * m) ≡ true → eqb (n % k) 0 && eqb (n / k) m ≡ true
    back t =
        let e : n ≡ m * k + 0 = omega (arith, eqb≡ n (k * m) t, mul_comm m k) in
        both (eqb (n % k) 0) (eqb (n / k) m) (≡eqb (n % k) 0 (ap (λ (x : ℕ). x % k) e ∙ digits_mod m {m = k} {r = 0} h)) (≡eqb (n / k) m (ap (λ (x : ℕ). x / k) e ∙ digits_div m {m = k} {r = 0} h))

-- row s of n / k rows of k places, place a
pub row_lt : (n k s a : ℕ) → s < n / k → a < k → s * k + a < n
row_lt n k s a h g = omega (arith, div-mul-le_self n k, mul-le-mul_right k h, suc-mul s k)

-- a set of at most 8 members is a byte
pub set-byte : (n d : ℕ) → n ≤ 8 → d < 2 ^ n → d < 256
set-byte n d h l = omega (arith, pow_mono {i = n} {j = 8} h)
