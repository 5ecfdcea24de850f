-- The laws of `has`: of and, or, difference, one bit, inclusion, the full set; two masks with the same bits are equal; counts; a shifted 1. Assumes nothing.
use Prim.Native.Nat.{ℕ, zero, suc, ◌+◌, ◌*◌, ◌-◌, ◌/◌, ◌%◌, ◌^◌, ◌≤◌, ◌<◌, min, max}
use native.Mathlib.Nat.{one-mul, zero-mul, pow-suc, mod-lt, div-add-mod', div-one, add_comm}
use native.Mathlib.Omega.{arith}
use native.Mathlib.Decide.{dec_lt}
use native.Mathlib.Numerals.{add-one}
use mathlib.Core.Path.{◌≡◌, refl, sym, ap, ◌∙◌, subst}
use mathlib.Core.Logic.{◌⊎◌, inl, inr}
use mathlib.Core.Bool.{Bool, true, false, not, ◌&&◌, ◌||◌, cond, true≢false, false≢true}
use lib.Dec.{eqb, lit<}
use lib.Arith.{digits_mod}
use lib.Pow.{shr-shr, shl_exact, pow_pos, pow-lt, field, mod-mod-pow}
use lib.Bits.{bit_and, bit_or, bit_xor, and_step, or_step, and_shr, or_shr, or_lt, or_zero_r, xor_shr, xor_mod}
use mir.Val.{bool_byte}
use lib.Count.{ones, ones_step}
use Rattle.lists.proofs.Bools.{test, eqb≡, ≡eqb, and_l, and_r, not-true, bool-ext, and-absorb}
use Rattle.lists.specs.Bools.{differs}
use Rattle.masks.specs.Masks.{has, insert, minus, inside, properly}

pub has-zero : (m : ℕ) → has m zero ≡ eqb (m % 2) 1
unfolding has
has-zero m = rw div-one

pub has-suc : (m e : ℕ) → has m (suc e) ≡ has (m / 2) e
unfolding has
has-suc m e = ap (λ (x : ℕ). eqb (x % 2) 1) (ap (λ (k : ℕ). m / 2 ^ k) (omega arith) ∙ sym (shr-shr m 1 e))

digit-min : (x y : ℕ) → x < 2 → y < 2 → eqb (min x y) 1 ≡ eqb x 1 && eqb y 1
digit-min zero zero p q = refl
digit-min zero (suc zero) p q = refl
digit-min zero (suc (suc y)) p q = absurd (omega arith)
digit-min (suc zero) zero p q = refl
digit-min (suc zero) (suc zero) p q = refl
digit-min (suc zero) (suc (suc y)) p q = absurd (omega arith)
digit-min (suc (suc x)) y p q = absurd (omega arith)

digit-max : (x y : ℕ) → x < 2 → y < 2 → eqb (max x y) 1 ≡ eqb x 1 || eqb y 1
digit-max zero zero p q = refl
digit-max zero (suc zero) p q = refl
digit-max zero (suc (suc y)) p q = absurd (omega arith)
digit-max (suc zero) zero p q = refl
digit-max (suc zero) (suc zero) p q = refl
digit-max (suc zero) (suc (suc y)) p q = absurd (omega arith)
digit-max (suc (suc x)) y p q = absurd (omega arith)

and_low : (a b : ℕ) → bit_and a b % 2 ≡ min (a % 2) (b % 2)
and_low a b = rw and_step (digits_mod (bit_and (a / 2) (b / 2)) {m = 2} (omega (arith, mod-lt a {m = 2} (lit< tt))))

or-low : (a b : ℕ) → bit_or a b % 2 ≡ max (a % 2) (b % 2)
or-low a b = rw or_step (digits_mod (bit_or (a / 2) (b / 2)) {m = 2} (omega (arith, mod-lt a {m = 2} (lit< tt), mod-lt b {m = 2} (lit< tt))))

pub has-and : (e a b : ℕ) → has (bit_and a b) e ≡ has a e && has b e
has-and zero a b = rw (has-zero (bit_and a b), has-zero a, has-zero b, and_low a b) (digit-min (a % 2) (b % 2) (mod-lt a (lit< tt)) (mod-lt b (lit< tt)))
has-and (suc e) a b = rw (has-suc (bit_and a b) e, has-suc a e, has-suc b e, and_shr a b 1) (has-and e (a / 2) (b / 2))

pub has-or : (e a b : ℕ) → has (bit_or a b) e ≡ has a e || has b e
has-or zero a b = rw (has-zero (bit_or a b), has-zero a, has-zero b, or-low a b) (digit-max (a % 2) (b % 2) (mod-lt a (lit< tt)) (mod-lt b (lit< tt)))
has-or (suc e) a b = rw (has-suc (bit_or a b) e, has-suc a e, has-suc b e, or_shr a b 1) (has-or e (a / 2) (b / 2))

-- extensionality
digit-ext : (x y : ℕ) → x < 2 → y < 2 → eqb x 1 ≡ eqb y 1 → x ≡ y
digit-ext zero zero p q e = refl
digit-ext zero (suc zero) p q e = absurd (false≢true e)
digit-ext zero (suc (suc y)) p q e = absurd (omega arith)
digit-ext (suc zero) zero p q e = absurd (true≢false e)
digit-ext (suc zero) (suc zero) p q e = refl
digit-ext (suc zero) (suc (suc y)) p q e = absurd (omega arith)
digit-ext (suc (suc x)) y p q e = absurd (omega arith)

pub mask-ext-to : (k a b : ℕ) → a < 2 ^ k → b < 2 ^ k → ((e : ℕ) → e < k → has a e ≡ has b e) → a ≡ b
mask-ext-to zero a b p q h = omega arith
mask-ext-to (suc k) a b p q h =
    let low : a % 2 ≡ b % 2 = digit-ext (a % 2) (b % 2) (mod-lt a (lit< tt)) (mod-lt b (lit< tt)) (sym (has-zero a) ∙ h zero (omega arith) ∙ has-zero b) in
    let high : a / 2 ≡ b / 2 = mask-ext-to k (a / 2) (b / 2) (omega arith) (omega arith) (λ e l. sym (has-suc a e) ∙ h (suc e) (omega arith) ∙ has-suc b e) in
    omega (arith, div-add-mod' a 2, div-add-mod' b 2)

pub lt-pow : (n : ℕ) → n < 2 ^ n
lt-pow zero = lit< tt
lt-pow (suc n) = omega (arith, lt-pow n)

lt-pow-add : (n m : ℕ) → n < 2 ^ (n + m)
lt-pow-add n zero = rw (native.Mathlib.Nat.add-zero n) (lt-pow n)
lt-pow-add n (suc m) = rw (native.Mathlib.Nat.add-suc n m) (omega (arith, lt-pow-add n m))

pub mask-ext : (a b : ℕ) → ((e : ℕ) → has a e ≡ has b e) → a ≡ b
mask-ext a b h = mask-ext-to (a + b) a b (lt-pow-add a b) (rw (add_comm a b) (lt-pow-add b a)) (λ e l. h e)

pub inside-all : (a b : ℕ) → inside a b ≡ true → (e : ℕ) → has a e ≡ true → has b e ≡ true
unfolding inside
inside-all a b h e t = and_r (has a e) (has b e) (sym (has-and e a b) ∙ ap (λ (x : ℕ). has x e) (eqb≡ (bit_and a b) a h) ∙ t)

pub all-inside : (a b : ℕ) → ((e : ℕ) → has a e ≡ true → has b e ≡ true) → inside a b ≡ true
unfolding inside
all-inside a b h = ≡eqb (bit_and a b) a (mask-ext (bit_and a b) a (λ e. has-and e a b ∙ and-absorb (has a e) (has b e) (h e)))

pub inside-refl : (a : ℕ) → inside a a ≡ true
inside-refl a = all-inside a a (λ e t. t)

pub inside-trans : (a b c : ℕ) → inside a b ≡ true → inside b c ≡ true → inside a c ≡ true
inside-trans a b c p q = all-inside a c (λ e t. inside-all b c q e (inside-all a b p e t))

pub inside-antisym : (a b : ℕ) → inside a b ≡ true → inside b a ≡ true → a ≡ b
inside-antisym a b p q = mask-ext a b (λ e. bool-ext (has a e) (has b e) (inside-all a b p e) (inside-all b a q e))

-- what two sets have in common
pub and-within : (a b : ℕ) → inside (bit_and a b) a ≡ true
and-within a b = all-inside (bit_and a b) a (λ e t. and_l (has a e) (has b e) (sym (has-and e a b) ∙ t))

pub and-inside : (a b : ℕ) → inside (bit_and a b) b ≡ true
and-inside a b = all-inside (bit_and a b) b (λ e t. and_r (has a e) (has b e) (sym (has-and e a b) ∙ t))

pub inside-and : (x a b : ℕ) → inside x a ≡ true → inside x b ≡ true → inside x (bit_and a b) ≡ true
inside-and x a b i k = all-inside x (bit_and a b) (λ e t. has-and e a b ∙ rw (inside-all x a i e t, inside-all x b k e t) refl)

-- inside lowers the number
pub inside-le : (a b : ℕ) → inside a b ≡ true → a ≤ b
unfolding inside
inside-le a b h = subst (λ (x : ℕ). x ≤ b) (eqb≡ (bit_and a b) a h) (lib.Bits.and_le_r a b)

pub properly-lt : (a b : ℕ) → properly a b ≡ true → a < b
unfolding properly
properly-lt a b h =
    lib.Arith.lt_of_le-ne (inside-le a b (and_l (inside a b) (not (eqb a b)) h))
    (λ e. true≢false (sym (≡eqb a b e) ∙ not-true (eqb a b) (and_r (inside a b) (not (eqb a b)) h)))

pub properly-inside : (a b : ℕ) → properly a b ≡ true → inside a b ≡ true
unfolding properly
properly-inside a b h = and_l (inside a b) (not (eqb a b)) h

pub outside-properly : (a b : ℕ) → inside a b ≡ false → properly a b ≡ false
unfolding properly
outside-properly a b f = rw f refl

pub properly-itself : (a : ℕ) → properly a a ≡ false
unfolding properly
properly-itself a = rw (inside-refl a, ≡eqb a a refl) refl

pub has-none : (e : ℕ) → has zero e ≡ false
unfolding has
has-none zero = refl
has-none (suc e) = has-suc zero e ∙ has-none e

pub has-pow : (t e : ℕ) → has (2 ^ t) e ≡ eqb t e
unfolding has
has-pow zero zero = refl
has-pow zero (suc e) = has-suc 1 e ∙ has-none e ∙ sym (lib.Dec.eqb-zero-suc e)
has-pow (suc t) zero = has-zero (2 ^ suc t) ∙ rw (pow-suc 2 t, native.Mathlib.Nat.mul-mod_left (2 ^ t) 2) (sym (lib.Dec.eqb-suc-zero t))
has-pow (suc t) (suc e) = has-suc (2 ^ suc t) e ∙ rw (pow-suc 2 t, native.Mathlib.Nat.mul-div_cancel (2 ^ t) {n = 2} (lit< tt)) (has-pow t e ∙ sym (lib.Dec.eqb-suc-suc t e))

-- m with bit e
pub has-insert : (m e k : ℕ) → has (insert m e) k ≡ has m k || eqb e k
unfolding insert
has-insert m e k = has-or k m (2 ^ e) ∙ ap (λ (b : Bool). has m k || b) (has-pow e k)

pub insert-lt : (m e n : ℕ) → m < 2 ^ n → e < n → insert m e < 2 ^ n
unfolding insert
insert-lt m e n l h = or_lt n m (2 ^ e) l (pow-lt h)

-- what a has and b lacks
digit-xor : (x y : ℕ) → x < 2 → y < 2 → eqb (bit_xor x y) 1 ≡ differs (eqb x 1) (eqb y 1)
digit-xor zero y p q = refl
digit-xor (suc zero) zero p q = refl
digit-xor (suc zero) (suc zero) p q = refl
digit-xor (suc zero) (suc (suc y)) p q = absurd (omega arith)
digit-xor (suc (suc x)) y p q = absurd (omega arith)

has-xor : (a b k : ℕ) → has (bit_xor a b) k ≡ differs (has a k) (has b k)
unfolding has
has-xor a b k =
    ap (λ (x : ℕ). eqb (x % 2) 1) (xor_shr a b k) ∙ ap (λ (x : ℕ). eqb x 1) (xor_mod (a / 2 ^ k) (b / 2 ^ k) 1)
    ∙ digit-xor (a / 2 ^ k % 2) (b / 2 ^ k % 2) (mod-lt (a / 2 ^ k) (lit< tt)) (mod-lt (b / 2 ^ k) (lit< tt))

pub has-minus : (a b k : ℕ) → has (minus a b) k ≡ has a k && not (has b k)
unfolding minus
has-minus a b k = has-xor a (bit_and a b) k ∙ ap (differs (has a k)) (has-and k a b) ∙ go (has a k) (has b k)
  where
    go : (x y : Bool) → differs x (x && y) ≡ x && not y
    go true y = refl
    go false y = refl

digit-le : (x y : ℕ) → x < 2 → y < 2 → (eqb x 1 ≡ true → eqb y 1 ≡ true) → x ≤ y
digit-le zero y p q h = omega arith
digit-le (suc zero) zero p q h = absurd (false≢true (h refl))
digit-le (suc zero) (suc y) p q h = omega arith
digit-le (suc (suc x)) y p q h = absurd (omega arith)

-- a set inside another is equal to it or has fewer members
pub ones-inside-to : (k a b : ℕ) → a < 2 ^ k → b < 2 ^ k → ((e : ℕ) → has a e ≡ true → has b e ≡ true) → (a ≡ b) ⊎ (ones a < ones b)
ones-inside-to zero a b p q h = inl (omega arith)
ones-inside-to (suc k) a b p q h =
    go (ones-inside-to k (a / 2) (b / 2) (omega arith) (omega arith) (λ e t. sym (has-suc b e) ∙ h (suc e) (has-suc a e ∙ t)))
    (digit-le (a % 2) (b % 2) (mod-lt a (lit< tt)) (mod-lt b (lit< tt)) (λ t. sym (has-zero b) ∙ h zero (has-zero a ∙ t)))
    (dec_lt (a % 2) (b % 2))
  where
    go : (a / 2 ≡ b / 2) ⊎ (ones (a / 2) < ones (b / 2)) → a % 2 ≤ b % 2 → Dec (a % 2 < b % 2) → (a ≡ b) ⊎ (ones a < ones b)
    go (inl e) l (yes s) = inr (omega (arith, ones_step a, ones_step b, ap ones e))
    go (inl e) l (no s) = inl (omega (arith, div-add-mod' a 2, div-add-mod' b 2))
    go (inr g) l d = inr (omega (arith, ones_step a, ones_step b))

pub ones-inside : (a b : ℕ) → ((e : ℕ) → has a e ≡ true → has b e ≡ true) → (a ≡ b) ⊎ (ones a < ones b)
ones-inside a b h = ones-inside-to (a + b) a b (lt-pow-add a b) (rw (add_comm a b) (lt-pow-add b a)) h

-- ---- bits and bounds
-- the low k bits
pub has-mod : (k e x : ℕ) → e < k → has (x % 2 ^ k) e ≡ has x e
has-mod zero e x l = absurd (omega arith)
has-mod (suc k) zero x l = has-zero (x % 2 ^ suc k) ∙ ap (λ (y : ℕ). eqb y 1) (ap (λ (y : ℕ). x % 2 ^ y % 2) (sym (add-one k)) ∙ mod-mod-pow x k 1) ∙ sym (has-zero x)
has-mod (suc k) (suc e) x l = has-suc (x % 2 ^ suc k) e ∙ ap (λ (y : ℕ). has y e) (ap (λ (y : ℕ). x % 2 ^ y / 2) (sym (add-one k)) ∙ field x k 1) ∙ has-mod k e (x / 2) (omega arith) ∙ sym (has-suc x e)

pub has-high : (k e x : ℕ) → x < 2 ^ k → k ≤ e → has x e ≡ false
has-high zero e x l h = ap (λ (y : ℕ). has y e) (omega arith) ∙ has-none e
has-high (suc k) zero x l h = absurd (omega arith)
has-high (suc k) (suc e) x l h = has-suc x e ∙ has-high k e (x / 2) (omega arith) (omega arith)

-- a bound from the bits
pub lt-of-bits : (k x : ℕ) → ((e : ℕ) → has x e ≡ true → e < k) → x < 2 ^ k
lt-of-bits k x h = subst (λ (y : ℕ). y < 2 ^ k) (mask-ext (x % 2 ^ k) x (λ e. go e (dec_lt e k))) (mod-lt x (pow_pos k))
  where
    off : (e : ℕ) → ¬ (e < k) → (has x e ≡ true) ⊎ (has x e ≡ false) → has x e ≡ false
    off e n (inl t) = absurd (n (h e t))
    off e n (inr f) = f

    go : (e : ℕ) → Dec (e < k) → has (x % 2 ^ k) e ≡ has x e
    go e (yes l) = has-mod k e x l
    go e (no n) = has-high k e (x % 2 ^ k) (mod-lt x (pow_pos k)) (omega arith) ∙ sym (off e n (test (has x e)))

-- one more bit on top
pub insert-top : (k m : ℕ) → m < 2 ^ k → insert m k ≡ m + 2 ^ k
unfolding insert
insert-top k m l = ap (bit_or m) (omega arith) ∙ lib.Bits.or_shifted_r 1 k m l ∙ omega arith

pub has-top : (k e y : ℕ) → y < 2 ^ k → has (y + 2 ^ k) e ≡ has y e || eqb k e
has-top k e y l = ap (λ (z : ℕ). has z e) (sym (insert-top k y l)) ∙ has-insert y k e

-- ---- the set of the numbers below n
pub has-full : (n e : ℕ) → e < n → has (2 ^ n - 1) e ≡ true
has-full zero e h = absurd (omega arith)
has-full (suc n) zero h = has-zero (2 ^ suc n - 1) ∙ ≡eqb ((2 ^ suc n - 1) % 2) 1 (omega (arith, pow_pos n))
has-full (suc n) (suc e) h = has-suc (2 ^ suc n - 1) e ∙ ap (λ (x : ℕ). has x e) half ∙ has-full n e (omega arith)
  where
    half : (2 ^ suc n - 1) / 2 ≡ 2 ^ n - 1
    half = omega (arith, pow_pos n)

-- ---- the operations of a word
-- `1 << e` in a word of n bits
pub shl_one : (n e : ℕ) → e < n → 1 * 2 ^ e % 2 ^ n ≡ 2 ^ e
shl_one n e h = shl_exact 1 e n (lit< tt) (omega arith) ∙ one-mul (2 ^ e)

-- a bit set, always or where a flag holds
pub with-bit : {x m : ℕ} (e : ℕ) → x ≡ m → e < 64 → bit_or x (1 * 2 ^ e % 2 ^ 64) ≡ insert m e
unfolding insert
with-bit {x} {m} e k h = ap (bit_or x) (shl_one 64 e h) ∙ ap (λ (y : ℕ). bit_or y (2 ^ e)) k

pub with-bit-if : {x m : ℕ} (e : ℕ) (b : Bool) → x ≡ m → e < 64 → bit_or x (bool_byte b * 2 ^ e % 2 ^ 64) ≡ cond b (insert m e) m
with-bit-if e true k h = with-bit e k h
with-bit-if {x} {m} e false k h = ap (λ (y : ℕ). bit_or x (y % 2 ^ 64)) (zero-mul (2 ^ e)) ∙ or_zero_r x ∙ k

pub insert-if-lt : (m e n : ℕ) (b : Bool) → m < 2 ^ n → e < n → cond b (insert m e) m < 2 ^ n
insert-if-lt m e n true h l = insert-lt m e n h l
insert-if-lt m e n false h l = h
