-- Rows in words: the product of one bit in each row with a row has that row in each place where the bit is set, so a word is joined at a state row by row. Then four words, and rows
-- joined at one state after the other. Assumes nothing.
use Prim.Native.Nat.{ℕ, zero, suc, ◌+◌, ◌*◌, ◌/◌, ◌%◌, ◌^◌, ◌≤◌, ◌<◌}
use native.Mathlib.Omega.{arith}
use native.Mathlib.Nat.{mul-zero, mul_comm, add-mul, mul_assoc, div-one, mod-lt}
use mathlib.Core.Path.{◌≡◌, refl, sym, ap, ap₂, ◌∙◌}
use mathlib.Core.Bool.{Bool, true, false, cond}
use lib.Arith.{digits_lt}
use lib.Dec.{ltb}
use lib.Bits.{bit_and, bit_or, and_shr, and_mod, and_mask, and_zero_r, or_shr, or_mod, or_zero_r}
use lib.Pow.{split, high, low, shr-shr, mod-mod-pow}
use borrow.Author.Tests.{lt-ltb, le-ltb}
use Rattle.masks.specs.Masks.{has}
use Rattle.masks.proofs.Bits.{has-mod}
use Rattle.policy.proofs.ByColour.{times-le, times-chosen}
use Rattle.graph.specs.Through.{join_row}
use Rattle.steps.specs.Steps.{word_row, row_at, turned}

-- ---- one bit in each row
-- n rows, each with its first bit alone
unfoldable each : ℕ → ℕ
each zero = 0
each (suc n) = each n * 2 ^ 16 + 1

-- the first bits of n rows of y
unfoldable firsts : ℕ → ℕ → ℕ
firsts y zero = 0
firsts y (suc n) = firsts (y / 2 ^ 16) n * 2 ^ 16 + y % 2

firsts-are : (n y : ℕ) → bit_and y (each n) ≡ firsts y n
unfolding each firsts
firsts-are zero y = and_zero_r y
firsts-are (suc n) y =
    sym (split (bit_and y (each n * 2 ^ 16 + 1)) 16)
    ∙ ap₂ (λ (h l : ℕ). h * 2 ^ 16 + l)
    (and_shr y (each n * 2 ^ 16 + 1) 16 ∙ ap (bit_and (y / 2 ^ 16)) (high (each n) 16 (omega arith)) ∙ firsts-are n (y / 2 ^ 16))
    (and_mod y (each n * 2 ^ 16 + 1) 16 ∙ ap (bit_and (y % 2 ^ 16)) (low (each n) 16 (omega arith)) ∙ and_mask (y % 2 ^ 16) 1 ∙ mod-mod-pow y 15 1)

-- ---- times a row
-- q in each of n rows of y with its first bit
unfoldable copies : ℕ → ℕ → ℕ → ℕ
copies y q zero = 0
copies y q (suc n) = copies (y / 2 ^ 16) q n * 2 ^ 16 + q * (y % 2)

times-firsts : (n y q : ℕ) → firsts y n * q ≡ copies y q n
unfolding firsts copies
times-firsts zero y q = mul_comm 0 q ∙ mul-zero q
times-firsts (suc n) y q =
    let f = firsts (y / 2 ^ 16) n in
    add-mul (f * 2 ^ 16) (y % 2) q
    ∙ ap₂ (λ (a b : ℕ). a + b)
    (mul_assoc f (2 ^ 16) q ∙ ap (λ (z : ℕ). f * z) (mul_comm (2 ^ 16) q) ∙ sym (mul_assoc f q (2 ^ 16)) ∙ ap (λ (z : ℕ). z * 2 ^ 16) (times-firsts n (y / 2 ^ 16) q))
    (mul_comm (y % 2) q)

few : (y q : ℕ) → q < 2 ^ 16 → q * (y % 2) < 2 ^ 16
few y q l = omega (arith, times-le q y)

-- the numbers of n rows
unfoldable room : ℕ → ℕ
room zero = 1
room (suc n) = room n * 2 ^ 16

copies-lt : (n y q : ℕ) → q < 2 ^ 16 → copies y q n < room n
unfolding copies room
copies-lt zero y q l = omega arith
copies-lt (suc n) y q l = digits_lt (copies-lt n (y / 2 ^ 16) q l) (few y q l)

-- ---- row by row
row_first : (w : ℕ) → word_row w 0 ≡ w % 2 ^ 16
unfolding word_row
row_first w = ap (λ (z : ℕ). z % 2 ^ 16) (div-one w)

further : (w i : ℕ) → w / 2 ^ 16 / 2 ^ (16 * i) ≡ w / 2 ^ (16 * suc i)
further w i = shr-shr w 16 (16 * i) ∙ ap (λ (k : ℕ). w / 2 ^ k) (omega arith)

row_next : (w i : ℕ) → word_row w (suc i) ≡ word_row (w / 2 ^ 16) i
unfolding word_row
row_next w i = ap (λ (z : ℕ). z % 2 ^ 16) (sym (further w i))

copied : (n i w y q : ℕ) → q < 2 ^ 16 → i < n → word_row (bit_or w (copies y q n)) i ≡ bit_or (word_row w i) (q * (y / 2 ^ (16 * i) % 2))
unfolding copies
copied zero i w y q l h = absurd (omega arith)
copied (suc n) zero w y q l h =
    row_first (bit_or w (copies y q (suc n))) ∙ or_mod w (copies y q (suc n)) 16
    ∙ ap₂ bit_or (sym (row_first w)) (low (copies (y / 2 ^ 16) q n) 16 (few y q l) ∙ ap (λ (z : ℕ). q * (z % 2)) (sym (div-one y)))
copied (suc n) (suc i) w y q l h =
    row_next (bit_or w (copies y q (suc n))) i
    ∙ ap (λ (z : ℕ). word_row z i) (or_shr w (copies y q (suc n)) 16 ∙ ap (bit_or (w / 2 ^ 16)) (high (copies (y / 2 ^ 16) q n) 16 (few y q l)))
    ∙ copied n i (w / 2 ^ 16) (y / 2 ^ 16) q l (omega arith)
    ∙ ap₂ bit_or (sym (row_next w i)) (ap (λ (z : ℕ). q * (z % 2)) (further y i))

-- ---- a word joined at k
joined_as : (row k q : ℕ) → bit_or row (cond (has row k) q 0) ≡ join_row row k q
unfolding join_row
joined_as row k q = go (has row k)
  where
    go : (b : Bool) → bit_or row (cond b q 0) ≡ cond b (bit_or row q) row
    go true = refl
    go false = or_zero_r row

module _ (w k q : ℕ) (lk : k < 16) (lq : q < 2 ^ 16) where
  product : bit_and (w / 2 ^ k) (each 4) * q ≡ copies (w / 2 ^ k) q 4
  product = ap (λ (z : ℕ). z * q) (firsts-are 4 (w / 2 ^ k)) ∙ times-firsts 4 (w / 2 ^ k) q

  pub product-fits : bit_and (w / 2 ^ k) 281479271743489 * q < 2 ^ 64
  unfolding each room
  product-fits = omega (arith, product, copies-lt 4 (w / 2 ^ k) q lq)

  bit_is : (i : ℕ) → q * (w / 2 ^ k / 2 ^ (16 * i) % 2) ≡ cond (has (word_row w i) k) q 0
  unfolding word_row
  bit_is i =
      ap (λ (z : ℕ). q * (z % 2)) (shr-shr w k (16 * i) ∙ ap (λ (a : ℕ). w / 2 ^ a) (omega arith) ∙ sym (shr-shr w (16 * i) k))
      ∙ times-chosen q (w / 2 ^ (16 * i)) k ∙ ap (λ (b : Bool). cond b q 0) (sym (has-mod 16 k (w / 2 ^ (16 * i)) lk))

  pub word-joined : (i : ℕ) → i < 4 → word_row (bit_or w (bit_and (w / 2 ^ k) 281479271743489 * q)) i ≡ join_row (word_row w i) k q
  unfolding each
  word-joined i l =
      ap (λ (z : ℕ). word_row (bit_or w z) i) product ∙ copied 4 i w (w / 2 ^ k) q lq l ∙ ap (bit_or (word_row w i)) (bit_is i) ∙ joined_as (word_row w i) k q

-- ---- the rows of four words
pub word-few : (w i : ℕ) → word_row w i < 65536
unfolding word_row
word-few w i = mod-lt (w / 2 ^ (16 * i)) (omega arith)

pub row-few : (a b c d v : ℕ) → row_at a b c d v < 65536
unfolding row_at
row-few a b c d v = word-few (cond (ltb v 4) a (cond (ltb v 8) b (cond (ltb v 12) c d))) (v % 4)

module _ (a b c d v : ℕ) where
  pub row-a : v < 4 → row_at a b c d v ≡ word_row a (v % 4)
  unfolding row_at
  row-a h = rw (lt-ltb v 4 h) refl

  pub row-b : 4 ≤ v → v < 8 → row_at a b c d v ≡ word_row b (v % 4)
  unfolding row_at
  row-b l h = rw (le-ltb v 4 l, lt-ltb v 8 h) refl

  pub row-c : 8 ≤ v → v < 12 → row_at a b c d v ≡ word_row c (v % 4)
  unfolding row_at
  row-c l h = rw (le-ltb v 4 (omega arith), le-ltb v 8 l, lt-ltb v 12 h) refl

  pub row-d : 12 ≤ v → row_at a b c d v ≡ word_row d (v % 4)
  unfolding row_at
  row-d l = rw (le-ltb v 4 (omega arith), le-ltb v 8 (omega arith), le-ltb v 12 l) refl

-- each word joined
abbrev Joined : ℕ → ℕ → ℕ → ℕ → Type 0
Joined w r k q = (i : ℕ) → i < 4 → word_row r i ≡ join_row (word_row w i) k q

pub rows-joined : (a b c d a' b' c' d' k q : ℕ) → Joined a a' k q → Joined b b' k q → Joined c c' k q → Joined d d' k q → (v : ℕ) → row_at a' b' c' d' v ≡ join_row (row_at a b c d v) k q
unfolding row_at
rows-joined a b c d a' b' c' d' k q ja jb jc jd v = go (ltb v 4) (ltb v 8) (ltb v 12)
  where
    l : v % 4 < 4
    l = mod-lt v (omega arith)

    go : (x y z : Bool) → word_row (cond x a' (cond y b' (cond z c' d'))) (v % 4) ≡ join_row (word_row (cond x a (cond y b (cond z c d))) (v % 4)) k q
    go true y z = ja (v % 4) l
    go false true z = jb (v % 4) l
    go false false true = jc (v % 4) l
    go false false false = jd (v % 4) l

-- ---- joined at one state after the other
pub turned_none : (f : ℕ → ℕ) (v : ℕ) → f v ≡ turned f 0 v
unfolding turned
turned_none f v = refl

pub turned-next : (f g h : ℕ → ℕ) (k : ℕ) → k < 16 → ((v : ℕ) → v < 16 → g v ≡ turned f k v) → ((v : ℕ) → v < 16 → h v ≡ join_row (g v) k (g k)) → (v : ℕ) → v < 16 → h v ≡ turned f (suc k) v
unfolding turned
turned-next f g h k lk before step v l = step v l ∙ ap₂ (λ (x y : ℕ). join_row x k y) (before v l) (before k lk)
