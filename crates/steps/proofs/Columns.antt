-- One bit of each row of a word: the bit of a state in its own row, or of one state in every row. Folding a word brings them to the places of the states. Assumes nothing.
use Prim.Native.Nat.{ℕ, zero, suc, ◌+◌, ◌*◌, ◌/◌, ◌%◌, ◌^◌, ◌<◌}
use native.Mathlib.Omega.{arith}
use native.Mathlib.Nat.{add-zero}
use native.Mathlib.Decide.{dec_lt}
use mathlib.Core.Path.{◌≡◌, refl, sym, ap, ap₂, ◌∙◌}
use mathlib.Core.Logic.{◌≢◌}
use mathlib.Core.Bool.{Bool, true, false, not, ◌&&◌, ◌||◌, or-false}
use lib.Dec.{eqb}
use lib.Bits.{bit_and, bit_or, and_block}
use lib.Pow.{pow_pos, shr-shr, shl-shr}
use Rattle.lists.specs.Lists.{all, below}
use Rattle.lists.specs.Bools.{differs}
use Rattle.lists.proofs.Bools.{agrees-same, eqb≡, ≡eqb, neqb}
use Rattle.lists.proofs.Lists.{all-each, mem_below}
use Rattle.masks.specs.Masks.{has}
use Rattle.masks.proofs.Bits.{has-and, has-or, has-mod}
use Rattle.steps.specs.Steps.{word_row, row_at, word_bit, Placed}
use Rattle.steps.proofs.WordRows.{row-a, row-b, row-c, row-d}
use Rattle.steps.proofs.Sets.{row-bit}

-- ---- bits moved
has-down : (x k e : ℕ) → has (x / 2 ^ k) e ≡ has x (k + e)
unfolding has
has-down x k e = ap (λ (y : ℕ). eqb (y % 2) 1) (shr-shr x k e)

has-up : (x k e : ℕ) → has (x * 2 ^ k) (k + e) ≡ has x e
has-up x k e = sym (has-down (x * 2 ^ k) k e) ∙ ap (λ (y : ℕ). has y e) (shl-shr x k)

and-up : (a b k : ℕ) → bit_and a b * 2 ^ k ≡ bit_and (a * 2 ^ k) (b * 2 ^ k)
and-up a b k = sym (simp add-zero at (and_block k a b 0 0 (pow_pos k) (pow_pos k)))

-- ---- the masks
-- moved up by 4 j, m marks the states of word j
unfoldable marks : ℕ → ℕ → ℕ → ℕ → ℕ → Bool
marks by m j i e = not (differs (eqb (e % 4) i && eqb (e / 4) j) (has (m * 2 ^ (4 * j) % 2 ^ 64) (by * i + e)))

unfoldable marked : ℕ → ℕ → Bool
marked by m = all (λ (j : ℕ). all (λ (i : ℕ). all (marks by m j i) (below 16)) (below 4)) (below 4)

mask-bit : (by m : ℕ) → marked by m ≡ true → (j i e : ℕ) → j < 4 → i < 4 → e < 16 → has (m * 2 ^ (4 * j) % 2 ^ 64) (by * i + e) ≡ (eqb (e % 4) i && eqb (e / 4) j)
unfolding marks marked
mask-bit by m ok j i e lj li le =
    agrees-same (eqb (e % 4) i && eqb (e / 4) j) (has (m * 2 ^ (4 * j) % 2 ^ 64) (by * i + e))
    (all-each (marks by m j i) (below 16)
    (all-each (λ (i : ℕ). all (marks by m j i) (below 16)) (below 4)
    (all-each (λ (j : ℕ). all (λ (i : ℕ). all (marks by m j i) (below 16)) (below 4)) (below 4) ok j (mem_below 4 j lj)) i (mem_below 4 i li)) e (mem_below 16 e le))

own-marked : marked 16 0x0008000400020001 ≡ true
unfolding marked marks has
own-marked = refl

column-marked : marked 15 0x0001000100010001 ≡ true
unfolding marked marks has
column-marked = refl

-- ---- one word
and-swap : (p q r s : Bool) → (q ≡ true → r ≡ true → p ≡ s) → p && (q && r) ≡ q && (r && s)
and-swap true true true s h = h refl refl
and-swap false true true s h = h refl refl
and-swap true true false s h = refl
and-swap false true false s h = refl
and-swap true false r s h = refl
and-swap false false r s h = refl

pub own-placed : (w j : ℕ) → j < 4 → Placed 16 (word_bit (λ (e : ℕ). e) w j) (bit_and w (0x0008000400020001 * 2 ^ (4 * j) % 2 ^ 64))
unfolding word_bit
own-placed w j lj = record {
  bit_is = λ i e li le.
      let m = 0x0008000400020001 * 2 ^ (4 * j) % 2 ^ 64 in
      has-and (16 * i + e) w m ∙ ap (λ (b : Bool). has w (16 * i + e) && b) (mask-bit 16 0x0008000400020001 own-marked j i e lj li le)
      ∙ and-swap (has w (16 * i + e)) (eqb (e % 4) i) (eqb (e / 4) j) (has (word_row w (e % 4)) e)
      (λ q r. ap (λ (k : ℕ). has w (16 * k + e)) (sym (eqb≡ (e % 4) i q)) ∙ sym (row-bit w (e % 4) e le));
}

pub column-placed : (w v j : ℕ) → v < 16 → j < 4 → Placed 15 (word_bit (λ (e : ℕ). v) w j) (bit_and (w / 2 ^ v) 0x0001000100010001 * 2 ^ (4 * j) % 2 ^ 64)
unfolding word_bit
column-placed w v j lv lj = record { bit_is = bit }
  where
    y : ℕ
    y = w / 2 ^ v * 2 ^ (4 * j)

    m : ℕ
    m = 0x0001000100010001 * 2 ^ (4 * j)

    -- a bit that is kept
    kept : (i e : ℕ) → e % 4 ≡ i → e / 4 ≡ j → has y (15 * i + e) ≡ has (word_row w (e % 4)) v
    kept i e q r =
        ap (has y) (omega arith) ∙ has-up (w / 2 ^ v) (4 * j) (16 * i) ∙ has-down w v (16 * i) ∙ ap (has w) (omega arith) ∙ sym (row-bit w (e % 4) v lv)

    bit : (i e : ℕ) → i < 4 → e < 16 → has (bit_and (w / 2 ^ v) 0x0001000100010001 * 2 ^ (4 * j) % 2 ^ 64) (15 * i + e) ≡ (eqb (e % 4) i && (eqb (e / 4) j && has (word_row w (e % 4)) v))
    bit i e li le =
        let l : 15 * i + e < 64 = omega arith in
        has-mod 64 (15 * i + e) (bit_and (w / 2 ^ v) 0x0001000100010001 * 2 ^ (4 * j)) l
        ∙ ap (λ (z : ℕ). has z (15 * i + e)) (and-up (w / 2 ^ v) 0x0001000100010001 (4 * j))
        ∙ has-and (15 * i + e) y m
        ∙ ap (λ (b : Bool). has y (15 * i + e) && b) (sym (has-mod 64 (15 * i + e) m l) ∙ mask-bit 15 0x0001000100010001 column-marked j i e lj li le)
        ∙ and-swap (has y (15 * i + e)) (eqb (e % 4) i) (eqb (e / 4) j) (has (word_row w (e % 4)) v) (λ q r. kept i e (eqb≡ (e % 4) i q) (eqb≡ (e / 4) j r))

-- ---- two words as one
and-or : (a b c : Bool) → (a && b) || (a && c) ≡ a && (b || c)
and-or true b c = refl
and-or false b c = refl

or-placed : (by : ℕ) (t u : ℕ → Bool) (x y : ℕ) → Placed by t x → Placed by u y → Placed by (λ (e : ℕ). t e || u e) (bit_or x y)
or-placed by t u x y p q = record {
  bit_is = λ i e li le. has-or (by * i + e) x y ∙ ap₂ ◌||◌ (p.bit_is i e li le) (q.bit_is i e li le) ∙ and-or (eqb (e % 4) i) (t e) (u e);
}

-- ---- folded
-- one of four
chosen : (m : ℕ) (b : Bool) → m < 4 → ((eqb m 0 && b) || (eqb m 2 && b)) || ((eqb m 1 && b) || (eqb m 3 && b)) ≡ b
chosen zero true l = refl
chosen zero false l = refl
chosen (suc zero) b l = or-false b
chosen (suc (suc zero)) true l = refl
chosen (suc (suc zero)) false l = refl
chosen (suc (suc (suc zero))) b l = refl
chosen (suc (suc (suc (suc m)))) b l = absurd (omega arith)

pub folded-is : (x by : ℕ) (t : ℕ → Bool) → Placed by t x → (e : ℕ) → e < 16 → has (bit_or (bit_or x (x / 2 ^ (2 * by))) (bit_or x (x / 2 ^ (2 * by)) / 2 ^ by) % 65536) e ≡ t e
folded-is x by t p e l =
    has-mod 16 e (bit_or y (y / 2 ^ by)) l ∙ has-or e y (y / 2 ^ by)
    ∙ ap₂ ◌||◌ (two e ∙ ap₂ ◌||◌ (at 0 e (omega arith) (omega arith)) (at 2 (2 * by + e) (omega arith) (omega arith)))
    (has-down y by e ∙ two (by + e) ∙ ap₂ ◌||◌ (at 1 (by + e) (omega arith) (omega arith)) (at 3 (2 * by + (by + e)) (omega arith) (omega arith)))
    ∙ chosen (e % 4) (t e) (omega arith)
  where
    y : ℕ
    y = bit_or x (x / 2 ^ (2 * by))

    two : (k : ℕ) → has y k ≡ has x k || has x (2 * by + k)
    two k = has-or k x (x / 2 ^ (2 * by)) ∙ ap (λ (b : Bool). has x k || b) (has-down x (2 * by) k)

    at : (i k : ℕ) → i < 4 → k ≡ by * i + e → has x k ≡ (eqb (e % 4) i && t e)
    at i k li q = ap (has x) q ∙ p.bit_is i e li l

-- ---- the rows of one word, of two and of four
module _ (f : ℕ → ℕ) (a b c d e : ℕ) where
  off : (w j : ℕ) → e / 4 ≢ j → word_bit f w j e ≡ false
  unfolding word_bit
  off w j n = ap (λ (x : Bool). x && has (word_row w (e % 4)) (f e)) (neqb (e / 4) j n)

  here : (w j : ℕ) → e / 4 ≡ j → row_at a b c d e ≡ word_row w (e % 4) → word_bit f w j e ≡ has (row_at a b c d e) (f e)
  unfolding word_bit
  here w j q r = ap₂ (λ (x : Bool) (y : ℕ). x && has y (f e)) (≡eqb (e / 4) j q) (sym r)

  left : (x y z : Bool) → x ≡ z → y ≡ false → x || y ≡ z
  left x y z p q = ap₂ ◌||◌ p q ∙ or-false z

  bit-1 : e < 4 → word_bit f a 0 e ≡ has (row_at a b c d e) (f e)
  bit-1 l = here a 0 (omega arith) (row-a a b c d e l)

  bit-2 : e < 8 → word_bit f a 0 e || word_bit f b 1 e ≡ has (row_at a b c d e) (f e)
  bit-2 l = go (dec_lt e 4)
    where
      go : Dec (e < 4) → word_bit f a 0 e || word_bit f b 1 e ≡ has (row_at a b c d e) (f e)
      go (yes h) = left (word_bit f a 0 e) (word_bit f b 1 e) (has (row_at a b c d e) (f e)) (bit-1 h) (off b 1 (λ q. omega arith))
      go (no h) = ap₂ ◌||◌ (off a 0 (λ q. omega arith)) (here b 1 (omega arith) (row-b a b c d e (omega arith) l))

  bit-3 : e < 12 → (word_bit f a 0 e || word_bit f b 1 e) || word_bit f c 2 e ≡ has (row_at a b c d e) (f e)
  bit-3 l = go (dec_lt e 8)
    where
      go : Dec (e < 8) → (word_bit f a 0 e || word_bit f b 1 e) || word_bit f c 2 e ≡ has (row_at a b c d e) (f e)
      go (yes h) = left (word_bit f a 0 e || word_bit f b 1 e) (word_bit f c 2 e) (has (row_at a b c d e) (f e)) (bit-2 h) (off c 2 (λ q. omega arith))
      go (no h) = ap₂ ◌||◌ (ap₂ ◌||◌ (off a 0 (λ q. omega arith)) (off b 1 (λ q. omega arith))) (here c 2 (omega arith) (row-c a b c d e (omega arith) l))

  bit-4 : e < 16 → ((word_bit f a 0 e || word_bit f b 1 e) || word_bit f c 2 e) || word_bit f d 3 e ≡ has (row_at a b c d e) (f e)
  bit-4 l = go (dec_lt e 12)
    where
      go : Dec (e < 12) → ((word_bit f a 0 e || word_bit f b 1 e) || word_bit f c 2 e) || word_bit f d 3 e ≡ has (row_at a b c d e) (f e)
      go (yes h) = left ((word_bit f a 0 e || word_bit f b 1 e) || word_bit f c 2 e) (word_bit f d 3 e) (has (row_at a b c d e) (f e)) (bit-3 h) (off d 3 (λ q. omega arith))
      go (no h) =
          ap₂ ◌||◌ (ap₂ ◌||◌ (ap₂ ◌||◌ (off a 0 (λ q. omega arith)) (off b 1 (λ q. omega arith))) (off c 2 (λ q. omega arith)))
          (here d 3 (omega arith) (row-d a b c d e (omega arith)))

-- ---- the words folded
-- r has what is placed in x
abbrev Folds : ℕ → ℕ → ℕ → Type 0
Folds by x r = (t : ℕ → Bool) → Placed by t x → (e : ℕ) → e < 16 → has r e ≡ t e

module _ (by : ℕ) (f : ℕ → ℕ) (a b c d : ℕ) where
  pub fold-1 : (x r : ℕ) → Placed by (word_bit f a 0) x → Folds by x r → (e : ℕ) → e < 4 → has r e ≡ has (row_at a b c d e) (f e)
  fold-1 x r p h e l = h (word_bit f a 0) p e (omega arith) ∙ bit-1 f a b c d e l

  abbrev two : ℕ → Bool
  two e = word_bit f a 0 e || word_bit f b 1 e

  pub fold-2 : (x y r : ℕ) → Placed by (word_bit f a 0) x → Placed by (word_bit f b 1) y → Folds by (bit_or x y) r → (e : ℕ) → e < 8 → has r e ≡ has (row_at a b c d e) (f e)
  fold-2 x y r p q h e l = h two (or-placed by (word_bit f a 0) (word_bit f b 1) x y p q) e (omega arith) ∙ bit-2 f a b c d e l

  abbrev three : ℕ → Bool
  three e = two e || word_bit f c 2 e

  pub fold-4 : (x y z u r : ℕ) → Placed by (word_bit f a 0) x → Placed by (word_bit f b 1) y → Placed by (word_bit f c 2) z → Placed by (word_bit f d 3) u
      → Folds by (bit_or (bit_or (bit_or x y) z) u) r → (e : ℕ) → e < 16 → has r e ≡ has (row_at a b c d e) (f e)
  fold-4 x y z u r p q s t h e l =
      h (λ (e : ℕ). three e || word_bit f d 3 e)
      (or-placed by three (word_bit f d 3) (bit_or (bit_or x y) z) u (or-placed by two (word_bit f c 2) (bit_or x y) z (or-placed by (word_bit f a 0) (word_bit f b 1) x y p q) s) t) e l
      ∙ bit-4 f a b c d e l
