-- Bytes of tokens: what a word begins with, and the digits of a number. Assumes nothing.
use Prim.Native.Nat.{ℕ, zero, suc, ◌+◌, ◌*◌, ◌/◌, ◌%◌, ◌^◌, ◌≤◌, ◌<◌}
use native.Mathlib.Omega.{arith}
use native.Mathlib.Nat.{pow-suc}
use mathlib.Core.Path.{◌≡◌, refl, sym, ap, ap₂, ◌∙◌}
use mathlib.Core.Logic.{◌⊎◌, inl, inr}
use mathlib.Core.Bool.{true, false, ◌||◌, false≢true}
use mathlib.Core.List.{List, [], ◌∷◌, ◌++◌}
use lib.Dec.{eqb, ltb, leb}
use Rattle.lists.specs.Lists.{first_or}
use Rattle.lists.proofs.Bools.{test, and_l, and_r, both, or_cases, eqb≡, ≡eqb, lt-true, lt-false, le-true, le-false}
use Rattle.hanoi.specs.Texts.{white, digit, spelling, Token, word, number, quoted, decimal_in, decimal, bytes_of}
use Rattle.hanoi.specs.Words.{Word}
use Rattle.hanoi.specs.Words as w
use Rattle.hanoi.specs.Offers.{tail_of, starts_with}

pub lt_yes : (a b : ℕ) → a < b → ltb a b ≡ true
lt_yes a b h = go (test (ltb a b))
  where
    go : (ltb a b ≡ true) ⊎ (ltb a b ≡ false) → ltb a b ≡ true
    go (inl t) = t
    go (inr f) = absurd (omega (arith, lt-false a b f))

pub lt_no : (a b : ℕ) → b ≤ a → ltb a b ≡ false
lt_no a b h = go (test (ltb a b))
  where
    go : (ltb a b ≡ true) ⊎ (ltb a b ≡ false) → ltb a b ≡ false
    go (inl t) = absurd (omega (arith, lt-true a b t))
    go (inr f) = f

pub le_yes : (a b : ℕ) → a ≤ b → leb a b ≡ true
le_yes a b h = go (test (leb a b))
  where
    go : (leb a b ≡ true) ⊎ (leb a b ≡ false) → leb a b ≡ true
    go (inl t) = t
    go (inr f) = absurd (omega (arith, le-false a b f))

pub le-no : (a b : ℕ) → b < a → leb a b ≡ false
le-no a b h = go (test (leb a b))
  where
    go : (leb a b ≡ true) ⊎ (leb a b ≡ false) → leb a b ≡ false
    go (inl t) = absurd (omega (arith, le-true a b t))
    go (inr f) = f

-- a word begins with no white space, digit or quote
pub word_first : (x : Word) → (white (first_or 0 (spelling x)) ≡ false) × (digit (first_or 0 (spelling x)) ≡ false) × (eqb (first_or 0 (spelling x)) 34 ≡ false) × (spelling x ≡ first_or 0 (spelling x) ∷ tail_of (spelling x))
unfolding white
word_first w.Hoa = (refl, refl, refl, refl)
word_first w.V1 = (refl, refl, refl, refl)
word_first w.States = (refl, refl, refl, refl)
word_first w.Start = (refl, refl, refl, refl)
word_first w.Ap = (refl, refl, refl, refl)
word_first w.Acceptance = (refl, refl, refl, refl)
word_first w.Yes = (refl, refl, refl, refl)
word_first w.No = (refl, refl, refl, refl)
word_first w.Inf = (refl, refl, refl, refl)
word_first w.Fin = (refl, refl, refl, refl)
word_first w.Opens = (refl, refl, refl, refl)
word_first w.Closes = (refl, refl, refl, refl)
word_first w.And = (refl, refl, refl, refl)
word_first w.Or = (refl, refl, refl, refl)
word_first w.Body = (refl, refl, refl, refl)
word_first w.State = (refl, refl, refl, refl)
word_first w.Left = (refl, refl, refl, refl)
word_first w.Right = (refl, refl, refl, refl)
word_first w.End = (refl, refl, refl, refl)

-- white space
pub white-is : (b : ℕ) → white b ≡ true → (b ≡ 32) ⊎ ((b ≡ 9) ⊎ ((b ≡ 10) ⊎ (b ≡ 13)))
unfolding white
white-is b h = go₁ (or_cases (eqb b 32 || eqb b 9 || eqb b 10) (eqb b 13) h)
  where
    go₃ : (eqb b 32 ≡ true) ⊎ (eqb b 9 ≡ true) → (b ≡ 32) ⊎ ((b ≡ 9) ⊎ ((b ≡ 10) ⊎ (b ≡ 13)))
    go₃ (inl e) = inl (eqb≡ b 32 e)
    go₃ (inr e) = inr (inl (eqb≡ b 9 e))

    go₂ : (eqb b 32 || eqb b 9 ≡ true) ⊎ (eqb b 10 ≡ true) → (b ≡ 32) ⊎ ((b ≡ 9) ⊎ ((b ≡ 10) ⊎ (b ≡ 13)))
    go₂ (inl e) = go₃ (or_cases (eqb b 32) (eqb b 9) e)
    go₂ (inr e) = inr (inr (inl (eqb≡ b 10 e)))

    go₁ : (eqb b 32 || eqb b 9 || eqb b 10 ≡ true) ⊎ (eqb b 13 ≡ true) → (b ≡ 32) ⊎ ((b ≡ 9) ⊎ ((b ≡ 10) ⊎ (b ≡ 13)))
    go₁ (inl e) = go₂ (or_cases (eqb b 32 || eqb b 9) (eqb b 10) e)
    go₁ (inr e) = inr (inr (inr (eqb≡ b 13 e)))

pub white-digit : (b : ℕ) → white b ≡ true → digit b ≡ false
white-digit b h = go (white-is b h)
  where
    go : (b ≡ 32) ⊎ ((b ≡ 9) ⊎ ((b ≡ 10) ⊎ (b ≡ 13))) → digit b ≡ false
    go (inl e) = rw e refl
    go (inr (inl e)) = rw e refl
    go (inr (inr (inl e))) = rw e refl
    go (inr (inr (inr e))) = rw e refl

pub digit-white : (b : ℕ) → digit b ≡ true → white b ≡ false
digit-white b h = go (test (white b))
  where
    go : (white b ≡ true) ⊎ (white b ≡ false) → white b ≡ false
    go (inl t) = absurd (false≢true (sym (white-digit b t) ∙ h))
    go (inr f) = f

-- the byte of a digit
pub digit-byte : (n : ℕ) → n < 10 → digit (48 + n) ≡ true
digit-byte n h = both (leb 48 (48 + n)) (leb (48 + n) 57) (le_yes 48 (48 + n) (omega arith)) (le_yes (48 + n) 57 (omega arith))

pub byte-digit : (b : ℕ) → digit b ≡ true → (48 ≤ b) × (b < 58)
byte-digit b h =
    let x = le-true 48 b (and_l (leb 48 b) (leb b 57) h) in
    let y = le-true b 57 (and_r (leb 48 b) (leb b 57) h) in
    (omega arith, omega arith)

-- ---- decimal
pub small : (k n : ℕ) → n < 10 → decimal_in (suc k) n ≡ (48 + n) ∷ []
unfolding decimal_in
small k n h = rw (lt_yes n 10 h) refl

pub large : (k n : ℕ) → 10 ≤ n → decimal_in (suc k) n ≡ decimal_in k (n / 10) ++ ((48 + n % 10) ∷ [])
unfolding decimal_in
large k n h = rw (lt_no n 10 h) refl

tri : (n : ℕ) → (n < 10) ⊎ (10 ≤ n)
tri n = go (test (ltb n 10))
  where
    go : (ltb n 10 ≡ true) ⊎ (ltb n 10 ≡ false) → (n < 10) ⊎ (10 ≤ n)
    go (inl t) = inl (lt-true n 10 t)
    go (inr f) = inr (lt-false n 10 f)

pub under-ten : (n : ℕ) → (n < 10) ⊎ (10 ≤ n)
under-ten = tri

tenth : (k n : ℕ) → n < 10 ^ suc k → n / 10 < 10 ^ k
tenth k n h = omega (arith, pow-suc 10 k)

pub enough : (k n : ℕ) → n < 10 ^ suc k → decimal_in (suc k) n ≡ decimal_in (suc (suc k)) n
enough zero n h = small 0 n (omega arith) ∙ sym (small 1 n (omega arith))
enough (suc k) n h = go (tri n) (enough k (n / 10) (tenth (suc k) n h))
  where
    go : (n < 10) ⊎ (10 ≤ n) → decimal_in (suc k) (n / 10) ≡ decimal_in (suc (suc k)) (n / 10) → decimal_in (suc (suc k)) n ≡ decimal_in (suc (suc (suc k))) n
    go (inl l) ih = small (suc k) n l ∙ sym (small (suc (suc k)) n l)
    go (inr g) ih = large (suc k) n g ∙ (ap (λ (l : List ℕ). l ++ ((48 + n % 10) ∷ [])) ih ∙ sym (large (suc (suc k)) n g))

-- one digit more
pub decimal-on : (n c : ℕ) → 0 < n → c < 10 → n * 10 + c < 2147483648 → decimal (n * 10 + c) ≡ decimal n ++ ((48 + c) ∷ [])
unfolding decimal
decimal-on n c p q s =
    let d : (n * 10 + c) / 10 ≡ n = omega arith in
    let m : (n * 10 + c) % 10 ≡ c = omega arith in
    large 9 (n * 10 + c) (omega arith) ∙ (rw (d, m) (ap (λ (l : List ℕ). l ++ ((48 + c) ∷ [])) (enough 8 n (omega arith))))

pub decimal-off : (n : ℕ) → 10 ≤ n → n < 2147483648 → decimal n ≡ decimal (n / 10) ++ ((48 + n % 10) ∷ [])
unfolding decimal
decimal-off n g s = large 9 n g ∙ ap (λ (l : List ℕ). l ++ ((48 + n % 10) ∷ [])) (enough 8 (n / 10) (omega arith))

-- ---- lists
pub cons_of : (r : List ℕ) (x : ℕ) → r ++ (x ∷ []) ≡ first_or 0 (r ++ (x ∷ [])) ∷ tail_of (r ++ (x ∷ []))
cons_of [] x = refl
cons_of (y ∷ r) x = refl

pub bytes-some : (t : Token) → bytes_of t ≡ first_or 0 (bytes_of t) ∷ tail_of (bytes_of t)
unfolding decimal
bytes-some (word x) = (word_first x).3
bytes-some (quoted s) = refl
bytes-some (number n) = go (tri n)
  where
    go : (n < 10) ⊎ (10 ≤ n) → decimal_in 10 n ≡ first_or 0 (decimal_in 10 n) ∷ tail_of (decimal_in 10 n)
    go (inl l) = rw (small 9 n l) refl
    go (inr g) = rw (large 9 n g) (cons_of (decimal_in 9 (n / 10)) (48 + n % 10))

pub starts-part : (xs ys zs : List ℕ) → starts_with (xs ++ ys) zs ≡ true → starts_with xs zs ≡ true
starts-part [] ys zs h = refl
starts-part (x ∷ xs) ys [] h = h
starts-part (x ∷ xs) ys (z ∷ zs) h =
    both (eqb x z) (starts_with xs zs) (and_l (eqb x z) (starts_with (xs ++ ys) zs) h) (starts-part xs ys zs (and_r (eqb x z) (starts_with (xs ++ ys) zs) h))

pub starts-all : (xs : List ℕ) → starts_with xs xs ≡ true
starts-all [] = refl
starts-all (x ∷ xs) = both (eqb x x) (starts_with xs xs) (≡eqb x x refl) (starts-all xs)

pub starts-rest : (xs zs : List ℕ) → starts_with xs zs ≡ true → (ys : List ℕ) × (zs ≡ xs ++ ys)
starts-rest [] zs h = (zs, refl)
starts-rest (x ∷ xs) [] h = absurd (false≢true h)
starts-rest (x ∷ xs) (z ∷ zs) h =
    let r = starts-rest xs zs (and_r (eqb x z) (starts_with xs zs) h) in
    let e : x ≡ z = eqb≡ x z (and_l (eqb x z) (starts_with xs zs) h) in
    (r.0, ap₂ ◌∷◌ (sym e) r.1)
