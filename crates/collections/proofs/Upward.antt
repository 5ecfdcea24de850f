-- A word closed upwards, and four of them joined: what has a set inside it is reached by adding one colour after the other. Assumes nothing.
use Prim.Native.Nat.{ℕ, zero, suc, ◌+◌, ◌-◌, ◌*◌, ◌/◌, ◌%◌, ◌^◌, ◌≤◌, ◌<◌, min}
use native.Mathlib.Omega.{arith}
use native.Mathlib.Nat.{add_comm, mod-lt, div-add-mod'}
use native.Mathlib.Decide.{ℕ_discrete}
use mathlib.Core.Path.{◌≡◌, refl, sym, ap, ap₂, ◌∙◌, subst}
use mathlib.Core.Logic.{◌⊎◌, inl, inr, ◌≢◌}
use mathlib.Core.Bool.{Bool, true, false, not, ◌&&◌, ◌||◌, cond, and-true, or-false, true≢false, false≢true}
use mathlib.Core.List.{List, [], ◌∷◌}
use lib.Bits.{bit_and, bit_or}
use lib.Dec.{eqb, ltb, lit<}
use lib.ListN.{get_or}
use lib.Pow.{shr-shr, shl-shr}
use mir.Val.{bool_byte}
use Rattle.lists.specs.Lists.{all, below}
use Rattle.lists.proofs.Bools.{test, eqb≡, neqb, lt-true, and_l, and_r, and-absent, both, or_left, or_right}
use Rattle.lists.proofs.Lists.{all-each, mem_below}
use Rattle.masks.specs.Masks.{has, insert, minus, inside}
use Rattle.masks.proofs.Bits.{has-zero, has-and, has-or, has-mod, has-minus, has-none, has-pow, has-full, all-inside, inside-all, inside-antisym, inside-le}
use Rattle.masks.proofs.Members.{bit-lt, insert-cases, insert-keeps, insert-adds}
use Rattle.collections.specs.Collections.{has_set, Raised, Over}
use Rattle.collections.proofs.Sets.{set_at, set-of, set-in, each_word, four-words, has-shr}

-- ---- one step in a word
has-shifted : (x k e : ℕ) → has (x * 2 ^ k) (e + k) ≡ has x e
unfolding has
has-shifted x k e =
    ap (λ (y : ℕ). eqb (x * 2 ^ k / 2 ^ y % 2) 1) (add_comm e k)
    ∙ ap (λ (y : ℕ). eqb (y % 2) 1) (sym (shr-shr (x * 2 ^ k) k e) ∙ ap (λ (y : ℕ). y / 2 ^ e) (shl-shr x k))

pub raised : (w m by : ℕ) → Raised w m by (bit_or w (bit_and w m * 2 ^ by % 2 ^ 64))
raised w m by = record {
  kept = λ e t. has-or e w (bit_and w m * 2 ^ by % 2 ^ 64) ∙ or_left (has w e) (has (bit_and w m * 2 ^ by % 2 ^ 64) e) t;
  moved = λ e l t u.
      has-or (e + by) w (bit_and w m * 2 ^ by % 2 ^ 64)
      ∙ or_right (has w (e + by)) (has (bit_and w m * 2 ^ by % 2 ^ 64) (e + by))
      (has-mod 64 (e + by) (bit_and w m * 2 ^ by) l ∙ has-shifted (bit_and w m) by e ∙ has-and e w m ∙ both (has w e) (has m e) t u);
}

-- the test of a step: m has the sets without colour i, and with it they stand `by` places higher
unfoldable stands : ℕ → ℕ → ℕ → ℕ → Bool
stands i by m x = cond (has x i) (eqb (insert x i) x) (eqb (insert x i) (x + by) && (ltb (x + by) 64 && has m x))

-- the sets of r are those of w, with colour i and without it
abbrev Up : ℕ → ℕ → ℕ → Type 0
Up i w r = (x : ℕ) → x < 64 → has w x ≡ true → (has r x ≡ true) × (has r (insert x i) ≡ true)

up : (i by m w r : ℕ) → all (stands i by m) (below 64) ≡ true → Raised w m by r → Up i w r
unfolding stands
up i by m w r ok s x l t = (s.kept x t, go (test (has x i)) (all-each (stands i by m) (below 64) ok x (mem_below 64 x l)))
  where
    go : (has x i ≡ true) ⊎ (has x i ≡ false) → stands i by m x ≡ true → has r (insert x i) ≡ true
    go (inl h) k = ap (has r) (eqb≡ (insert x i) x (rw h at k)) ∙ s.kept x t
    go (inr h) k =
        let k' : eqb (insert x i) (x + by) && (ltb (x + by) 64 && has m x) ≡ true = rw h at k in
        let q = and_r (eqb (insert x i) (x + by)) (ltb (x + by) 64 && has m x) k' in
        ap (has r) (eqb≡ (insert x i) (x + by) (and_l (eqb (insert x i) (x + by)) (ltb (x + by) 64 && has m x) k'))
        ∙ s.moved x (lt-true (x + by) 64 (and_l (ltb (x + by) 64) (has m x) q)) t (and_r (ltb (x + by) 64) (has m x) q)

-- ---- the way from a up to b: the colours of b below n are added
unfoldable grown : ℕ → ℕ → ℕ → ℕ
grown a b zero = a
grown a b (suc n) = cond (has b n) (insert (grown a b n) n) (grown a b n)

grown-none : (a b : ℕ) → grown a b 0 ≡ a
unfolding grown
grown-none a b = refl

grown-inside : (a b n : ℕ) → inside a b ≡ true → inside (grown a b n) b ≡ true
unfolding grown
grown-inside a b zero k = k
grown-inside a b (suc n) k = go (test (has b n)) (grown-inside a b n k)
  where
    go : (has b n ≡ true) ⊎ (has b n ≡ false) → inside (grown a b n) b ≡ true → inside (grown a b (suc n)) b ≡ true
    go (inl h) ih = rw h (all-inside (insert (grown a b n) n) b (λ e t. pick e (insert-cases (grown a b n) n e t)))
      where
        pick : (e : ℕ) → (has (grown a b n) e ≡ true) ⊎ (n ≡ e) → has b e ≡ true
        pick e (inl t) = inside-all (grown a b n) b ih e t
        pick e (inr q) = ap (has b) (sym q) ∙ h
    go (inr h) ih = rw h ih

grown-has : (a b n e : ℕ) → e < n → has b e ≡ true → has (grown a b n) e ≡ true
unfolding grown
grown-has a b zero e l t = absurd (omega arith)
grown-has a b (suc n) e l t = go (test (has b n)) (ℕ_discrete n e) (grown-has a b n e)
  where
    go : (has b n ≡ true) ⊎ (has b n ≡ false) → Dec (n ≡ e) → (e < n → has b e ≡ true → has (grown a b n) e ≡ true) → has (grown a b (suc n)) e ≡ true
    go (inl h) (yes q) ih = rw h (ap (has (insert (grown a b n) n)) (sym q) ∙ insert-adds (grown a b n) n)
    go (inl h) (no q) ih = rw h (insert-keeps (grown a b n) n e (ih (omega arith) t))
    go (inr h) (yes q) ih = absurd (true≢false (sym t ∙ ap (has b) (sym q) ∙ h))
    go (inr h) (no q) ih = rw h (ih (omega arith) t)

grown-whole : (a b n : ℕ) → inside a b ≡ true → b < 2 ^ n → grown a b n ≡ b
grown-whole a b n k l = inside-antisym (grown a b n) b (grown-inside a b n k) (all-inside b (grown a b n) (λ e t. grown-has a b n e (bit-lt n b e l t) t))

module _ (a b : ℕ) (k : inside a b ≡ true) (l : b < 64) where
  step : (i w r : ℕ) → Up i w r → has w (grown a b i) ≡ true → has r (grown a b (suc i)) ≡ true
  unfolding grown
  step i w r u t = go (test (has b i)) (u (grown a b i) (omega (arith, inside-le (grown a b i) b (grown-inside a b i k))) t)
    where
      go : (has b i ≡ true) ⊎ (has b i ≡ false) → (has r (grown a b i) ≡ true) × (has r (insert (grown a b i) i) ≡ true) → has r (grown a b (suc i)) ≡ true
      go (inl h) p = rw h p.1
      go (inr h) p = rw h p.0

-- six steps close a word
module _ (w₀ w₁ w₂ w₃ w₄ w₅ w₆ : ℕ) where
  pub closed : Raised w₀ 0x5555555555555555 1 w₁ → Raised w₁ 0x3333333333333333 2 w₂ → Raised w₂ 0x0f0f0f0f0f0f0f0f 4 w₃ → Raised w₃ 0x00ff00ff00ff00ff 8 w₄ → Raised w₄ 0x0000ffff0000ffff 16 w₅ → Raised w₅ 0x00000000ffffffff 32 w₆
      → (a b : ℕ) → a < 64 → b < 64 → inside a b ≡ true → has w₀ a ≡ true → has w₆ b ≡ true
  unfolding stands has insert
  closed r₁ r₂ r₃ r₄ r₅ r₆ a b la l k t =
      ap (has w₆) (sym (grown-whole a b 6 k l))
      ∙ step a b k l 5 w₅ w₆ (up 5 32 0x00000000ffffffff w₅ w₆ refl r₆)
      (step a b k l 4 w₄ w₅ (up 4 16 0x0000ffff0000ffff w₄ w₅ refl r₅)
      (step a b k l 3 w₃ w₄ (up 3 8 0x00ff00ff00ff00ff w₃ w₄ refl r₄)
      (step a b k l 2 w₂ w₃ (up 2 4 0x0f0f0f0f0f0f0f0f w₂ w₃ refl r₃)
      (step a b k l 1 w₁ w₂ (up 1 2 0x3333333333333333 w₁ w₂ refl r₂)
      (step a b k l 0 w₀ w₁ (up 0 1 0x5555555555555555 w₀ w₁ refl r₁) (ap (has w₀) (grown-none a b) ∙ t))))))

-- ---- the sets with a verdict
-- a flag as a number
has-flag : (b : Bool) (e : ℕ) → has (bool_byte b) e ≡ b && eqb 0 e
has-flag true e = has-pow 0 e
has-flag false e = has-none e

pub pushed : (w : ℕ) (b : Bool) → (has (bit_or (w * 2 ^ 1 % 2 ^ 64) (bool_byte b)) 0 ≡ b) × ((e : ℕ) → e + 1 < 64 → has (bit_or (w * 2 ^ 1 % 2 ^ 64) (bool_byte b)) (e + 1) ≡ has w e)
pushed w b = (
  has-or 0 (w * 2 ^ 1 % 2 ^ 64) (bool_byte b) ∙ ap₂ ◌||◌ low (has-flag b 0 ∙ and-true b),
  λ e l. has-or (e + 1) (w * 2 ^ 1 % 2 ^ 64) (bool_byte b) ∙ ap₂ ◌||◌ (has-mod 64 (e + 1) (w * 2 ^ 1) l ∙ has-shifted w 1 e) (has-flag b (e + 1) ∙ and-absent b (eqb 0 (e + 1)) (neqb 0 (e + 1) (λ q. omega arith))) ∙ or-false (has w e),
)
  where
    low : has (w * 2 ^ 1 % 2 ^ 64) 0 ≡ false
    low = has-mod 64 0 (w * 2 ^ 1) (lit< tt) ∙ has-zero (w * 2 ^ 1) ∙ neqb (w * 2 ^ 1 % 2) 1 (λ q. omega arith)

-- w has the answers of f from j to n, from bit 0 on
abbrev pub Pushing : (ℕ → Bool) → ℕ → ℕ → ℕ → Type 0
Pushing f n j w = (x : ℕ) → j + x < n → has w x ≡ f (j + x)

-- one more of them, as a loop meets it
module _ (f : ℕ → Bool) (n j w r : ℕ) where
  pub pushing-more : n ≤ 64 → 0 < j → Pushing f n j w → (has r 0 ≡ f (j - 1)) × ((e : ℕ) → e + 1 < 64 → has r (e + 1) ≡ has w e) → Pushing f n (j - 1) r
  pushing-more few some h p zero l = p.0 ∙ ap f (omega arith)
  pushing-more few some h p (suc x) l =
      let s : suc x ≡ x + 1 = omega arith in
      ap (has r) s ∙ p.1 x (omega arith) ∙ h x (omega arith) ∙ ap f (omega arith)

pub pushing-all : (f : ℕ → Bool) (n j w : ℕ) → j ≤ 0 → Pushing f n j w → (x : ℕ) → x < n → has w x ≡ f x
pushing-all f n j w z h x l = h x (omega arith) ∙ ap f (omega arith)

-- ---- the other sets
pub lacked : (w e : ℕ) → e < 64 → has (minus (2 ^ 64 - 1) w) e ≡ not (has w e)
lacked w e l = has-minus (2 ^ 64 - 1) w e ∙ ap (λ (x : Bool). x && not (has w e)) (has-full 64 e l)

pub lacked-words : (t : List ℕ) (a b c d : ℕ) → ((e : ℕ) → e < 64 → has a e ≡ not (has (get_or t 0 0) e)) → ((e : ℕ) → e < 64 → has b e ≡ not (has (get_or t 1 0) e)) → ((e : ℕ) → e < 64 → has c e ≡ not (has (get_or t 2 0) e)) → ((e : ℕ) → e < 64 → has d e ≡ not (has (get_or t 3 0) e))
    → (s : ℕ) → s < 256 → has_set (a ∷ b ∷ c ∷ d ∷ []) s ≡ not (has_set t s)
lacked-words t a b c d p q r u = four-words (λ (s : ℕ). not (has_set t s)) a b c d (λ e l. p e l ∙ at 0 e l ∙ ap (λ (x : ℕ). not (has_set t x)) (omega arith)) (λ e l. q e l ∙ at 1 e l) (λ e l. r e l ∙ at 2 e l) (λ e l. u e l ∙ at 3 e l)
  where
    at : (k e : ℕ) → e < 64 → not (has (get_or t k 0) e) ≡ not (has_set t (64 * k + e))
    at k e l = ap not (sym (set-of t k e l))

-- ---- bit 0
pub first-if : (w : ℕ) (b : Bool) (e : ℕ) → has w e ≡ true → (e ≢ 0) ⊎ (b ≡ true) → has (minus w (bool_byte (not b))) e ≡ true
first-if w b e t c = has-minus w (bool_byte (not b)) e ∙ both (has w e) (not (has (bool_byte (not b)) e)) t (ap not (has-flag (not b) e ∙ go c))
  where
    go : (e ≢ 0) ⊎ (b ≡ true) → not b && eqb 0 e ≡ false
    go (inl n) = and-absent (not b) (eqb 0 e) (neqb 0 e (λ q. n (sym q)))
    go (inr q) = ap (λ (x : Bool). not x && eqb 0 e) q

-- ---- four words
-- the parts of a set inside another are inside its parts
inside-high : (d s : ℕ) → inside d s ≡ true → inside (d / 64) (s / 64) ≡ true
inside-high d s k = all-inside (d / 64) (s / 64) (λ e t. has-shr s 6 e ∙ inside-all d s k (6 + e) (sym (has-shr d 6 e) ∙ t))

inside-low : (d s : ℕ) → inside d s ≡ true → inside (d % 64) (s % 64) ≡ true
inside-low d s k = all-inside (d % 64) (s % 64) (λ e t. let l : e < 6 = bit-lt 6 (d % 64) e (mod-lt d (lit< tt)) t in has-mod 6 e s l ∙ inside-all d s k e (sym (has-mod 6 e d l) ∙ t))

module _ (p q r s : ℕ) where
  abbrev pub words : List ℕ
  words = p ∷ q ∷ r ∷ s ∷ []

  abbrev pub joined : List ℕ
  joined = p ∷ bit_or p q ∷ bit_or p r ∷ bit_or (bit_or p q) (bit_or r s) ∷ []

  left : (x y e : ℕ) → has x e ≡ true → has (bit_or x y) e ≡ true
  left x y e t = has-or e x y ∙ or_left (has x e) (has y e) t

  right : (x y e : ℕ) → has y e ≡ true → has (bit_or x y) e ≡ true
  right x y e t = has-or e x y ∙ or_right (has x e) (has y e) t

  -- a word goes into each whose number has its number inside
  joins : (k j e : ℕ) → k < 4 → j < 4 → inside k j ≡ true → has (get_or words k 0) e ≡ true → has (get_or joined j 0) e ≡ true
  unfolding inside
  joins zero zero e lk lj i t = t
  joins zero (suc zero) e lk lj i t = left p q e t
  joins zero (suc (suc zero)) e lk lj i t = left p r e t
  joins zero (suc (suc (suc zero))) e lk lj i t = left (bit_or p q) (bit_or r s) e (left p q e t)
  joins zero (suc (suc (suc (suc j)))) e lk lj i t = absurd (omega arith)
  joins (suc zero) zero e lk lj i t = absurd (false≢true i)
  joins (suc zero) (suc zero) e lk lj i t = right p q e t
  joins (suc zero) (suc (suc zero)) e lk lj i t = absurd (false≢true i)
  joins (suc zero) (suc (suc (suc zero))) e lk lj i t = left (bit_or p q) (bit_or r s) e (right p q e t)
  joins (suc zero) (suc (suc (suc (suc j)))) e lk lj i t = absurd (omega arith)
  joins (suc (suc zero)) zero e lk lj i t = absurd (false≢true i)
  joins (suc (suc zero)) (suc zero) e lk lj i t = absurd (false≢true i)
  joins (suc (suc zero)) (suc (suc zero)) e lk lj i t = right p r e t
  joins (suc (suc zero)) (suc (suc (suc zero))) e lk lj i t = right (bit_or p q) (bit_or r s) e (left r s e t)
  joins (suc (suc zero)) (suc (suc (suc (suc j)))) e lk lj i t = absurd (omega arith)
  joins (suc (suc (suc zero))) zero e lk lj i t = absurd (false≢true i)
  joins (suc (suc (suc zero))) (suc zero) e lk lj i t = absurd (false≢true i)
  joins (suc (suc (suc zero))) (suc (suc zero)) e lk lj i t = absurd (false≢true i)
  joins (suc (suc (suc zero))) (suc (suc (suc zero))) e lk lj i t = right (bit_or p q) (bit_or r s) e (right r s e t)
  joins (suc (suc (suc zero))) (suc (suc (suc (suc j)))) e lk lj i t = absurd (omega arith)
  joins (suc (suc (suc (suc k)))) j e lk lj i t = absurd (omega arith)

-- r has the sets of w, as word k, that are below a bound
abbrev pub Cut : ℕ → ℕ → ℕ → ℕ → Type 0
Cut w sets k r = (j : ℕ) → j < 64 → 64 * k + j < sets → has w j ≡ true → has r j ≡ true

pub cut-full : (w sets k n f r : ℕ) → n ≡ min (sets - 64 * k) 64 → f ≡ 2 ^ n - 1 → r ≡ bit_and w f → Cut w sets k r
cut-full w sets k n f r en ef er j l m t =
    ap (λ (x : ℕ). has x j) (er ∙ ap (bit_and w) ef) ∙ has-and j w (2 ^ n - 1) ∙ both (has w j) (has (2 ^ n - 1) j) t (has-full n j (omega arith))

-- r has what has a set of word k of t inside it; set 0 counts only where `quiet` holds
abbrev pub Closed : List ℕ → Bool → ℕ → ℕ → Type 0
Closed t quiet k r = (a b : ℕ) → a < 64 → b < 64 → (64 * k + a ≢ 0) ⊎ (quiet ≡ true) → inside a b ≡ true → has (get_or t k 0) a ≡ true → has r b ≡ true

module _ (t : List ℕ) (quiet : Bool) where
  -- the first word, from which the code takes set 0
  pub closed-first : (w r : ℕ) → ((e : ℕ) → has (get_or t 0 0) e ≡ true → (e ≢ 0) ⊎ (quiet ≡ true) → has w e ≡ true) → ((a b : ℕ) → a < 64 → b < 64 → inside a b ≡ true → has w a ≡ true → has r b ≡ true) → Closed t quiet 0 r
  closed-first w r f g a b la lb c i h = g a b la lb i (f a h (subst (λ (x : ℕ). (x ≢ 0) ⊎ (quiet ≡ true)) (omega arith) c))

  module _ (sets : ℕ) (p : ℕ) (fp : Closed t quiet 0 p) where
    in-word : (k w : ℕ) → Closed t quiet k w → (d x : ℕ) → has_set t d ≡ true → (d ≢ 0) ⊎ (quiet ≡ true) → inside d x ≡ true → d / 64 ≡ k → has w (x % 64) ≡ true
    in-word k w f d x h c i q =
        let e : d ≡ 64 * k + d % 64 = omega (arith, div-add-mod' d 64) in
        f (d % 64) (x % 64) (mod-lt d (lit< tt)) (mod-lt x (lit< tt)) (subst (λ (y : ℕ). (y ≢ 0) ⊎ (quiet ≡ true)) e c) (inside-low d x i) (set-in t k d q ∙ h)

    pub over-one : (y : ℕ) → sets ≤ 64 → Cut p sets 0 y → Over (has_set t) true quiet sets (y ∷ 0 ∷ 0 ∷ 0 ∷ [])
    over-one y few cut d x ld lx h c i =
        let q : x / 64 ≡ 0 = omega arith in
        sym (set-in (y ∷ 0 ∷ 0 ∷ 0 ∷ []) 0 x q) ∙ cut (x % 64) (mod-lt x (lit< tt)) (omega (arith, div-add-mod' x 64)) (in-word 0 p fp d x h c i (omega arith))

    pub over-four : (q r s : ℕ) → Closed t quiet 1 q → Closed t quiet 2 r → Closed t quiet 3 s → sets ≤ 256
        → (y₁ y₂ y₃ : ℕ) → Cut (bit_or p q) sets 1 y₁ → Cut (bit_or p r) sets 2 y₂ → Cut (bit_or (bit_or p q) (bit_or r s)) sets 3 y₃ → Over (has_set t) true quiet sets (p ∷ y₁ ∷ y₂ ∷ y₃ ∷ [])
    over-four q r s fq fr fs few y₁ y₂ y₃ c₁ c₂ c₃ d x ld lx h c i =
        set_at (p ∷ y₁ ∷ y₂ ∷ y₃ ∷ []) x
        ∙ each_word (λ (k : ℕ). 64 * k + x % 64 < sets → has (get_or (joined p q r s) k 0) (x % 64) ≡ true → has (get_or (p ∷ y₁ ∷ y₂ ∷ y₃ ∷ []) k 0) (x % 64) ≡ true)
        (λ _ j. j) (c₁ (x % 64) low) (c₂ (x % 64) low) (c₃ (x % 64) low) (x / 64) (omega arith) (omega (arith, div-add-mod' x 64))
        (joins p q r s (d / 64) (x / 64) (x % 64) (omega arith) (omega arith) (inside-high d x i)
        (each_word (λ (k : ℕ). d / 64 ≡ k → has (get_or (words p q r s) k 0) (x % 64) ≡ true) (in-word 0 p fp d x h c i) (in-word 1 q fq d x h c i) (in-word 2 r fr d x h c i) (in-word 3 s fs d x h c i) (d / 64) (omega arith) refl))
      where
        low : x % 64 < 64
        low = mod-lt x (lit< tt)
