-- Where a set stands in a collection, and a collection with a set more or a set fewer. Assumes nothing.
use Prim.Native.Nat.{ℕ, zero, suc, ◌+◌, ◌*◌, ◌/◌, ◌%◌, ◌^◌, ◌≤◌, ◌<◌}
use native.Mathlib.Omega.{arith}
use native.Mathlib.Nat.{mod-lt, div-add-mod'}
use native.Mathlib.Decide.{ℕ_discrete}
use mathlib.Core.Path.{◌≡◌, refl, sym, ap, ap₂, ◌∙◌}
use mathlib.Core.Logic.{◌≢◌}
use mathlib.Core.Bool.{Bool, true, false, not, ◌&&◌, ◌||◌, cond, and-true, or-false}
use mathlib.Core.List.{List, [], ◌∷◌}
use lib.Dec.{eqb, lit<}
use lib.ListN.{length, get_or, set, length-set}
use lib.Pow.{shr-shr}
use lib.Seq.{get_or-set_same, get_or-set_other}
use Rattle.lists.proofs.Bools.{eqb≡, ≡eqb, neqb, bool-ext, and-absent}
use Rattle.masks.specs.Masks.{has, insert, minus}
use Rattle.masks.proofs.Bits.{has-none, has-insert, has-minus}
use Rattle.collections.specs.Collections.{has_set}

-- ---- where a set stands
pub set_at : (t : List ℕ) (s : ℕ) → has_set t s ≡ has (get_or t (s / 64) 0) (s % 64)
unfolding has_set
set_at t s = refl

pub set-of : (t : List ℕ) (k j : ℕ) → j < 64 → has_set t (64 * k + j) ≡ has (get_or t k 0) j
set-of t k j l =
    let q : (64 * k + j) / 64 ≡ k = omega arith in
    let r : (64 * k + j) % 64 ≡ j = omega arith in
    set_at t (64 * k + j) ∙ ap₂ (λ (x y : ℕ). has (get_or t x 0) y) q r

pub set-in : (t : List ℕ) (k d : ℕ) → d / 64 ≡ k → has (get_or t k 0) (d % 64) ≡ has_set t d
set-in t k d q = sym (set_at t d ∙ ap (λ (i : ℕ). has (get_or t i 0) (d % 64)) q)

-- a fact of each of the four words
pub each_word : (P : ℕ → Type 0) → P 0 → P 1 → P 2 → P 3 → (k : ℕ) → k < 4 → P k
each_word P p q r s zero l = p
each_word P p q r s (suc zero) l = q
each_word P p q r s (suc (suc zero)) l = r
each_word P p q r s (suc (suc (suc zero))) l = s
each_word P p q r s (suc (suc (suc (suc k)))) l = absurd (omega arith)

-- four words with the answers of f, 64 in each
module _ (f : ℕ → Bool) (a b c d : ℕ) where
  pub four-words : ((x : ℕ) → x < 64 → has a x ≡ f x) → ((x : ℕ) → x < 64 → has b x ≡ f (64 + x)) → ((x : ℕ) → x < 64 → has c x ≡ f (128 + x)) → ((x : ℕ) → x < 64 → has d x ≡ f (192 + x))
      → (s : ℕ) → s < 256 → has_set (a ∷ b ∷ c ∷ d ∷ []) s ≡ f s
  four-words p q r t s l =
      set_at (a ∷ b ∷ c ∷ d ∷ []) s
      ∙ each_word (λ (k : ℕ). has (get_or (a ∷ b ∷ c ∷ d ∷ []) k 0) (s % 64) ≡ f (64 * k + s % 64)) (p (s % 64) low ∙ ap f first) (q (s % 64) low) (r (s % 64) low) (t (s % 64) low) (s / 64) (omega arith)
      ∙ ap f whole
    where
      low : s % 64 < 64
      low = mod-lt s (lit< tt)

      first : s % 64 ≡ 64 * 0 + s % 64
      first = omega arith

      whole : 64 * (s / 64) + s % 64 ≡ s
      whole = omega (arith, div-add-mod' s 64)

-- the first word alone, for the sets in it
pub one_word : (f : ℕ → Bool) (n w : ℕ) (rest : List ℕ) → n ≤ 64 → ((d : ℕ) → d < n → has w d ≡ f d) → (d : ℕ) → d < n → has_set (w ∷ rest) d ≡ f d
one_word f n w rest few h d l =
    let e : d ≡ 64 * 0 + d = omega arith in
    ap (has_set (w ∷ rest)) e ∙ set-of (w ∷ rest) 0 d (omega arith) ∙ h d l

-- the number of a set's word
pub has-shr : (m k e : ℕ) → has (m / 2 ^ k) e ≡ has m (k + e)
unfolding has
has-shr m k e = ap (λ (x : ℕ). eqb (x % 2) 1) (shr-shr m k e)

-- in one word, the places tell the sets apart
same_word : (s d : ℕ) → d / 64 ≡ s / 64 → eqb (s % 64) (d % 64) ≡ eqb d s
same_word s d q =
    bool-ext (eqb (s % 64) (d % 64)) (eqb d s)
    (λ t. let e : s % 64 ≡ d % 64 = eqb≡ (s % 64) (d % 64) t in ≡eqb d s (omega (arith, div-add-mod' d 64, div-add-mod' s 64)))
    (λ t. ≡eqb (s % 64) (d % 64) (ap (λ (x : ℕ). x % 64) (sym (eqb≡ d s t))))

other_word : (s d : ℕ) → d / 64 ≢ s / 64 → eqb d s ≡ false
other_word s d n = neqb d s (λ e. n (ap (λ (x : ℕ). x / 64) e))

-- ---- another word in a place
module _ (t : List ℕ) (k w d : ℕ) (fits : k < length t) where
  pub stored_here : d / 64 ≡ k → has_set (set t k w) d ≡ has w (d % 64)
  stored_here q = set_at (set t k w) d ∙ ap (λ (x : ℕ). has x (d % 64)) (ap (λ (i : ℕ). get_or (set t k w) i 0) q ∙ get_or-set_same t k w 0 fits)

  pub stored-elsewhere : d / 64 ≢ k → has_set (set t k w) d ≡ has_set t d
  stored-elsewhere n = set_at (set t k w) d ∙ ap (λ (x : ℕ). has x (d % 64)) (get_or-set_other t k (d / 64) w 0 n) ∙ sym (set_at t d)

-- ---- a set more, a set fewer
-- a bit more where b holds
pub has-if : (w e x : ℕ) (b : Bool) → has (cond b (insert w e) w) x ≡ has w x || (b && eqb e x)
has-if w e x true = has-insert w e x
has-if w e x false = sym (or-false (has w x))

pub set_more : (t : List ℕ) (s d : ℕ) (b : Bool) → s / 64 < length t → has_set (set t (s / 64) (cond b (insert (get_or t (s / 64) 0) (s % 64)) (get_or t (s / 64) 0))) d ≡ has_set t d || (b && eqb d s)
set_more t s d b l = go (ℕ_discrete (d / 64) (s / 64))
  where
    old : ℕ
    old = get_or t (s / 64) 0

    go : Dec (d / 64 ≡ s / 64) → has_set (set t (s / 64) (cond b (insert old (s % 64)) old)) d ≡ has_set t d || (b && eqb d s)
    go (yes q) = stored_here t (s / 64) (cond b (insert old (s % 64)) old) d l q ∙ has-if old (s % 64) (d % 64) b ∙ ap₂ (λ (x y : Bool). x || (b && y)) (set-in t (s / 64) d q) (same_word s d q)
    go (no n) = stored-elsewhere t (s / 64) (cond b (insert old (s % 64)) old) d l n ∙ sym (ap (λ (x : Bool). has_set t d || x) (and-absent b (eqb d s) (other_word s d n)) ∙ or-false (has_set t d))

pub set-fewer : (t : List ℕ) (s d : ℕ) → s / 64 < length t → has_set (set t (s / 64) (minus (get_or t (s / 64) 0) (insert 0 (s % 64)))) d ≡ has_set t d && not (eqb d s)
set-fewer t s d l = go (ℕ_discrete (d / 64) (s / 64))
  where
    old : ℕ
    old = get_or t (s / 64) 0

    new : ℕ
    new = minus old (insert 0 (s % 64))

    one : has (insert 0 (s % 64)) (d % 64) ≡ eqb (s % 64) (d % 64)
    one = has-insert 0 (s % 64) (d % 64) ∙ ap (λ (x : Bool). x || eqb (s % 64) (d % 64)) (has-none (d % 64))

    go : Dec (d / 64 ≡ s / 64) → has_set (set t (s / 64) new) d ≡ has_set t d && not (eqb d s)
    go (yes q) = stored_here t (s / 64) new d l q ∙ has-minus old (insert 0 (s % 64)) (d % 64) ∙ ap₂ (λ (x y : Bool). x && not y) (set-in t (s / 64) d q) (one ∙ same_word s d q)
    go (no n) = stored-elsewhere t (s / 64) new d l n ∙ sym (and-true (has_set t d)) ∙ ap (λ (x : Bool). has_set t d && not x) (sym (other_word s d n))

-- as the code stores them: e is s, as a place
module _ (t : List ℕ) (s e w : ℕ) (long : length t ≡ 4) (small : e < 256) (is : e ≡ s) where
  near : e / 64 < length t
  near = omega arith

  pub set-added : (b : Bool) → w ≡ cond b (insert (get_or t (e / 64) 0) (e % 64)) (get_or t (e / 64) 0) → (length (set t (e / 64) w) ≡ 4) × ((d : ℕ) → d < 256 → has_set (set t (e / 64) w) d ≡ has_set t d || (b && eqb d s))
  set-added b q = (simp length-set long, λ d _. ap (λ (x : ℕ). has_set (set t (e / 64) x) d) q ∙ set_more t e d b near ∙ ap (λ (x : ℕ). has_set t d || (b && eqb d x)) is)

  pub set-removed : w ≡ minus (get_or t (e / 64) 0) (insert 0 (e % 64)) → (length (set t (e / 64) w) ≡ 4) × ((d : ℕ) → d < 256 → has_set (set t (e / 64) w) d ≡ has_set t d && not (eqb d s))
  set-removed q = (simp length-set long, λ d _. ap (λ (x : ℕ). has_set (set t (e / 64) x) d) q ∙ set-fewer t e d near ∙ ap (λ (x : ℕ). has_set t d && not (eqb d x)) is)
