-- A set without one of its colours, in a word and in a collection. Assumes nothing.
use Prim.Native.Nat.{ℕ, ◌+◌, ◌/◌, ◌%◌, ◌^◌, ◌<◌, ◌≤◌}
use native.Mathlib.Omega.{arith}
use native.Mathlib.Nat.{mod-lt, div-add-mod'}
use native.Mathlib.Decide.{ℕ_discrete}
use mathlib.Core.Path.{◌≡◌, refl, sym, ap, ap₂, ◌∙◌, subst}
use mathlib.Core.Logic.{◌⊎◌, inl, inr, ◌≢◌}
use mathlib.Core.Bool.{Bool, true, false, not, ◌&&◌, ◌||◌, cond, and-true, true≢false, false≢true}
use mathlib.Core.List.{List}
use lib.Bits.{bit_and, bit_or}
use lib.Dec.{eqb, lit<}
use lib.ListN.{length, get_or, set, length-set}
use Rattle.lists.proofs.Bools.{test, eqb≡, ≡eqb, neqb, and_l, and_r, both, not-true, or_cases, or_left, or_right}
use Rattle.masks.specs.Masks.{has, insert, minus, inside}
use Rattle.masks.proofs.Bits.{mask-ext, mask-ext-to, has-and, has-or, has-mod, has-minus, has-pow, has-none, all-inside, inside-all, inside-antisym, inside-le, lt-of-bits}
use Rattle.masks.proofs.Members.{bit-lt, some-bit}
use Rattle.collections.specs.Collections.{has_set, Fewer, Smaller}
use Rattle.collections.proofs.Sets.{set-in, has-if, has-shr, stored_here, stored-elsewhere}

-- ---- one colour fewer
pub has-fewer : (h i e : ℕ) → has (minus h (2 ^ i)) e ≡ has h e && not (eqb i e)
has-fewer h i e = has-minus h (2 ^ i) e ∙ ap (λ (x : Bool). has h e && not x) (has-pow i e)

pub fewer-inside : (h i : ℕ) → inside (minus h (2 ^ i)) h ≡ true
fewer-inside h i = all-inside (minus h (2 ^ i)) h (λ e t. and_l (has h e) (not (eqb i e)) (sym (has-fewer h i e) ∙ t))

pub fewer-le : (h i : ℕ) → minus h (2 ^ i) ≤ h
fewer-le h i = inside-le (minus h (2 ^ i)) h (fewer-inside h i)

pub fewer-lt : (h i : ℕ) → has h i ≡ true → minus h (2 ^ i) < h
fewer-lt h i t = lib.Arith.lt_of_le-ne (fewer-le h i) (λ e. true≢false (sym t ∙ ap (λ (x : ℕ). has x i) (sym e) ∙ lacks))
  where
    lacks : has (minus h (2 ^ i)) i ≡ false
    lacks = has-fewer h i i ∙ rw (t, ≡eqb i i refl) refl

-- a set inside h without colour i
pub inside-fewer : (d h i : ℕ) → inside d h ≡ true → has d i ≡ false → inside d (minus h (2 ^ i)) ≡ true
inside-fewer d h i k f = all-inside d (minus h (2 ^ i)) (λ e t. has-fewer h i e ∙ rw (inside-all d h k e t, neqb i e (λ q. true≢false (sym t ∙ ap (has d) (sym q) ∙ f))) refl)

-- without one of the first six colours a set stands in the same word
module _ (h i : ℕ) (l : i < 6) where
  fewer-word : minus h (2 ^ i) / 64 ≡ h / 64
  fewer-word =
      mask-ext (minus h (2 ^ i) / 64) (h / 64)
      (λ e. has-shr (minus h (2 ^ i)) 6 e ∙ has-fewer h i (6 + e) ∙ ap (λ (x : Bool). has h (6 + e) && not x) (neqb i (6 + e) (λ q. omega arith)) ∙ and-true (has h (6 + e)) ∙ sym (has-shr h 6 e))

  fewer-place : minus h (2 ^ i) % 64 ≡ minus (h % 64) (2 ^ i)
  fewer-place =
      mask-ext-to 6 (minus h (2 ^ i) % 64) (minus (h % 64) (2 ^ i)) (mod-lt (minus h (2 ^ i)) (lit< tt)) (omega (arith, mod-lt h {m = 64} (lit< tt), fewer-le (h % 64) i))
      (λ e k. has-mod 6 e (minus h (2 ^ i)) k ∙ has-fewer h i e ∙ ap (λ (x : Bool). x && not (eqb i e)) (sym (has-mod 6 e h k)) ∙ sym (has-fewer (h % 64) i e))

-- a colour that the inner set lacks
pub lacking : (d h : ℕ) → h < 256 → inside d h ≡ true → d ≢ h → (i : ℕ) × (i < 8) × (has h i ≡ true) × (has d i ≡ false)
lacking d h l k n = go (ℕ_discrete (minus h d) 0)
  where
    bit : (e : ℕ) → has (minus h d) e ≡ true → (has h e ≡ true) × (has d e ≡ false)
    bit e t = let b = sym (has-minus h d e) ∙ t in (and_l (has h e) (not (has d e)) b, not-true (has d e) (and_r (has h e) (not (has d e)) b))

    all : minus h d ≡ 0 → (e : ℕ) → has h e ≡ true → (has d e ≡ true) ⊎ (has d e ≡ false) → has d e ≡ true
    all z e t (inl u) = u
    all z e t (inr u) = absurd (false≢true (sym (has-none e) ∙ ap (λ (x : ℕ). has x e) (sym z) ∙ has-minus h d e ∙ rw (t, u) refl))

    go : Dec (minus h d ≡ 0) → (i : ℕ) × (i < 8) × (has h i ≡ true) × (has d i ≡ false)
    go (yes z) = absurd (n (inside-antisym d h k (all-inside h d (λ e t. all z e t (test (has d e))))))
    go (no z) =
        let r = some-bit 8 (minus h d) (lt-of-bits 8 (minus h d) (λ e t. bit-lt 8 h e l (bit e t).0)) z in
        let b = bit r.0 r.2 in
        (r.0, r.1, b.0, b.1)

-- ---- in one word
pub fewer-none : (l : ℕ) → Fewer l 0 0
fewer-none l = record { only = λ d t. absurd (false≢true (sym (has-none d) ∙ t)); each = λ i k. absurd (omega arith) }

module _ (l i w s r : ℕ) (b : Bool) (es : s ≡ minus l (2 ^ i)) (eb : b ≡ has l i) (er : r ≡ cond b (insert w s) w) (f : Fewer l i w) where
  pub fewer-more : Fewer l (i + 1) r
  fewer-more = record { only = λ d t. only d (or_cases (has w d) (has l i && eqb s d) (sym (is d) ∙ t)); each = λ j k t. is (minus l (2 ^ j)) ∙ each j k t (ℕ_discrete i j) }
    where
      is : (d : ℕ) → has r d ≡ has w d || (has l i && eqb s d)
      is d = ap (λ (x : ℕ). has x d) (er ∙ ap (λ (x : Bool). cond x (insert w s) w) eb) ∙ has-if w s d (has l i)

      only : (d : ℕ) → (has w d ≡ true) ⊎ (has l i && eqb s d ≡ true) → (j : ℕ) × (j < i + 1) × (has l j ≡ true) × (d ≡ minus l (2 ^ j))
      only d (inl t) = let q = f.only d t in (q.0, omega (arith, q.1), q.2, q.3)
      only d (inr t) = (i, omega arith, and_l (has l i) (eqb s d) t, sym (eqb≡ s d (and_r (has l i) (eqb s d) t)) ∙ es)

      each : (j : ℕ) → j < i + 1 → has l j ≡ true → Dec (i ≡ j) → has w (minus l (2 ^ j)) || (has l i && eqb s (minus l (2 ^ j))) ≡ true
      each j k t (yes q) = or_right (has w (minus l (2 ^ j))) (has l i && eqb s (minus l (2 ^ j))) (both (has l i) (eqb s (minus l (2 ^ j))) (ap (has l) q ∙ t) (≡eqb s (minus l (2 ^ j)) (es ∙ ap (λ (x : ℕ). minus l (2 ^ x)) q)))
      each j k t (no q) = or_left (has w (minus l (2 ^ j))) (has l i && eqb s (minus l (2 ^ j))) (f.each j (omega arith) t)

-- ---- in a collection
-- t is t₀ with sets properly inside h, among them each that is h without a colour below i, if `within` has it
pub record Adding (within t₀ : List ℕ) (h : ℕ) (t : List ℕ) (i : ℕ) : Type 0 where
  pub long : length t ≡ 4
  pub kept : (d : ℕ) → d < 256 → has_set t₀ d ≡ true → has_set t d ≡ true
  pub only : (d : ℕ) → d < 256 → has_set t d ≡ true → (has_set t₀ d ≡ true) ⊎ ((inside d h ≡ true) × (d < h))
  pub added : (j : ℕ) → j < i → has h j ≡ true → has_set within (minus h (2 ^ j)) ≡ true → has_set t (minus h (2 ^ j)) ≡ true

-- the first six colours, in the word of h
module _ (within t : List ℕ) (h k w : ℕ) (long : length t ≡ 4) (small : h < 256) (ek : k ≡ h / 64) (f : Fewer (h % 64) 6 w) where
  abbrev pub here : List ℕ
  here = set t k (bit_or (get_or t k 0) (bit_and w (get_or within k 0)))

  near : k < length t
  near = omega arith

  in-word : (d : ℕ) → d / 64 ≡ k → has_set here d ≡ has_set t d || (has w (d % 64) && has_set within d)
  in-word d q =
      stored_here t k (bit_or (get_or t k 0) (bit_and w (get_or within k 0))) d near q
      ∙ has-or (d % 64) (get_or t k 0) (bit_and w (get_or within k 0))
      ∙ ap₂ ◌||◌ (set-in t k d q) (has-and (d % 64) w (get_or within k 0) ∙ ap (λ (x : Bool). has w (d % 64) && x) (set-in within k d q))

  pub adding-here : Adding within t h here 6
  adding-here = record { long = simp length-set long; kept = λ d _ t. kept d t (ℕ_discrete (d / 64) k); only = λ d _ t. only d t (ℕ_discrete (d / 64) k); added = added }
    where
      kept : (d : ℕ) → has_set t d ≡ true → Dec (d / 64 ≡ k) → has_set here d ≡ true
      kept d u (yes q) = in-word d q ∙ or_left (has_set t d) (has w (d % 64) && has_set within d) u
      kept d u (no q) = stored-elsewhere t k (bit_or (get_or t k 0) (bit_and w (get_or within k 0))) d near q ∙ u

      fewer : (d : ℕ) → d / 64 ≡ k → has w (d % 64) ≡ true → (inside d h ≡ true) × (d < h)
      fewer d q u =
          let r = f.only (d % 64) u in
          let i = r.0 in
          let e : minus h (2 ^ i) ≡ d = omega (arith, fewer-word h i r.1, fewer-place h i r.1, r.3, div-add-mod' d 64, div-add-mod' (minus h (2 ^ i)) 64) in
          subst (λ (x : ℕ). (inside x h ≡ true) × (x < h)) e (fewer-inside h i, fewer-lt h i (sym (has-mod 6 i h r.1) ∙ r.2))

      only : (d : ℕ) → has_set here d ≡ true → Dec (d / 64 ≡ k) → (has_set t d ≡ true) ⊎ ((inside d h ≡ true) × (d < h))
      only d u (no q) = inl (sym (stored-elsewhere t k (bit_or (get_or t k 0) (bit_and w (get_or within k 0))) d near q) ∙ u)
      only d u (yes q) = go (or_cases (has_set t d) (has w (d % 64) && has_set within d) (sym (in-word d q) ∙ u))
        where
          go : (has_set t d ≡ true) ⊎ (has w (d % 64) && has_set within d ≡ true) → (has_set t d ≡ true) ⊎ ((inside d h ≡ true) × (d < h))
          go (inl v) = inl v
          go (inr v) = inr (fewer d q (and_l (has w (d % 64)) (has_set within d) v))

      added : (j : ℕ) → j < 6 → has h j ≡ true → has_set within (minus h (2 ^ j)) ≡ true → has_set here (minus h (2 ^ j)) ≡ true
      added j l u v =
          let s = minus h (2 ^ j) in
          in-word s (fewer-word h j l ∙ sym ek)
          ∙ or_right (has_set t s) (has w (s % 64) && has_set within s)
          (both (has w (s % 64)) (has_set within s) (ap (has w) (fewer-place h j l) ∙ f.each j l (has-mod 6 j h l ∙ u)) v)

module _ (within t₀ : List ℕ) (h : ℕ) (t : List ℕ) (i : ℕ) (small : h < 256) where
  -- one colour more
  pub adding-more : Adding within t₀ h t i → (u : List ℕ) → length u ≡ 4 → ((d : ℕ) → d < 256 → has_set u d ≡ has_set t d || ((has h i && has_set within (minus h (2 ^ i))) && eqb d (minus h (2 ^ i)))) → Adding within t₀ h u (i + 1)
  adding-more inv u long is = record { long = long; kept = λ d m k. keeps d m (inv.kept d m k); only = λ d m k. only d m (or_cases (has_set t d) (b && eqb d s) (sym (is d m) ∙ k)); added = λ j lj k w. added j k w (ℕ_discrete i j) lj }
    where
      s : ℕ
      s = minus h (2 ^ i)

      b : Bool
      b = has h i && has_set within s

      keeps : (d : ℕ) → d < 256 → has_set t d ≡ true → has_set u d ≡ true
      keeps d m k = is d m ∙ or_left (has_set t d) (b && eqb d s) k

      only : (d : ℕ) → d < 256 → (has_set t d ≡ true) ⊎ (b && eqb d s ≡ true) → (has_set t₀ d ≡ true) ⊎ ((inside d h ≡ true) × (d < h))
      only d m (inl k) = inv.only d m k
      only d m (inr k) =
          let q : s ≡ d = sym (eqb≡ d s (and_r b (eqb d s) k)) in
          inr (subst (λ (x : ℕ). (inside x h ≡ true) × (x < h)) q (fewer-inside h i, fewer-lt h i (and_l (has h i) (has_set within s) (and_l b (eqb d s) k))))

      added : (j : ℕ) → has h j ≡ true → has_set within (minus h (2 ^ j)) ≡ true → Dec (i ≡ j) → j < i + 1 → has_set u (minus h (2 ^ j)) ≡ true
      added j k w (yes q) lj =
          let e : minus h (2 ^ j) ≡ s = ap (λ (x : ℕ). minus h (2 ^ x)) (sym q) in
          let on : b ≡ true = both (has h i) (has_set within s) (ap (has h) q ∙ k) (ap (has_set within) (sym e) ∙ w) in
          ap (has_set u) e ∙ is s (omega (arith, fewer-le h i)) ∙ or_right (has_set t s) (b && eqb s s) (both b (eqb s s) on (≡eqb s s refl))
      added j k w (no q) lj = keeps (minus h (2 ^ j)) (omega (arith, fewer-le h j)) (inv.added j (omega arith) k w)

  -- all of them
  pub adding-all : ((j : ℕ) → has h j ≡ true → j < i) → Adding within t₀ h t i → Smaller within t₀ h t
  adding-all all-below inv = record { long = inv.long; kept = inv.kept; only = inv.only; some = some }
    where
      some : (d : ℕ) → inside d h ≡ true → d ≢ h → ((s : ℕ) → s < 256 → inside d s ≡ true → inside s h ≡ true → has_set within s ≡ true) → (s : ℕ) × (s < h) × (inside d s ≡ true) × (has_set t s ≡ true)
      some d k n all =
          let r = lacking d h small k n in
          let s = minus h (2 ^ r.0) in
          let lt : s < h = fewer-lt h r.0 r.2 in
          let up : inside d s ≡ true = inside-fewer d h r.0 k r.3 in
          (s, lt, up, inv.added r.0 (all-below r.0 r.2) r.2 (all s (omega arith) up (fewer-inside h r.0)))
