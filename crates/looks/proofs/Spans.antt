-- The span of a colour set: the sets from its upper colours up to it have these, and lie inside it. And what is asked of its sets, one after the other. Assumes nothing.
use Prim.Native.Nat.{ℕ, ◌+◌, ◌-◌, ◌*◌, ◌/◌, ◌%◌, ◌^◌, ◌≤◌, ◌<◌}
use native.Mathlib.Omega.{arith}
use native.Mathlib.Decide.{ℕ_discrete, dec_lt}
use native.Mathlib.Nat.{mod-lt, div-add-mod', add-mod-mod, add-zero}
use mathlib.Core.Path.{◌≡◌, refl, sym, ap, ◌∙◌, subst}
use mathlib.Core.Logic.{◌⊎◌, inl, inr}
use mathlib.Core.Bool.{Bool, true, false, not, ◌&&◌, ◌||◌, cond, true≢false, false≢true, beq}
use mathlib.Core.List.{List}
use lib.Arith.{digits_div, digits_mod}
use lib.Bits.{bit_and}
use lib.Dec.{eqb}
use lib.ListN.{get_or}
use lib.Pow.{shr-shr, pow_pos}
use Rattle.lists.specs.Lists.{any, all, below}
use Rattle.lists.proofs.Bools.{eqb≡, and_l, and_r, or_cases, or_left}
use Rattle.lists.proofs.Lists.{any_some, all-each, mem_below, below-lt}
use Rattle.masks.specs.Masks.{has, insert, inside}
use Rattle.masks.proofs.Bits.{has-mod, has-none, has-insert, inside-all, all-inside, inside-refl}
use Rattle.candidates.specs.Candidates.{is_open}
use Rattle.candidates.proofs.Live.{closed-more}
use Rattle.looks.specs.Spans.{lowest, upper}

-- ---- by trying all numbers of 8 bits
-- a number and its negative have the lowest bit in common, of which it is a multiple
is_lowest : ℕ → ℕ → Bool
is_lowest m k = eqb (bit_and m (256 - m)) (2 ^ k) && eqb (m % 2 ^ k) 0

all-lowest : all (λ (m : ℕ). any (is_lowest (m + 1)) (below 8)) (below 255) ≡ true
unfolding is_lowest
all-lowest = refl

lowest-power : (m : ℕ) → 0 < m → m < 256 → (k : ℕ) × (k < 8) × (bit_and m (256 - m) ≡ 2 ^ k) × (m % 2 ^ k ≡ 0)
unfolding is_lowest
lowest-power m h g =
    let t = all-each (λ (j : ℕ). any (is_lowest (j + 1)) (below 8)) (below 255) all-lowest (m - 1) (mem_below 255 (m - 1) (omega arith)) in
    let e : m - 1 + 1 ≡ m = omega arith in
    let r = any_some (is_lowest m) (below 8) (subst (λ (j : ℕ). any (is_lowest j) (below 8) ≡ true) e t) in
    (r.0, below-lt 8 r.0 r.1, eqb≡ (bit_and m (256 - m)) (2 ^ r.0) (and_l (eqb (bit_and m (256 - m)) (2 ^ r.0)) (eqb (m % 2 ^ r.0) 0) r.2), eqb≡ (m % 2 ^ r.0) 0 (and_r (eqb (bit_and m (256 - m)) (2 ^ r.0)) (eqb (m % 2 ^ r.0) 0) r.2))

-- the bits from one on
all-cut : all (λ (k : ℕ). all (λ (c : ℕ). eqb (bit_and c (256 - 2 ^ k)) (c - c % 2 ^ k)) (below 256)) (below 8) ≡ true
all-cut = refl

cut-is : (k c : ℕ) → k < 8 → c < 256 → bit_and c (256 - 2 ^ k) ≡ c - c % 2 ^ k
cut-is k c h g =
    eqb≡ (bit_and c (256 - 2 ^ k)) (c - c % 2 ^ k)
    (all-each (λ (d : ℕ). eqb (bit_and d (256 - 2 ^ k)) (d - d % 2 ^ k)) (below 256) (all-each (λ (j : ℕ). all (λ (d : ℕ). eqb (bit_and d (256 - 2 ^ j)) (d - d % 2 ^ j)) (below 256)) (below 8) all-cut k (mem_below 8 k h)) c (mem_below 256 c g))

-- ---- the bits below one, and from it on
has-from : (k e x : ℕ) → has x (k + e) ≡ has (x / 2 ^ k) e
unfolding has
has-from k e x = ap (λ (y : ℕ). eqb (y % 2) 1) (sym (shr-shr x k e))

-- ---- the span
module _ (u c : ℕ) (h : c < u) (g : u < 256) where
  power : (k : ℕ) × (k < 8) × (lowest u c ≡ 2 ^ k) × ((u - c) % 2 ^ k ≡ 0)
  unfolding lowest
  power = lowest-power (u - c) (omega arith) (omega arith)

  pub lowest-some : (0 < lowest u c) × (lowest u c ≤ 255)
  lowest-some = go power.0 power.1 power.2
    where
      go : (k : ℕ) → k < 8 → lowest u c ≡ 2 ^ k → (0 < lowest u c) × (lowest u c ≤ 255)
      go k l e = let b : 2 ^ k < 2 ^ 8 = lib.Pow.pow-lt l in (omega (arith, e, pow_pos k), omega (arith, e, b))

  upper_is : upper u c ≡ c - c % 2 ^ power.0
  unfolding upper
  upper_is = ap (λ (l : ℕ). bit_and c (256 - l)) power.2 ∙ cut-is power.0 c power.1 (omega arith)

  pub upper-le : upper u c ≤ c
  upper-le = omega (arith, upper_is)

  module _ (x : ℕ) (i : inside x u ≡ true) (low : upper u c ≤ x) (high : x ≤ c) where
    abbrev w : ℕ
    w = 2 ^ power.0

    rest : c % w < w
    rest = mod-lt c (pow_pos power.0)

    same-high : x / w ≡ c / w
    same-high =
        let d = div-add-mod' c w in
        let r : x - c / w * w < w = omega (arith, d, rest, high) in
        let e : x ≡ c / w * w + (x - c / w * w) = omega (arith, d, low, upper_is) in
        ap (λ (y : ℕ). y / w) e ∙ digits_div (c / w) r

    same_low : u % w ≡ c % w
    same_low =
        let e : c + (u - c) ≡ u = omega arith in
        ap (λ (y : ℕ). y % w) (sym e) ∙ sym (add-mod-mod c (u - c) w) ∙ ap (λ (y : ℕ). (c + y) % w) power.3 ∙ ap (λ (y : ℕ). y % w) (add-zero c)

    upper-high : upper u c ≡ c / w * w + 0
    upper-high = omega (arith, upper_is, div-add-mod' c w)

    pub span-has : inside (upper u c) x ≡ true
    span-has = all-inside (upper u c) x (λ e t. go e t (dec_lt e power.0))
      where
        go : (e : ℕ) → has (upper u c) e ≡ true → Dec (e < power.0) → has x e ≡ true
        go e t (yes l) =
            absurd (false≢true (sym (has-none e) ∙ ap (λ (y : ℕ). has y e) (sym (ap (λ (y : ℕ). y % w) upper-high ∙ digits_mod (c / w) (pow_pos power.0))) ∙ has-mod power.0 e (upper u c) l ∙ t))
        go e t (no l) =
            let s : power.0 + (e - power.0) ≡ e = omega arith in
            let at : (y : ℕ) → has y e ≡ has (y / w) (e - power.0) = λ y. ap (has y) (sym s) ∙ has-from power.0 (e - power.0) y in
            at x ∙ ap (λ (y : ℕ). has y (e - power.0)) (same-high ∙ sym (ap (λ (y : ℕ). y / w) upper-high ∙ digits_div (c / w) (pow_pos power.0))) ∙ sym (at (upper u c)) ∙ t

    pub span-in : inside x c ≡ true
    span-in = all-inside x c (λ e t. go e t (dec_lt e power.0))
      where
        go : (e : ℕ) → has x e ≡ true → Dec (e < power.0) → has c e ≡ true
        go e t (yes l) = sym (has-mod power.0 e c l) ∙ ap (λ (y : ℕ). has y e) (sym same_low) ∙ has-mod power.0 e u l ∙ inside-all x u i e t
        go e t (no l) =
            let s : power.0 + (e - power.0) ≡ e = omega arith in
            let at : (y : ℕ) → has y e ≡ has (y / w) (e - power.0) = λ y. ap (has y) (sym s) ∙ has-from power.0 (e - power.0) y in
            at c ∙ ap (λ (y : ℕ). has y (e - power.0)) (sym same-high) ∙ sym (at x) ∙ t

-- ---- one colour more
pub coloured : (u c i : ℕ) {b : Bool} {r : ℕ} → b ≡ has u i → inside c u ≡ true → r ≡ cond b (insert c i) c → (inside c r ≡ true) × (inside r u ≡ true)
coloured u c i {b} {r} e k q = go b e q
  where
    go : (b : Bool) → b ≡ has u i → r ≡ cond b (insert c i) c → (inside c r ≡ true) × (inside r u ≡ true)
    go false e q = (subst (λ (x : ℕ). inside c x ≡ true) (sym q) (inside-refl c), subst (λ (x : ℕ). inside x u ≡ true) (sym q) k)
    go true e q = (
      subst (λ (x : ℕ). inside c x ≡ true) (sym q) (all-inside c (insert c i) (λ d t. has-insert c i d ∙ or_left (has c d) (eqb i d) t)),
      subst (λ (x : ℕ). inside x u ≡ true) (sym q) (all-inside (insert c i) u (λ d t. more d (or_cases (has c d) (eqb i d) (sym (has-insert c i d) ∙ t)))),
    )
      where
        more : (d : ℕ) → (has c d ≡ true) ⊎ (eqb i d ≡ true) → has u d ≡ true
        more d (inl t) = inside-all c u k d t
        more d (inr t) = ap (has u) (sym (eqb≡ i d t)) ∙ sym e

-- ---- all have one verdict, and the next one
pub uniform-next : (family : List Bool) (from s c : ℕ) (v : Bool) {same i : Bool} → i ≡ inside s c
    → (same ≡ true → (x : ℕ) → from ≤ x → x < s → inside x c ≡ true → get_or family x false ≡ v)
    → same && (beq (get_or family s false) v || not i) ≡ true → (x : ℕ) → from ≤ x → x < s + 1 → inside x c ≡ true → get_or family x false ≡ v
uniform-next family from s c v {same} {i} ei before t x a b k = go (ℕ_discrete x s)
  where
    equal : (y z i : Bool) → beq y z || not i ≡ true → i ≡ true → y ≡ z
    equal true true i e q = refl
    equal true false true e q = absurd (false≢true e)
    equal true false false e q = absurd (false≢true q)
    equal false true true e q = absurd (false≢true e)
    equal false true false e q = absurd (false≢true q)
    equal false false i e q = refl

    go : Dec (x ≡ s) → get_or family x false ≡ v
    go (yes e) = ap (λ (y : ℕ). get_or family y false) e ∙ equal (get_or family s false) v i (and_r same (beq (get_or family s false) v || not i) t) (ei ∙ ap (λ (y : ℕ). inside y c) (sym e) ∙ k)
    go (no e) = before (and_l same (beq (get_or family s false) v || not i) t) x a (omega arith) k

-- ---- what is passed of a span
pub span-passed : (family : List Bool) (quiet up first s c : ℕ) (v : Bool) (hues : List ℕ) (k : ℕ) → (up ≤ first) × (up < first → (up ≡ 0) × (first ≡ 1) × (quiet ≡ 0))
    → ((x : ℕ) → first ≤ x → x < c → inside x c ≡ true → get_or family x false ≡ v) → is_open up hues k ≡ false → up ≤ s → s < c → inside up s ≡ true → inside s c ≡ true
    → ((s ≡ 0) × (quiet ≡ 0)) ⊎ ((get_or family s false ≡ v) × (is_open s hues k ≡ false))
span-passed family quiet up first s c v hues k f alike o a b i j = go (dec_lt s first)
  where
    go : Dec (s < first) → ((s ≡ 0) × (quiet ≡ 0)) ⊎ ((get_or family s false ≡ v) × (is_open s hues k ≡ false))
    go (yes l) = let q = f.1 (omega (arith, a, l)) in inl (omega (arith, l, q.1), q.2)
    go (no l) = inr (alike s (omega (arith, l)) b j, closed-more up s hues k i o)

-- all sets below the colours of the root
pub below_alike : (family : List Bool) (quiet first used : ℕ) → (0 ≤ first) × (0 < first → (◌≡◌ {A = ℕ} 0 0) × (first ≡ 1) × (quiet ≡ 0))
    → ((x : ℕ) → first ≤ x → x < used → inside x used ≡ true → get_or family x false ≡ get_or family used false)
    → (s : ℕ) → s < used → inside s used ≡ true → ((s ≡ 0) × (quiet ≡ 0)) ⊎ (get_or family s false ≡ get_or family used false)
below_alike family quiet first used f alike s b i = go (dec_lt s first)
  where
    go : Dec (s < first) → ((s ≡ 0) × (quiet ≡ 0)) ⊎ (get_or family s false ≡ get_or family used false)
    go (yes l) = let q = f.1 (omega (arith, l)) in inl (omega (arith, l, q.1), q.2)
    go (no l) = inr (alike s (omega (arith, l)) b i)

-- ---- in turn
pub above-next : (u c h : ℕ) {a b : Bool} → a ≡ inside u h → b ≡ inside c h → a && not b ≡ false → inside u h ≡ true → inside c h ≡ true
above-next u c h {a} {b} ea eb f t = sym eb ∙ go a b f (ea ∙ t)
  where
    go : (a b : Bool) → a && not b ≡ false → a ≡ true → b ≡ true
    go true true f e = refl
    go true false f e = absurd (true≢false f)
    go false b f e = absurd (false≢true e)

pub one_more : (P : ℕ → Type 0) (i : ℕ) → ((j : ℕ) → j < i → P j) → P i → (j : ℕ) → j < i + 1 → P j
one_more P i before this j b = go (ℕ_discrete j i)
  where
    go : Dec (j ≡ i) → P j
    go (yes e) = subst P (sym e) this
    go (no e) = before j (omega (arith, b, e))

pub past_next : (col : ℕ → ℕ) (U : ℕ → Type 0) (i left left' c : ℕ) → left ≤ left' → (left < c → (j : ℕ) → j < i → (col j < left) ⊎ U j) → (left' < c → (col i < left') ⊎ U i)
    → left' < c → (j : ℕ) → j < i + 1 → (col j < left') ⊎ U j
past_next col U i left left' c l before this h j b = go (ℕ_discrete j i)
  where
    more : (col j < left) ⊎ U j → (col j < left') ⊎ U j
    more (inl q) = inl (omega (arith, q, l))
    more (inr q) = inr q

    go : Dec (j ≡ i) → (col j < left') ⊎ U j
    go (yes e) = subst (λ (x : ℕ). (col x < left') ⊎ U x) (sym e) (this h)
    go (no e) = more (before (omega (arith, h, l)) j (omega (arith, b, e)))
