-- What listing a colour set rests on: where its cycles stand, that those listed before stay, and that there is room for every set. Assumes nothing.
use Prim.Native.Nat.{ℕ, zero, suc, ◌+◌, ◌-◌, ◌*◌, ◌≤◌, ◌<◌}
use native.Mathlib.Omega.{arith}
use native.Mathlib.Decide.{ℕ_discrete, dec_lt}
use mathlib.Core.Path.{◌≡◌, refl, sym, ap, ap₂, ◌∙◌, subst, fun_ext}
use mathlib.Core.Logic.{◌≢◌}
use mathlib.Core.Bool.{true, cond}
use mathlib.Core.List.{List, Memᴰ}
use lib.Dec.{eqb}
use lib.ListN.{length, get_or, set, length-set}
use lib.Seq.{get_or-set_same, get_or-set_other}
use Rattle.lists.proofs.Bools.{≡eqb, neqb}
use Rattle.policy.specs.declared.Policy.{Policy}
use Rattle.policy.specs.Policies.{colours_of, legal}
use Rattle.policy.specs.ByColour.{by_colour, edges_in, table_edges, table_colours}
use Rattle.policy.proofs.ByColour.{table-edges-are, table-colours-are}
use Rattle.components.specs.Components.{largest_in}
use Rattle.pool.specs.Pool.{Lists, SpanOf, listed_to, Pool, Extends, Appended, SetListed}

-- ---- how many sets are listed
-- 1 for a set that is listed
unfoldable counted : ℕ → ℕ
counted x = cond (eqb x 0) 0 1

counted_none : (x : ℕ) → x ≡ 0 → counted x ≡ 0
unfolding counted
counted_none x e = rw (≡eqb x 0 e) refl

counted-one : (x : ℕ) → x ≢ 0 → counted x ≡ 1
unfolding counted
counted-one x e = rw (neqb x 0 e) refl

counted-few : (x : ℕ) → Dec (x ≡ 0) → counted x ≤ 1
counted-few x (yes e) = omega (arith, counted_none x e)
counted-few x (no e) = omega (arith, counted-one x e)

listed_next : (spans : List ℕ) (n : ℕ) → listed_to spans (suc n) ≡ listed_to spans n + counted (get_or spans (2 * n + 1) 0)
unfolding listed_to counted
listed_next spans n = refl

module _ (spans : List ℕ) where
  listed-most : (n : ℕ) → listed_to spans n ≤ n
  unfolding listed_to
  listed-most zero = omega arith
  listed-most (suc n) = omega (arith, listed_next spans n, listed-most n, counted-few (get_or spans (2 * n + 1) 0) (ℕ_discrete (get_or spans (2 * n + 1) 0) 0))

  -- one is not
  pub listed-few : (s n : ℕ) → s < n → get_or spans (2 * s + 1) 0 ≡ 0 → listed_to spans n + 1 ≤ n
  unfolding listed_to
  listed-few s zero h e = absurd (omega arith)
  listed-few s (suc n) h e = go (ℕ_discrete s n) (listed-few s n)
    where
      go : Dec (s ≡ n) → (s < n → get_or spans (2 * s + 1) 0 ≡ 0 → listed_to spans n + 1 ≤ n) → listed_to spans (suc n) + 1 ≤ suc n
      go (yes d) ih = omega (arith, listed_next spans n, listed-most n, counted_none (get_or spans (2 * n + 1) 0) (ap (λ (k : ℕ). get_or spans (2 * k + 1) 0) (sym d) ∙ e))
      go (no d) ih = omega (arith, listed_next spans n, ih (omega arith) e, counted-few (get_or spans (2 * n + 1) 0) (ℕ_discrete (get_or spans (2 * n + 1) 0) 0))

module _ (spans spans' : List ℕ) (s : ℕ) (other : (d : ℕ) → d ≢ s → get_or spans' (2 * d + 1) 0 ≡ get_or spans (2 * d + 1) 0) where
  listed_same : (n : ℕ) → n ≤ s → listed_to spans' n ≡ listed_to spans n
  unfolding listed_to
  listed_same zero h = refl
  listed_same (suc n) h = ap₂ ◌+◌ (listed_same n (omega arith)) (ap (λ (x : ℕ). cond (eqb x 0) 0 1) (other n (λ e. omega arith)))

  listed_more : (n : ℕ) → s < n → get_or spans (2 * s + 1) 0 ≡ 0 → get_or spans' (2 * s + 1) 0 ≢ 0 → listed_to spans' n ≡ listed_to spans n + 1
  unfolding listed_to
  listed_more zero h e f = absurd (omega arith)
  listed_more (suc n) h e f = go (ℕ_discrete n s) (listed_more n)
    where
      go : Dec (n ≡ s) → (s < n → get_or spans (2 * s + 1) 0 ≡ 0 → get_or spans' (2 * s + 1) 0 ≢ 0 → listed_to spans' n ≡ listed_to spans n + 1)
          → listed_to spans' (suc n) ≡ listed_to spans (suc n) + 1
      go (yes d) ih =
          let at : 2 * n + 1 ≡ 2 * s + 1 = omega arith in
          omega (arith, listed_next spans n, listed_next spans' n, listed_same n (omega arith), counted_none (get_or spans (2 * n + 1) 0) (ap (λ (k : ℕ). get_or spans k 0) at ∙ e), counted-one (get_or spans' (2 * n + 1) 0) (λ z. f (ap (λ (k : ℕ). get_or spans' k 0) (sym at) ∙ z)))
      go (no d) ih = omega (arith, listed_next spans n, listed_next spans' n, ih (omega arith) e f, ap counted (other n d))

-- ---- what is listed
-- cycles that are listed stay where they are
lists-extends : {p : Policy} {among m : ℕ} {pool₀ pool : List ℕ} {count₀ count from to : ℕ} → Lists p among m pool₀ from to → to ≤ count₀ → Extends pool₀ count₀ pool count → Lists p among m pool from to
lists-extends {p} {among} {m} {pool₀} {pool} {count₀} {count} {from} {to} l h x = record {
  cycles = λ j a b. subst (λ (z : ℕ). Memᴰ z (largest_in p m)) (sym (x.kept j (omega arith))) (l.cycles j a b);
  all = λ y v k on at. let j = l.all y v k on at in (j.0, j.1, j.2, x.kept j.0 (omega (arith, j.2)) ∙ j.3);
}

pub extends-same : (pool : List ℕ) (count : ℕ) → Extends pool count pool count
extends-same pool count = record { more = omega arith; kept = λ i h. refl }

pub extends-on : {a b c : List ℕ} {i j k : ℕ} → Extends a i b j → Extends b j c k → Extends a i c k
extends-on x y = record { more = omega (arith, x.more, y.more); kept = λ i h. y.kept i (omega (arith, x.more)) ∙ x.kept i h }

-- ---- the pool
-- before any set
pub pool-begins : {p : Policy} (among : ℕ) {pool hues spans : List ℕ} {count : ℕ} → count ≤ 16 → 16 ≤ length pool → length pool ≤ 4096 → length hues ≡ length pool → ((i : ℕ) → i < count → get_or hues i 0 ≡ colours_of p (get_or pool i 0))
    → ((i : ℕ) → get_or spans i 0 ≡ 0) → Pool p among pool hues spans count
pool-begins among few some most one hued none = record {
  long = omega arith;
  most = most;
  hues_long = one;
  hued = hued;
  listed = λ s e. absurd (e (none (2 * s + 1)));
  few = omega arith;
}

-- there is room for one more set
pub pool-room : {p : Policy} {among : ℕ} {pool hues spans : List ℕ} {count : ℕ} → Pool p among pool hues spans count → (s : ℕ) → s < 255 → get_or spans (2 * s + 1) 0 ≡ 0 → 4096 ≤ length pool → count + 16 ≤ length pool
pool-room {spans = spans} l s h e long = omega (arith, l.few, listed-few spans s 255 h e)

module _ {p : Policy} {among : ℕ} {pool₀ hues₀ spans₀ : List ℕ} {count₀ : ℕ} (l : Pool p among pool₀ hues₀ spans₀ count₀) {s : ℕ} {pool hues : List ℕ} {count : ℕ} (a : Appended p among (edges_in p s) pool₀ hues₀ count₀ pool hues count) where
  pub pool-more : count₀ + 16 ≤ length pool₀ → s < 255 → 2 * s + 1 < length spans₀ → get_or spans₀ (2 * s + 1) 0 ≡ 0
      → SetListed p among s pool₀ count₀ pool hues (set (set spans₀ (2 * s) count₀) (2 * s + 1) (count - count₀ + 1)) count
  pool-more room low long new = record {
    pool_is = record {
      long = omega (arith, a.few, a.pool_long);
      most = omega (arith, a.pool_long, l.most);
      hues_long = a.hues_long ∙ l.hues_long ∙ sym a.pool_long;
      hued = λ i h. hued i h (dec_lt i count₀);
      listed = λ d e. go d e (ℕ_discrete d s);
      few = omega (arith, l.few, a.few, listed_more spans₀ spans s other-many 255 low new here);
    };
    extends = a.extends;
    has_span = here;
  }
    where
      spans : List ℕ
      spans = set (set spans₀ (2 * s) count₀) (2 * s + 1) (count - count₀ + 1)

      many-here : get_or spans (2 * s + 1) 0 ≡ count - count₀ + 1
      many-here = get_or-set_same (set spans₀ (2 * s) count₀) (2 * s + 1) (count - count₀ + 1) 0 (omega (arith, length-set spans₀ (2 * s) count₀))

      first-here : get_or spans (2 * s) 0 ≡ count₀
      first-here = get_or-set_other (set spans₀ (2 * s) count₀) (2 * s + 1) (2 * s) (count - count₀ + 1) 0 (λ z. omega arith) ∙ get_or-set_same spans₀ (2 * s) count₀ 0 (omega arith)

      here : get_or spans (2 * s + 1) 0 ≢ 0
      here e = omega (arith, many-here)

      other : (i : ℕ) → i ≢ 2 * s → i ≢ 2 * s + 1 → get_or spans i 0 ≡ get_or spans₀ i 0
      other i a b = get_or-set_other (set spans₀ (2 * s) count₀) (2 * s + 1) i (count - count₀ + 1) 0 b ∙ get_or-set_other spans₀ (2 * s) i count₀ 0 a

      other-many : (d : ℕ) → d ≢ s → get_or spans (2 * d + 1) 0 ≡ get_or spans₀ (2 * d + 1) 0
      other-many d e = other (2 * d + 1) (λ z. omega arith) (λ z. e (omega arith))

      other-first : (d : ℕ) → d ≢ s → get_or spans (2 * d) 0 ≡ get_or spans₀ (2 * d) 0
      other-first d e = other (2 * d) (λ z. e (omega arith)) (λ z. omega arith)

      -- the colours of those before, and of the new ones
      hued : (i : ℕ) → i < count → Dec (i < count₀) → get_or hues i 0 ≡ colours_of p (get_or pool i 0)
      hued i h (yes b) = a.hues_kept i b ∙ l.hued i b ∙ ap (colours_of p) (sym (a.extends.kept i b))
      hued i h (no b) = a.hued i (omega arith) h

      new-span : SpanOf p among pool count s count₀ (count - count₀ + 1)
      new-span =
          let e : count ≡ count₀ + (count - count₀ + 1 - 1) = omega (arith, a.extends.more) in
          record { within = omega arith; lists = subst (λ (k : ℕ). Lists p among (edges_in p s) pool count₀ k) e a.lists }

      old-span : (d : ℕ) → SpanOf p among pool₀ count₀ d (get_or spans₀ (2 * d) 0) (get_or spans₀ (2 * d + 1) 0) → SpanOf p among pool count d (get_or spans₀ (2 * d) 0) (get_or spans₀ (2 * d + 1) 0)
      old-span d o = record { within = omega (arith, o.within, a.extends.more); lists = lists-extends o.lists o.within a.extends }

      go : (d : ℕ) → get_or spans (2 * d + 1) 0 ≢ 0 → Dec (d ≡ s) → SpanOf p among pool count d (get_or spans (2 * d) 0) (get_or spans (2 * d + 1) 0)
      go d e (yes q) = subst (λ (k : ℕ). SpanOf p among pool count k (get_or spans (2 * k) 0) (get_or spans (2 * k + 1) 0)) (sym q) (rw (first-here, many-here) new-span)
      go d e (no q) = rw (other-first d q, other-many d q) (old-span d (l.listed d (λ z. e (other-many d q ∙ z))))

-- ---- what is found
pub hue-is : (p : Policy) → legal p ≡ true → (by : List ℕ) → by ≡ by_colour p → table_colours by ≡ colours_of p
hue-is p legal by e = ap table_colours e ∙ fun_ext (table-colours-are p legal)

pub edges_are : (p : Policy) → legal p ≡ true → (by : List ℕ) → by ≡ by_colour p → (c : ℕ) → table_edges by c ≡ edges_in p c
edges_are p legal by e c = ap (λ (t : List ℕ). table_edges t c) e ∙ table-edges-are p legal c

pub appended-is : {p : Policy} {among m n : ℕ} {pool₀ hues₀ : List ℕ} {count₀ : ℕ} {pool hues : List ℕ} {count : ℕ} → m ≡ n → Appended p among m pool₀ hues₀ count₀ pool hues count → Appended p among n pool₀ hues₀ count₀ pool hues count
appended-is {p} {among} {m} {n} {pool₀} {hues₀} {count₀} {pool} {hues} {count} e a = subst (λ (k : ℕ). Appended p among k pool₀ hues₀ count₀ pool hues count) e a
