-- The law of `largest`: its members, and that each member of a list lies inside one of its largest; a list that keeps only largest ones,
-- and one above each member, is the list of the largest in sibling order. Assumes nothing.
use Prim.Native.Nat.{ℕ, ◌≤◌}
use native.Mathlib.Omega.{arith}
use mathlib.Core.Path.{◌≡◌, sym, ap, ◌∙◌}
use mathlib.Core.Logic.{◌⊎◌, inl, inr}
use mathlib.Core.Bool.{true, false, not, true≢false}
use mathlib.Core.List.Memᴰ
use mathlib.Core.List.{List, Memᴰ}
use lib.Dec.{eqb}
use lib.ListN.{length}
use Rattle.lists.specs.Lists.{any, Distinct}
use Rattle.lists.proofs.Bools.{test, eqb≡, both, not-true}
use Rattle.lists.proofs.Lists.{some-any, none_any, none_true, filter-mem, mem-filter}
use Rattle.lists.proofs.Filters.{filter-few}
use Rattle.lists.proofs.Distinct.{distinct_filter}
use Rattle.lists.proofs.Least.{greatest}
use Rattle.masks.specs.Masks.{inside, properly}
use Rattle.masks.proofs.Bits.{inside-refl, inside-trans, inside-le, properly-lt, properly-inside}
use Rattle.forest.specs.Forest.{in_order, largest}
use Rattle.forest.specs.Laws.{Ordered}
use Rattle.forest.proofs.Order.{order-mem, mem-order, length-order, distinct-ordered, ordered_same}

pub largest-mem : (l : List ℕ) (x : ℕ) → Memᴰ x (largest l) → Memᴰ x l × ((y : ℕ) → Memᴰ y l → properly x y ≡ false)
unfolding largest
largest-mem l x m =
    let r = filter-mem (λ (z : ℕ). not (any (properly z) l)) l x m in
    (r.0, none_any (properly x) l (not-true (any (properly x) l) r.1))

pub mem-largest : (l : List ℕ) (x : ℕ) → Memᴰ x l → ((y : ℕ) → Memᴰ y l → properly x y ≡ false) → Memᴰ x (largest l)
unfolding largest
mem-largest l x m h = mem-filter (λ (z : ℕ). not (any (properly z) l)) l x m (ap not (none_true (properly x) l h))

distinct-largest : (l : List ℕ) → Distinct l → Distinct (largest l)
unfolding largest
distinct-largest l d = distinct_filter (λ (x : ℕ). not (any (properly x) l)) l d

-- inside, and not properly: equal
pub inside-same : (x y : ℕ) → inside x y ≡ true → properly x y ≡ false → x ≡ y
unfolding properly
inside-same x y t f = go (test (eqb x y))
  where
    go : (eqb x y ≡ true) ⊎ (eqb x y ≡ false) → x ≡ y
    go (inl e) = eqb≡ x y e
    go (inr e) = absurd (true≢false (sym (both (inside x y) (not (eqb x y)) t (ap not e)) ∙ f))

-- ---- each member lies inside a largest one
pub in-largest : (l : List ℕ) (x : ℕ) → Memᴰ x l → (y : ℕ) × Memᴰ y (largest l) × (inside x y ≡ true)
in-largest l x m = go (greatest (inside x) l (some-any (inside x) l x m (inside-refl x)))
  where
    go : ((y : ℕ) × Memᴰ y l × (inside x y ≡ true) × ((z : ℕ) → Memᴰ z l → inside x z ≡ true → z ≤ y)) → (y : ℕ) × Memᴰ y (largest l) × (inside x y ≡ true)
    go b = (b.0, mem-largest l b.0 b.1 (λ z k. no_more z k (test (properly b.0 z))), b.2)
      where
        no_more : (z : ℕ) → Memᴰ z l → (properly b.0 z ≡ true) ⊎ (properly b.0 z ≡ false) → properly b.0 z ≡ false
        no_more z k (inl t) = absurd (omega (arith, properly-lt b.0 z t, b.3 z k (inside-trans x b.0 z b.2 (properly-inside b.0 z t))))
        no_more z k (inr f) = f

-- ---- the largest in sibling order
pub largest-order-mem : (l : List ℕ) (x : ℕ) → Memᴰ x (in_order (largest l)) → Memᴰ x l × ((y : ℕ) → Memᴰ y l → properly x y ≡ false)
largest-order-mem l x k = largest-mem l x (order-mem (largest l) x k)

pub in-largest-order : (l : List ℕ) (x : ℕ) → Memᴰ x l → (y : ℕ) × Memᴰ y (in_order (largest l)) × (inside x y ≡ true)
in-largest-order l x m = let r = in-largest l x m in (r.0, mem-order (largest l) r.0 r.1, r.2)

pub largest-few : (l : List ℕ) → length (in_order (largest l)) ≤ length l
unfolding largest
largest-few l = omega (arith, length-order (largest l), filter-few (λ (x : ℕ). not (any (properly x) l)) l)

pub largest-ordered : (l : List ℕ) → Distinct l → Ordered (in_order (largest l))
largest-ordered l d = distinct-ordered (largest l) (distinct-largest l d)

-- what a search for the largest of l keeps: members of l, each member of l inside one of them, none properly inside another
module _ (l kept : List ℕ) (part : (x : ℕ) → Memᴰ x kept → Memᴰ x l) (above : (x : ℕ) → Memᴰ x l → (y : ℕ) × Memᴰ y kept × (inside x y ≡ true))
    (apart : (x y : ℕ) → Memᴰ x kept → Memᴰ y kept → properly x y ≡ false) where
  kept-largest : (x : ℕ) → Memᴰ x kept → Memᴰ x (largest l)
  kept-largest x k = mem-largest l x (part x k) (λ z m. go z m (test (properly x z)))
    where
      go : (z : ℕ) → Memᴰ z l → (properly x z ≡ true) ⊎ (properly x z ≡ false) → properly x z ≡ false
      go z m (inl t) =
          let y = above z m in
          let e : x ≡ y.0 = inside-same x y.0 (inside-trans x z y.0 (properly-inside x z t) y.2) (apart x y.0 k y.1) in
          absurd (omega (arith, properly-lt x z t, inside-le z y.0 y.2))
      go z m (inr f) = f

  largest-kept : (x : ℕ) → Memᴰ x (largest l) → Memᴰ x kept
  largest-kept x k =
      let a = largest-mem l x k in
      let y = above x a.0 in
      Memᴰ.cast (inside-same x y.0 y.2 (a.1 y.0 (part y.0 y.1))) y.1

  pub kept_is : Distinct l → Ordered kept → kept ≡ in_order (largest l)
  kept_is d o =
      ordered_same kept (in_order (largest l)) o (largest-ordered l d) (λ x k. mem-order (largest l) x (kept-largest x k)) (λ x k. largest-kept x (order-mem (largest l) x k))
