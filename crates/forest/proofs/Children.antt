-- The roots and the children of a mask: what they are, that they stand in sibling order, and that a cycle lies inside one of them. A child
-- has fewer edges and fewer colours than its parent. Assumes nothing.
use Prim.Native.Nat.{ℕ, ◌-◌, ◌≤◌, ◌<◌}
use mathlib.Core.Path.{◌≡◌, sym, ap, ◌∙◌}
use mathlib.Core.Logic.{◌⊎◌, inl, inr}
use mathlib.Core.Bool.{Bool, true, false, not}
use mathlib.Core.List.{List, Memᴰ}
use lib.Dec.{eqb}
use lib.Bits.{bit_or}
use lib.Count.{ones, ones-le}
use Rattle.lists.specs.Lists.{Distinct}
use Rattle.lists.proofs.Bools.{neqb, both, or_left, or_right, not_itself, differs-not, differs-other}
use Rattle.lists.proofs.Lists.{filter-mem, mem-filter}
use Rattle.lists.proofs.Distinct.{distinct_filter, distinct-ascending}
use Rattle.lists.specs.Bools.{differs}
use Rattle.masks.specs.Masks.{has, inside, properly}
use Rattle.masks.proofs.Bits.{has-or, inside-all, all-inside, ones-inside}
use Rattle.policy.specs.declared.Policy.{Policy}
use Rattle.policy.specs.Policies.{edges, colours_of, accepting, full}
use Rattle.policy.proofs.Laws.{colours-up, accepting-colours}
use Rattle.graph.specs.Cycles.{is_cycle, contains, cycles_in}
use Rattle.graph.proofs.Cycles.{Targets, cycle-lt, union-cycle}
use Rattle.graph.proofs.Inside.{cycles-mem, mem-cycles, ascending-cycles, inside-full}
use Rattle.forest.specs.Forest.{roots, opposed, children}
use Rattle.forest.specs.Laws.{Ordered}
use Rattle.forest.proofs.Largest.{inside-same, largest-order-mem, in-largest-order, largest-ordered, kept_is}

module _ (p : Policy) where
  -- ---- the cycles inside a mask
  distinct-cycles : (m : ℕ) → Distinct (cycles_in p m)
  distinct-cycles m = distinct-ascending (cycles_in p m) (ascending-cycles p m)

  -- ---- roots
  pub root-cycle : (r : ℕ) → Memᴰ r (roots p) → is_cycle p r ≡ true
  unfolding roots
  root-cycle r k = (cycles-mem p (full p) r (largest-order-mem (cycles_in p (full p)) r k).0).0

  pub root_few : (r : ℕ) → Memᴰ r (roots p) → ones r ≤ edges p
  root_few r k = ones-le (edges p) r (cycle-lt p r (root-cycle r k))

  -- every cycle lies inside some root
  pub in-root : (x : ℕ) → is_cycle p x ≡ true → (r : ℕ) × Memᴰ r (roots p) × (inside x r ≡ true)
  unfolding roots
  in-root x c = in-largest-order (cycles_in p (full p)) x (mem-cycles p (full p) x c (inside-full p x c))

  -- a root lies properly inside no cycle
  pub root-largest : (r x : ℕ) → Memᴰ r (roots p) → is_cycle p x ≡ true → inside r x ≡ true → r ≡ x
  unfolding roots
  root-largest r x k c i = inside-same r x i ((largest-order-mem (cycles_in p (full p)) r k).1 x (mem-cycles p (full p) x c (inside-full p x c)))

  -- two roots that contain a common state are one: together they are a cycle
  pub root-unique : Targets p → (r s : ℕ) → Memᴰ r (roots p) → Memᴰ s (roots p) → (v : ℕ) → contains p v r ≡ true → contains p v s ≡ true → r ≡ s
  root-unique ts r s kr ks v cr cs =
      root-largest r (bit_or r s) kr one (all-inside r (bit_or r s) (λ e t. has-or e r s ∙ or_left (has r e) (has s e) t))
      ∙ sym (root-largest s (bit_or r s) ks one (all-inside s (bit_or r s) (λ e t. has-or e r s ∙ or_right (has r e) (has s e) t)))
    where
      one : is_cycle p (bit_or r s) ≡ true
      one = union-cycle p ts r s (root-cycle r kr) (root-cycle s ks) v cr cs

  pub ordered-roots : Ordered (roots p)
  unfolding roots
  ordered-roots = largest-ordered (cycles_in p (full p)) (distinct-cycles (full p))

  -- a list of cycles in sibling order, none properly inside another, with one above each cycle: the roots
  pub roots-are : (kept : List ℕ) → ((x : ℕ) → Memᴰ x kept → is_cycle p x ≡ true)
      → ((x : ℕ) → is_cycle p x ≡ true → (y : ℕ) × Memᴰ y kept × (inside x y ≡ true))
      → ((x y : ℕ) → Memᴰ x kept → Memᴰ y kept → properly x y ≡ false) → Ordered kept → kept ≡ roots p
  unfolding roots
  roots-are kept part above apart o =
      kept_is (cycles_in p (full p)) kept (λ x k. mem-cycles p (full p) x (part x k) (inside-full p x (part x k))) (λ x k. above x (cycles-mem p (full p) x k).0) apart (distinct-cycles (full p)) o

  -- ---- the cycles inside a mask with the other verdict
  abbrev other : ℕ → ℕ → Bool
  other m x = differs (accepting p m) (accepting p x)

  pub opposed-mem : (m x : ℕ) → Memᴰ x (opposed p m) → (is_cycle p x ≡ true) × (inside x m ≡ true) × (accepting p x ≡ not (accepting p m))
  unfolding opposed
  opposed-mem m x k =
      let r = filter-mem (other m) (cycles_in p m) x k in
      let c = cycles-mem p m x r.0 in
      (c.0, c.1, differs-not (accepting p m) (accepting p x) r.1)

  pub mem-opposed : (m x : ℕ) → is_cycle p x ≡ true → inside x m ≡ true → accepting p x ≡ not (accepting p m) → Memᴰ x (opposed p m)
  unfolding opposed
  mem-opposed m x c i t = mem-filter (other m) (cycles_in p m) x (mem-cycles p m x c i) (differs-other (accepting p m) (accepting p x) t)

  distinct-opposed : (m : ℕ) → Distinct (opposed p m)
  unfolding opposed
  distinct-opposed m = distinct_filter (other m) (cycles_in p m) (distinct-cycles m)

  -- ---- children
  pub record Child (m c : ℕ) : Type 0 where
    pub cycle : is_cycle p c ≡ true
    pub within : properly c m ≡ true
    pub turned : accepting p c ≡ not (accepting p m)

  pub child : (m c : ℕ) → Memᴰ c (children p m) → Child m c
  unfolding children properly
  child m c k = go (opposed-mem m c (largest-order-mem (opposed p m) c k).0)
    where
      go : (is_cycle p c ≡ true) × (inside c m ≡ true) × (accepting p c ≡ not (accepting p m)) → Child m c
      go r = record {
        cycle = r.0;
        within = both (inside c m) (not (eqb c m)) r.1 (ap not (neqb c m (λ e. not_itself (accepting p m) (ap (accepting p) (sym e) ∙ r.2))));
        turned = r.2;
      }

  -- a cycle inside m with the other verdict lies inside some child
  pub in_child : (m x : ℕ) → is_cycle p x ≡ true → inside x m ≡ true → accepting p x ≡ not (accepting p m) → (c : ℕ) × Memᴰ c (children p m) × (inside x c ≡ true)
  unfolding children
  in_child m x c i t = in-largest-order (opposed p m) x (mem-opposed m x c i t)

  pub ordered-children : (m : ℕ) → Ordered (children p m)
  unfolding children
  ordered-children m = largest-ordered (opposed p m) (distinct-opposed m)

  -- a list of opposed cycles in sibling order, none properly inside another, with one above each opposed cycle: the children
  pub children-are : (m : ℕ) (kept : List ℕ) → ((x : ℕ) → Memᴰ x kept → (is_cycle p x ≡ true) × (inside x m ≡ true) × (accepting p x ≡ not (accepting p m)))
      → ((x : ℕ) → is_cycle p x ≡ true → inside x m ≡ true → accepting p x ≡ not (accepting p m) → (y : ℕ) × Memᴰ y kept × (inside x y ≡ true))
      → ((x y : ℕ) → Memᴰ x kept → Memᴰ y kept → properly x y ≡ false) → Ordered kept → kept ≡ children p m
  unfolding children
  children-are m kept part above apart o =
      kept_is (opposed p m) kept (λ x k. let r = part x k in mem-opposed m x r.0 r.1 r.2) (λ x k. let r = opposed-mem m x k in above x r.0 r.1 r.2) apart (distinct-opposed m) o

  inside-parent : (m c : ℕ) → Memᴰ c (children p m) → inside c m ≡ true
  unfolding children
  inside-parent m c k = (opposed-mem m c (largest-order-mem (opposed p m) c k).0).1

  pub child-fewer : (m c : ℕ) → Memᴰ c (children p m) → ones c < ones m
  child-fewer m c k = go (ones-inside c m (inside-all c m (inside-parent m c k)))
    where
      go : (c ≡ m) ⊎ (ones c < ones m) → ones c < ones m
      go (inl e) = absurd (not_itself (accepting p m) (ap (accepting p) (sym e) ∙ (child m c k).turned))
      go (inr l) = l

  -- the verdict depends on the colours alone, so the colours of a child are not all of its parent's
  pub child-colours : (m c : ℕ) → Memᴰ c (children p m) → ones (colours_of p c) < ones (colours_of p m)
  child-colours m c k = go (ones-inside (colours_of p c) (colours_of p m) (inside-all (colours_of p c) (colours_of p m) (colours-up p c m (inside-parent m c k))))
    where
      go : (colours_of p c ≡ colours_of p m) ⊎ (ones (colours_of p c) < ones (colours_of p m)) → ones (colours_of p c) < ones (colours_of p m)
      go (inl e) = absurd (not_itself (accepting p m) (accepting-colours p m c (sym e) ∙ (child m c k).turned))
      go (inr l) = l
