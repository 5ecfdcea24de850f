-- The children of a candidate are the largest candidates of the other verdict properly inside it; the candidates of a root are what a search for nodes goes by, and there are
-- few. Assumes nothing.
use Prim.Native.Nat.{ℕ, ◌+◌, ◌-◌, ◌≤◌, ◌<◌}
use native.Mathlib.Omega.{arith}
use native.Mathlib.Nat.{mul-le-mul_left, mul-le-mul_right}
use mathlib.Core.Path.{◌≡◌, sym, ap, ◌∙◌, subst}
use mathlib.Core.Bool.{Bool, true, false, not, cond}
use mathlib.Core.List.{List, Memᴰ}
use lib.ListN.{length}
use lib.Pow.{pow_mono}
use Rattle.lists.specs.Lists.{filter, Distinct}
use Rattle.lists.proofs.Lists.{filter-mem, mem-filter}
use Rattle.lists.proofs.Distinct.{distinct_filter}
use Rattle.masks.specs.Masks.{inside, properly}
use Rattle.masks.proofs.Bits.{inside-trans, properly-inside}
use Rattle.policy.specs.declared.Policy.{Policy}
use Rattle.policy.specs.Policies.{colours_of, accepting, legal}
use Rattle.policy.proofs.Laws.{legal-counts, colours-lt}
use Rattle.graph.specs.Cycles.{is_cycle}
use Rattle.forest.specs.Forest.{in_order, largest, roots, children}
use Rattle.forest.proofs.Largest.{largest-order-mem, in-largest-order, largest-ordered}
use Rattle.forest.proofs.Children.{child, in_child}
use Rattle.candidates.specs.Candidates.{candidates_to, candidates, children_in, LargerFirst, Candidates}
use Rattle.candidates.proofs.Full.{full-cycle}
use Rattle.candidates.proofs.LargerFirst.{larger-first}
use Rattle.candidates.proofs.Listing.{Listing, listing-at}

module _ {p : Policy} {a r : List ℕ} (g : Candidates p a r) where
  -- the list of the other verdict
  pub other-are : (v : Bool) (x : ℕ) → Memᴰ x (cond v r a) → (is_cycle p x ≡ true) × (accepting p x ≡ not v)
  other-are true x k = g.are false x k
  other-are false x k = g.are true x k

  other-distinct : (v : Bool) → Distinct (cond v r a)
  other-distinct true = (g.ordered false).0
  other-distinct false = (g.ordered true).0

  module _ (v : Bool) (n : ℕ) (k : Memᴰ n (cond v a r)) where
    abbrev within : List ℕ
    within = filter (λ (m : ℕ). properly m n) (cond v r a)

    within-mem : (x : ℕ) → Memᴰ x within → Memᴰ x (cond v r a) × (inside x n ≡ true)
    within-mem x m = let s = filter-mem (λ (m : ℕ). properly m n) (cond v r a) x m in (s.0, properly-inside x n s.1)

    verdict : accepting p n ≡ v
    verdict = (g.are v n k).1

    pub children-are : children_in (cond v r a) n ≡ children p n
    unfolding children_in
    children-are = Rattle.forest.proofs.Children.children-are p n (in_order (largest within)) part above apart (largest-ordered within (distinct_filter (λ (m : ℕ). properly m n) (cond v r a) (other-distinct v)))
      where
        part : (x : ℕ) → Memᴰ x (in_order (largest within)) → (is_cycle p x ≡ true) × (inside x n ≡ true) × (accepting p x ≡ not (accepting p n))
        part x m =
            let s = within-mem x (largest-order-mem within x m).0 in
            let o = other-are v x s.0 in
            (o.0, s.1, o.1 ∙ ap not (sym verdict))

        above : (x : ℕ) → is_cycle p x ≡ true → inside x n ≡ true → accepting p x ≡ not (accepting p n) → (y : ℕ) × Memᴰ y (in_order (largest within)) × (inside x y ≡ true)
        above x cy i t =
            let c = in_child p n x cy i t in
            let y = in-largest-order within c.0 (mem-filter (λ (m : ℕ). properly m n) (cond v r a) c.0 (g.closed v n c.0 k c.1) (child p n c.0 c.1).within) in
            (y.0, y.1, inside-trans x c.0 y.0 c.2 y.2)

        apart : (x y : ℕ) → Memᴰ x (in_order (largest within)) → Memᴰ y (in_order (largest within)) → properly x y ≡ false
        apart x y m l = (largest-order-mem within x m).1 y (largest-order-mem within y l).0

module _ (p : Policy) (lawful : legal p ≡ true) (r : ℕ) where
  pub colours_few : colours_of p r ≤ 255
  colours_few = omega (arith, colours-lt p lawful r, pow_mono (legal-counts p lawful).colours_few)

  module _ (root : Memᴰ r (roots p)) where
    -- before each set there is room for one more cycle at each state
    pub listing-few : (n : ℕ) → n < colours_of p r → length (candidates_to p r n true) + length (candidates_to p r n false) + 16 ≤ 4096
    listing-few n h =
        let k : n ≤ 254 = omega (arith, colours_few) in
        omega (arith, (listing-at p lawful r root n (omega arith)).few, mul-le-mul_left n (legal-counts p lawful).states_few, mul-le-mul_right 16 k)

    pub candidates-are : Candidates p (candidates p r true) (candidates p r false)
    unfolding candidates
    candidates-are = record {
      lawful = lawful;
      are = λ v x k. let s = l.are v x (each v x k) in (full-cycle p lawful x s.0, s.2);
      ordered = order;
      closed = closed;
      few = omega (arith, l.few, mul-le-mul_left (colours_of p r) (legal-counts p lawful).states_few, mul-le-mul_right 16 colours_few);
    }
      where
        l : Listing p lawful r root (colours_of p r) (candidates_to p r (colours_of p r))
        l = listing-at p lawful r root (colours_of p r) (omega arith)

        each : (v : Bool) (x : ℕ) → Memᴰ x (cond v (candidates_to p r (colours_of p r) true) (candidates_to p r (colours_of p r) false)) → Memᴰ x (candidates_to p r (colours_of p r) v)
        each true x k = k
        each false x k = k

        order : (v : Bool) → let t = cond v (candidates_to p r (colours_of p r) true) (candidates_to p r (colours_of p r) false) in Distinct t × LargerFirst t
        order true = (l.distinct true, larger-first p lawful (candidates_to p r (colours_of p r) true) (λ x k. (l.are true x k).0) (l.falling true))
        order false = (l.distinct false, larger-first p lawful (candidates_to p r (colours_of p r) false) (λ x k. (l.are false x k).0) (l.falling false))

        closed : (v : Bool) (x c : ℕ) → Memᴰ x (cond v (candidates_to p r (colours_of p r) true) (candidates_to p r (colours_of p r) false)) → Memᴰ c (children p x)
            → Memᴰ c (cond v (candidates_to p r (colours_of p r) false) (candidates_to p r (colours_of p r) true))
        closed true x c k ch = l.closed true x c k ch (omega arith)
        closed false x c k ch = l.closed false x c k ch (omega arith)

    -- the root stands in the list of its verdict
    pub root-listed : (v : Bool) → v ≡ accepting p r → Memᴰ r (cond v (candidates p r true) (candidates p r false))
    unfolding candidates
    root-listed v e = go v (subst (λ (b : Bool). Memᴰ r (candidates_to p r (colours_of p r) b)) (sym e) (listing-at p lawful r root (colours_of p r) (omega arith)).rooted)
      where
        go : (v : Bool) → Memᴰ r (candidates_to p r (colours_of p r) v) → Memᴰ r (cond v (candidates_to p r (colours_of p r) true) (candidates_to p r (colours_of p r) false))
        go true k = k
        go false k = k
