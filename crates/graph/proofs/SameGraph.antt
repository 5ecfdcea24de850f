-- Two policies over one graph: they have the same edges, and the same cycles. Their families do not matter. Assumes nothing.
use Prim.Native.Nat.{ℕ, ◌*◌, ◌/◌, ◌<◌}
use mathlib.Core.Path.{◌≡◌, refl, sym, ap, ap₂, ◌∙◌, subst}
use mathlib.Core.Bool.{true, ◌&&◌}
use mathlib.Core.List.{List, [], ◌∷◌, Memᴰ}
use lib.Dec.{eqb}
use Rattle.lists.specs.Lists.{below}
use Rattle.lists.proofs.Bools.{and_l, and_r, both, eqb≡, ≡eqb, bool-ext}
use Rattle.lists.proofs.Lists.{all-each, each_all, mem_below, below-lt}
use Rattle.policy.specs.declared.Policy.{Policy}
use Rattle.policy.specs.Policies.{edges, source, target_of}
use Rattle.graph.specs.Cycles.{Path, Cycle, is_cycle}
use Rattle.graph.proofs.Cycles.{Targets, cycle-sound, cycle-complete}
use Rattle.graph.specs.SameGraph.{same_target, same_targets, same_graph}

module _ (p q : Policy) where
  -- ---- the parts of the test
  pub same-graph-is : same_graph p q ≡ eqb p.states q.states && eqb p.letters q.letters && same_targets p q
  unfolding same_graph
  same-graph-is = refl

  same-all : same_graph p q ≡ true → eqb p.states q.states && eqb p.letters q.letters && same_targets p q ≡ true
  same-all h = sym same-graph-is ∙ h

  pub same-states : same_graph p q ≡ true → p.states ≡ q.states
  same-states h =
      let s = eqb p.states q.states in
      let l = eqb p.letters q.letters in
      eqb≡ p.states q.states (and_l s l (and_l (s && l) (same_targets p q) (same-all h)))

  pub same-letters : same_graph p q ≡ true → p.letters ≡ q.letters
  same-letters h =
      let s = eqb p.states q.states in
      let l = eqb p.letters q.letters in
      eqb≡ p.letters q.letters (and_r s l (and_l (s && l) (same_targets p q) (same-all h)))

  pub same_edges : same_graph p q ≡ true → edges p ≡ edges q
  unfolding edges
  same_edges h = ap₂ ◌*◌ (same-states h) (same-letters h)

  pub same_source : same_graph p q ≡ true → (e : ℕ) → source p e ≡ source q e
  unfolding source
  same_source h e = ap (λ (k : ℕ). e / k) (same-letters h)

  pub same-target : same_graph p q ≡ true → (e : ℕ) → e < edges p → target_of p e ≡ target_of q e
  unfolding same_targets same_target
  same-target h e l =
      eqb≡ (target_of p e) (target_of q e)
      (all-each (same_target p q) (below (edges p)) (and_r (eqb p.states q.states && eqb p.letters q.letters) (same_targets p q) (same-all h)) e (mem_below (edges p) e l))

  -- ---- paths and cycles
  same-path : same_graph p q ≡ true → (u : ℕ) (w : List ℕ) (v : ℕ) → Path p (below (edges p)) u w v → Path q (below (edges q)) u w v
  same-path h u [] v a = a
  same-path h u (e ∷ w) v a = (
    sym (same_source h e) ∙ a.0,
    subst (λ (n : ℕ). Memᴰ e (below n)) (same_edges h) a.1,
    subst (λ (x : ℕ). Path q (below (edges q)) x w v) (same-target h e (below-lt (edges p) e a.1)) (same-path h (target_of p e) w v a.2),
  )

  pub same-cycle : same_graph p q ≡ true → (m : ℕ) → Cycle p m → Cycle q m
  same-cycle h m c = record {
    first = c.first;
    rest = c.rest;
    closed = subst (λ (u : ℕ). Path q (below (edges q)) u (c.first ∷ c.rest) u) (same_source h c.first) (same-path h (source p c.first) (c.first ∷ c.rest) (source p c.first) c.closed);
    exact = c.exact;
  }

-- it does not matter which one stands first
pub same-graph-turned : (p q : Policy) → same_graph p q ≡ true → same_graph q p ≡ true
unfolding same_targets same_target
same-graph-turned p q h =
    same-graph-is q p
    ∙ both (eqb q.states p.states && eqb q.letters p.letters) (same_targets q p)
    (both (eqb q.states p.states) _ (≡eqb q.states p.states (sym (same-states p q h))) (≡eqb q.letters p.letters (sym (same-letters p q h))))
    (each_all (same_target q p) (below (edges q)) (λ e k. ≡eqb (target_of q e) (target_of p e) (sym (same-target p q h e (subst (λ (n : ℕ). e < n) (sym (same_edges p q h)) (below-lt (edges q) e k))))))

-- the two have the same cycles
pub same-cycles : (p q : Policy) → Targets p → same_graph p q ≡ true → (m : ℕ) → is_cycle p m ≡ is_cycle q m
same-cycles p q targets s m =
    bool-ext (is_cycle p m) (is_cycle q m)
    (λ t. cycle-complete q others m (same-cycle p q s m (cycle-sound p m t)))
    (λ t. cycle-complete p targets m (same-cycle q p (same-graph-turned p q s) m (cycle-sound q m t)))
  where
    others : Targets q
    others e l =
        let k : e < edges p = subst (λ (n : ℕ). e < n) (sym (same_edges p q s)) l in
        subst (λ (n : ℕ). target_of q e < n) (same-states p q s) (subst (λ (x : ℕ). x < p.states) (same-target p q s e k) (targets e k))
