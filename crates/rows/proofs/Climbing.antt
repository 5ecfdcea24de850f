-- The walk up from a leaf to the deepest node with an edge: over the forest, and over the node tables. Assumes nothing.
use Prim.Native.Nat.{ℕ, ◌+◌, ◌≤◌, ◌<◌}
use native.Mathlib.Omega.{arith}
use mathlib.Core.Path.{◌≡◌, refl, sym, ap, ◌∙◌, subst}
use mathlib.Core.Logic.{◌⊎◌, inl, inr, ◌≢◌}
use mathlib.Core.Bool.{true, false, cond, true≢false, false≢true}
use mathlib.Core.List.{List, [], Memᴰ}
use lib.Dec.{eqb}
use lib.ListN.{length, get_or}
use Rattle.lists.specs.Lists.{filter, first_or}
use Rattle.lists.proofs.Lists.{filter-mem, first-cases}
use Rattle.lists.proofs.Bools.{test, eqb≡, ≡eqb, neqb}
use Rattle.masks.specs.Masks.{has}
use Rattle.masks.proofs.Bits.{inside-all}
use Rattle.policy.specs.declared.Policy.{Policy}
use Rattle.policy.specs.Policies.{edges, source, legal}
use Rattle.policy.proofs.Laws.{edges_le}
use Rattle.graph.proofs.Cycles.{some-contains}
use Rattle.forest.specs.Forest.{Node, forest, priority, transient_priority, node, chain, child_of, in_root}
use Rattle.forest.specs.Laws.{ForestLaws, mask_at, parent_at, root_at}
use Rattle.forest.proofs.Chains.{chain-self, chain-le, chain-lt, chain-parent, chain-trans, chain-linear, chain-top}
use Rattle.forest.proofs.Forest.{forest-laws}
use Rattle.forest.proofs.Columns.{masks_long, parents_long, node_priorities_long, mask-at, parent-at, node-priority-at}
use Rattle.automaton.specs.Automaton.{or_else, deepest, lead, leaves, priority_after}
use Rattle.automaton.specs.Stages.{Nodes}
use Rattle.automaton.proofs.Branch.{of-child, chain-inside, child-lt, child-between, lead_is, deepest-mem, deepest-under, deepest-at}
use Rattle.automaton.proofs.EdgeRuns.{Good}
use Rattle.automaton.proofs.Ends.{root_parent}
use Rattle.automaton.proofs.Leaves.{leaves-good, meets, root_with, with_root}
use Rattle.rows.specs.Rows.{Met}

-- ---- whether a child leads to a leaf
module _ (p : Policy) (ns : List Node) (laws : ForestLaws p ns) where
  open laws use {parent_lt, level_up}

  pub lead-self : (l : ℕ) → l < length ns → lead ns l l ≡ l
  unfolding lead
  lead-self l h = go (first-cases l (filter (child_of ns l) (chain ns l)))
    where
      x : ℕ
      x = first_or l (filter (child_of ns l) (chain ns l))

      go : (filter (child_of ns l) (chain ns l) ≡ []) ⊎ Memᴰ x (filter (child_of ns l) (chain ns l)) → x ≡ l
      go (inl q) = ap (first_or l) q
      go (inr m) =
          let r = filter-mem (child_of ns l) (chain ns l) x m in
          let a = chain-le ns parent_lt level_up l x h r.0 in
          absurd (omega (arith, a, child-lt p ns laws l x (omega (arith, a)) r.1))

  pub lead-off : (n l : ℕ) → l < length ns → Memᴰ n (chain ns l) → l ≢ n → n < lead ns n l
  lead-off n l h m off = go (child-between p ns laws n l h m)
    where
      go : (n ≡ l) ⊎ ((d : ℕ) × (child_of ns n d ≡ true) × Memᴰ d (chain ns l)) → n < lead ns n l
      go (inl q) = absurd (off (sym q))
      go (inr s) = omega (arith, lead_is p ns laws n s.0 l h s.1 s.2, child-lt p ns laws n s.0 (chain-lt ns parent_lt level_up l s.0 h s.2) s.1)

  pub lead-lt : (n l : ℕ) → l < length ns → Memᴰ n (chain ns l) → lead ns n l < length ns
  lead-lt n l h m = go (child-between p ns laws n l h m)
    where
      go : (n ≡ l) ⊎ ((d : ℕ) × (child_of ns n d ≡ true) × Memᴰ d (chain ns l)) → lead ns n l < length ns
      go (inl q) = omega (arith, ap (λ (x : ℕ). lead ns x l) q, lead-self l h)
      go (inr s) = omega (arith, lead_is p ns laws n s.0 l h s.1 s.2, chain-lt ns parent_lt level_up l s.0 h s.2)

-- ---- the walk up from a leaf
-- what is left of the walk at n: 0 past the root
abbrev pub left : ℕ → ℕ
left n = cond (eqb n 65535) 0 (n + 1)

module _ (p : Policy) where
  -- at node n, where c is the child of n that leads to l, and l itself where l is n; no node passed has e. Or past the root, and no root has e
  abbrev pub Climbing : ℕ → ℕ → ℕ → ℕ → Type 0
  Climbing e l n c =
      ((n ≡ 65535) × (in_root (forest p) e ≡ false))
      ⊎ ((n < length (forest p)) × (l < length (forest p)) × Memᴰ n (chain (forest p) l)
      × (((n ≡ l) × (c ≡ l)) ⊎ ((child_of (forest p) n c ≡ true) × Memᴰ c (chain (forest p) l) × (has (mask_at (forest p) c) e ≡ false))))

  module _ (ok : legal p ≡ true) (few : length (forest p) ≤ 65535) (e : ℕ) (he : e < edges p) (l : ℕ) (good : Good (forest p) p (source p e) l) where
    abbrev ns : List Node
    ns = forest p

    laws : ForestLaws p (forest p)
    laws = forest-laws p ok

    no-root : ((n : ℕ) → n < length ns → root_at ns n ≡ true → has (mask_at ns n) e ≡ true → ⊥) → in_root ns e ≡ false
    no-root h = go (test (in_root ns e))
      where
        go : (in_root ns e ≡ true) ⊎ (in_root ns e ≡ false) → in_root ns e ≡ false
        go (inl t) = let r = root_with ns p e t in absurd (h r.0 r.1 r.2 r.3)
        go (inr f) = f

    climb-start : Climbing e l l l
    climb-start = go good
      where
        go : Good ns p (source p e) l → Climbing e l l l
        go (inl g) = inr (g.0, g.0, chain-self ns l, inl (refl, refl))
        go (inr g) = inl (g.0, no-root (λ n h t u. true≢false (sym (some-contains p (source p e) (mask_at ns n) e he u refl) ∙ g.1 n h)))

    -- a number that is a node's
    climb-in : (n c : ℕ) → Climbing e l n c → n ≢ 65535 → n < length (forest p)
    climb-in n c (inl k) h = absurd (h k.0)
    climb-in n c (inr k) h = k.0

    -- from a node without e to its parent
    climb-up : (n c : ℕ) → Climbing e l n c → n ≢ 65535 → has (mask_at (forest p) n) e ≡ false → Climbing e l (parent_at (forest p) n) n
    climb-up n c (inl k) h f = absurd (h k.0)
    climb-up n c (inr k) h f = go (test (root_at ns n))
      where
        past : root_at ns n ≡ true → (in_root ns e ≡ true) ⊎ (in_root ns e ≡ false) → in_root ns e ≡ false
        past t (inl i) =
            let g = meets p ns laws e l he i good in
            let u = chain-linear ns laws.parent_lt laws.level_up l n (deepest ns e l) k.1 k.2 g.node_above (omega (arith, eqb≡ (node ns n).level 0 t)) in
            absurd (true≢false (sym (inside-all (mask_at ns (deepest ns e l)) (mask_at ns n) (chain-inside p ns laws n (deepest ns e l) g.node_range u) e g.node_has) ∙ f))
        past t (inr i) = i

        go : (root_at ns n ≡ true) ⊎ (root_at ns n ≡ false) → Climbing e l (parent_at ns n) n
        go (inl t) = inl (root_parent p n k.0 t, past t (test (in_root ns e)))
        go (inr t) =
            inr (
              omega (arith, laws.parent_lt n k.0 t, k.0),
              k.1,
              chain-trans ns laws.parent_lt laws.level_up l n (parent_at ns n) k.1 k.2 (chain-parent ns laws.parent_lt laws.level_up n k.0 t),
              inr (of-child ns (parent_at ns n) n t refl, k.2, f),
            )

    -- the walk ends: its measure
    climb-less : (n c : ℕ) → Climbing e l n c → n ≢ 65535 → left (parent_at (forest p) n) < left n
    climb-less n c k h = rw (neqb n 65535 h) (go (test (root_at ns n)))
      where
        i : n < length ns
        i = climb-in n c k h

        go : (root_at ns n ≡ true) ⊎ (root_at ns n ≡ false) → left (parent_at ns n) < n + 1
        go (inl t) = rw (≡eqb (parent_at ns n) 65535 (root_parent p n i t)) (omega arith)
        go (inr t) = let q = laws.parent_lt n i t in rw (neqb (parent_at ns n) 65535 (λ z. omega (arith, z, i, few))) (omega arith)

    -- a node with e: it is the deepest one
    climb-met : (n c : ℕ) → Climbing e l n c → n ≢ 65535 → has (mask_at (forest p) n) e ≡ true → Met p e l true n c (priority p (node (forest p) n))
    unfolding priority_after
    climb-met n c (inl k) h t = absurd (h k.0)
    climb-met n c (inr k) h t = record {
      in-root = sym rooted;
      node_is = λ _. sym (is k.3);
      child_is = λ _. sym (ap (λ (x : ℕ). lead ns x l) (is k.3) ∙ leads k.3);
      priority_is = rw rooted (ap (λ (x : ℕ). priority p (node ns x)) (sym (is k.3)));
    }
      where
        rooted : in_root ns e ≡ true
        rooted =
            let r = chain-top ns laws.parent_lt laws.level_up n k.0 in
            with_root ns p e r.0 (chain-lt ns laws.parent_lt laws.level_up n r.0 k.0 r.1) r.2 (inside-all (mask_at ns n) (mask_at ns r.0) (chain-inside p ns laws r.0 n k.0 r.1) e t)

        is : ((n ≡ l) × (c ≡ l)) ⊎ ((child_of ns n c ≡ true) × Memᴰ c (chain ns l) × (has (mask_at ns c) e ≡ false)) → deepest ns e l ≡ n
        is (inl q) =
            let u = deepest-under p ns laws e n l k.1 t k.2 in
            let d = deepest-mem p ns laws e l in
            let i = chain-le ns laws.parent_lt laws.level_up l (deepest ns e l) k.1 d in
            omega (arith, q.0, i, chain-le ns laws.parent_lt laws.level_up (deepest ns e l) n (omega (arith, i, k.1)) u)
        is (inr q) = deepest-at p ns laws e n c l k.1 q.0 q.1 q.2 t

        leads : ((n ≡ l) × (c ≡ l)) ⊎ ((child_of ns n c ≡ true) × Memᴰ c (chain ns l) × (has (mask_at ns c) e ≡ false)) → lead ns n l ≡ c
        leads (inl q) = ap (λ (x : ℕ). lead ns x l) q.0 ∙ lead-self p ns laws l k.1 ∙ sym q.1
        leads (inr q) = lead_is p ns laws n c l k.1 q.0 q.1

    -- past the root
    climb-none : (n c at child transient : ℕ) → Climbing e l n c → n ≡ 65535 → transient ≡ transient_priority p → Met p e l false at child transient
    unfolding priority_after
    climb-none n c at child transient (inl k) h q = record {
      in-root = sym k.1;
      node_is = λ z. absurd (false≢true z);
      child_is = λ z. absurd (false≢true z);
      priority_is = rw k.1 q;
    }
    climb-none n c at child transient (inr k) h q = absurd (omega (arith, k.0))

-- ---- the walk over the tables
-- what the walk is called with
abbrev pub Called : Policy → List ℕ → List ℕ → List ℕ → ℕ → ℕ → Type 0
Called p masks parents node_priorities e l =
    ((legal p ≡ true) × Nodes p masks parents node_priorities) × ((e < edges p) × Memᴰ l (or_else 65535 (leaves (forest p) p (source p e))))

module _ (p : Policy) (masks parents node_priorities : List ℕ) (e l : ℕ) (a : Called p masks parents node_priorities e l) where
  good : Good (forest p) p (source p e) l
  good = leaves-good p (forest p) (forest-laws p a.0.0) (source p e) l a.1.1

  pub edge-small : e < 64
  edge-small = omega (arith, a.1.0, edges_le p a.0.0)

  pub walk_start : Climbing p e l l l
  walk_start = climb-start p a.0.0 a.0.1.few e a.1.0 l good

  pub walk_none : (n c at child transient : ℕ) → Climbing p e l n c → n ≡ 65535 → transient ≡ transient_priority p → Met p e l false at child transient
  walk_none = climb-none p a.0.0 a.0.1.few e a.1.0 l good

  module _ (n c : ℕ) (k : Climbing p e l n c) (h : n ≢ 65535) where
    at-node : n < length (forest p)
    at-node = climb-in p a.0.0 a.0.1.few e a.1.0 l good n c k h

    pub walk-small : n < 65535
    walk-small = omega (arith, at-node, a.0.1.few)

    pub walk-in : (n < length masks) × (n < length parents) × (n < length node_priorities)
    walk-in = (omega (arith, at-node, masks_long p a.0.1.masks_are), omega (arith, at-node, parents_long p a.0.1.parents_are), omega (arith, at-node, node_priorities_long p a.0.1.node_priorities_are))

    pub walk_up : (up : ℕ) → up ≡ get_or parents n 0 → has (get_or masks n 0) e ≡ false → Climbing p e l up n
    walk_up up u f =
        subst (λ (x : ℕ). Climbing p e l x n) (sym (u ∙ parent-at p n at-node a.0.1.parents_are))
        (climb-up p a.0.0 a.0.1.few e a.1.0 l good n c k h (subst (λ (m : ℕ). has m e ≡ false) (mask-at p n at-node a.0.1.masks_are) f))

    pub walk-less : (up : ℕ) → up ≡ get_or parents n 0 → left up < left n
    walk-less up u = subst (λ (x : ℕ). left x < left n) (sym (u ∙ parent-at p n at-node a.0.1.parents_are)) (climb-less p a.0.0 a.0.1.few e a.1.0 l good n c k h)

    pub walk-met : has (get_or masks n 0) e ≡ true → Met p e l true n c (get_or node_priorities n 0)
    walk-met t =
        subst (Met p e l true n c) (sym (node-priority-at p n at-node a.0.1.node_priorities_are)) (climb-met p a.0.0 a.0.1.few e a.1.0 l good n c k h (subst (λ (m : ℕ). has m e ≡ true) (mask-at p n at-node a.0.1.masks_are) t))
