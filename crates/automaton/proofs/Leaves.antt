-- Leaves: each node that contains a state has a leaf of it at or below, and each edge leads from a leaf of its source to a leaf of its target.
-- Over any nodes with the forest's laws. Assumes nothing.
use Prim.Native.Nat.{ℕ, zero, suc, ◌+◌, ◌≤◌, ◌<◌}
use native.Mathlib.Omega.{arith}
use mathlib.Core.Path.{◌≡◌, refl, sym, ap, ◌∙◌, subst}
use mathlib.Core.Logic.{◌⊎◌, inl, inr}
use mathlib.Core.Bool.{Bool, true, false, not, ◌&&◌, cond, true≢false}
use mathlib.Core.List.{List, [], ◌∷◌, Memᴰ}
use lib.Dec.{eqb}
use lib.ListN.{length}
use Rattle.lists.specs.Lists.{any, filter, first_or, below, Ascending}
use Rattle.lists.proofs.Bools.{test, eqb≡, ≡eqb, and_l, and_r, both, not-true}
use Rattle.lists.proofs.Lists.{any_some, some-any, none_any, filter-mem, mem-filter, mem_below, below-lt, get_or-mem, mem-at, ascending-filter, ascending-below, first-mem}
use Rattle.masks.specs.Masks.{has}
use Rattle.policy.specs.declared.Policy.{Policy}
use Rattle.policy.specs.Policies.{edges, source, target_of}
use Rattle.graph.specs.Cycles.{contains}
use Rattle.graph.proofs.Cycles.{some-contains, contains-inside, cycle-target}
use Rattle.forest.specs.Forest.{Node, is_root, node, chain, child_of, in_root}
use Rattle.forest.specs.Laws.{ForestLaws, mask_at, root_at}
use Rattle.forest.proofs.Chains.{chain-self, chain-lt, chain-trans, chain-top}
use Rattle.automaton.specs.Automaton.{or_else, next, deepest, lead, holds, kids, is_leaf, leaves, first_leaf, entered, first_leaf_below, leaf_after}
use Rattle.automaton.proofs.EdgeRuns.{Good}
use Rattle.automaton.proofs.Next.{next-mem}
use Rattle.automaton.proofs.Branch.{chain-inside, child-above, child-lt, deepest-mem, deepest-has}

module _ (ns : List Node) (p : Policy) where
  -- ---- the children that contain a state
  abbrev holding : ℕ → ℕ → ℕ → Bool
  holding v n j = child_of ns n j && holds ns p v j

  pub kid : (v n j : ℕ) → Memᴰ j (kids ns p v n) → (j < length ns) × (child_of ns n j ≡ true) × (contains p v (mask_at ns j) ≡ true)
  unfolding kids holds
  kid v n j m =
      let r = filter-mem (holding v n) (below (length ns)) j m in
      (below-lt (length ns) j r.0, and_l (child_of ns n j) (holds ns p v j) r.1, and_r (child_of ns n j) (holds ns p v j) r.1)

  pub is-kid : (v n j : ℕ) → j < length ns → child_of ns n j ≡ true → contains p v (mask_at ns j) ≡ true → Memᴰ j (kids ns p v n)
  unfolding kids holds
  is-kid v n j h c t = mem-filter (holding v n) (below (length ns)) j (mem_below (length ns) j h) (both (child_of ns n j) (holds ns p v j) c t)

  pub kids-ascend : (v n : ℕ) → Ascending (kids ns p v n)
  unfolding kids
  kids-ascend v n = ascending-filter (holding v n) (below (length ns)) (ascending-below (length ns))

  -- ---- leaves of a state
  pub leaf-contains : (v n : ℕ) → is_leaf ns p v n ≡ true → contains p v (mask_at ns n) ≡ true
  unfolding is_leaf holds
  leaf-contains v n t = and_l (holds ns p v n) (not (any (holding v n) (below (length ns)))) t

  pub leaf-childless : (v n : ℕ) → is_leaf ns p v n ≡ true → (j : ℕ) → j < length ns → child_of ns n j ≡ true → contains p v (mask_at ns j) ≡ true → ⊥
  unfolding is_leaf holds
  leaf-childless v n t j h c k =
      let f = not-true (any (holding v n) (below (length ns))) (and_r (holds ns p v n) (not (any (holding v n) (below (length ns)))) t) in
      true≢false (sym (both (child_of ns n j) (holds ns p v j) c k) ∙ none_any (holding v n) (below (length ns)) f j (mem_below (length ns) j h))

  -- what contains v and is no leaf of v has a child that contains v
  pub inner-kid : (v n : ℕ) → contains p v (mask_at ns n) ≡ true → is_leaf ns p v n ≡ false → (j : ℕ) × Memᴰ j (kids ns p v n)
  unfolding is_leaf holds kids
  inner-kid v n t f = go (test (any (holding v n) (below (length ns))))
    where
      go : (any (holding v n) (below (length ns)) ≡ true) ⊎ (any (holding v n) (below (length ns)) ≡ false) → (j : ℕ) × Memᴰ j (filter (holding v n) (below (length ns)))
      go (inl u) =
          let r = any_some (holding v n) (below (length ns)) u in
          (r.0, mem-filter (holding v n) (below (length ns)) r.0 r.1 r.2)
      go (inr u) = absurd (true≢false (sym (both (holds ns p v n) (not (any (holding v n) (below (length ns)))) t (ap not u)) ∙ f))

  pub leaf-of : (v l : ℕ) → Memᴰ l (leaves ns p v) → (l < length ns) × (is_leaf ns p v l ≡ true)
  unfolding leaves
  leaf-of v l m = let r = filter-mem (is_leaf ns p v) (below (length ns)) l m in (below-lt (length ns) l r.0, r.1)

  pub of-leaf : (v l : ℕ) → l < length ns → is_leaf ns p v l ≡ true → Memᴰ l (leaves ns p v)
  unfolding leaves
  of-leaf v l h t = mem-filter (is_leaf ns p v) (below (length ns)) l (mem_below (length ns) l h) t

  pub leaves-ascend : (v : ℕ) → Ascending (leaves ns p v)
  unfolding leaves
  leaves-ascend v = ascending-filter (is_leaf ns p v) (below (length ns)) (ascending-below (length ns))

  -- ---- roots with an edge
  pub root_with : (e : ℕ) → in_root ns e ≡ true → (r : ℕ) × (r < length ns) × (root_at ns r ≡ true) × (has (mask_at ns r) e ≡ true)
  unfolding in_root node
  root_with e t =
      let s = any_some (λ x. is_root x && has x.mask e) ns t in
      let q = mem-at ns (record { mask = 0; parent = 0; level = 0; accepted = false }) s.0 s.1 in
      let u : is_root (node ns q.0) && has (mask_at ns q.0) e ≡ true = subst (λ (x : Node). is_root x && has x.mask e ≡ true) (sym q.2) s.2 in
      (q.0, q.1, and_l (is_root (node ns q.0)) (has (mask_at ns q.0) e) u, and_r (is_root (node ns q.0)) (has (mask_at ns q.0) e) u)

  pub with_root : (e r : ℕ) → r < length ns → root_at ns r ≡ true → has (mask_at ns r) e ≡ true → in_root ns e ≡ true
  unfolding in_root node
  with_root e r h t u =
      some-any (λ x. is_root x && has x.mask e) ns (node ns r) (get_or-mem ns r (record { mask = 0; parent = 0; level = 0; accepted = false }) h) (both (root_at ns r) (has (mask_at ns r) e) t u)

  -- ---- the edge e from the leaf l, case by case
  pub entered-kid : (w n l j : ℕ) → Memᴰ j (kids ns p w n) → Memᴰ (entered ns p w n l) (kids ns p w n)
  unfolding entered
  entered-kid w n l j m = go (eqb l n)
    where
      go : (b : Bool) → Memᴰ (cond b (first_or n (kids ns p w n)) (next (lead ns n l) (kids ns p w n))) (kids ns p w n)
      go true = first-mem n (kids ns p w n) j m
      go false = next-mem (lead ns n l) (kids ns p w n) j m

  pub entered-next : (w n l : ℕ) → eqb l n ≡ false → entered ns p w n l ≡ next (lead ns n l) (kids ns p w n)
  unfolding entered
  entered-next w n l f = rw f

  pub after-out : (e l : ℕ) → in_root ns e ≡ false → leaf_after ns p e l ≡ first_leaf ns p (target_of p e)
  unfolding leaf_after
  after-out e l f = rw f

  pub after-at : (e l : ℕ) → in_root ns e ≡ true → is_leaf ns p (target_of p e) (deepest ns e l) ≡ true → leaf_after ns p e l ≡ deepest ns e l
  unfolding leaf_after
  after-at e l t u = rw (t, u)

  pub after-in : (e l : ℕ) → in_root ns e ≡ true → is_leaf ns p (target_of p e) (deepest ns e l) ≡ false
      → leaf_after ns p e l ≡ first_leaf_below ns p (target_of p e) (entered ns p (target_of p e) (deepest ns e l) l)
  unfolding leaf_after
  after-in e l t u = rw (t, u)

  -- l is a leaf of v, at or below n
  pub record LeafUnder (v n l : ℕ) : Type 0 where
    pub in_range : l < length ns
    pub is-leaf : is_leaf ns p v l ≡ true
    pub under : Memᴰ n (chain ns l)

  -- where e meets the branch of l
  pub record Meets (e l : ℕ) : Type 0 where
    pub leaf_range : l < length ns
    pub leaf_source : is_leaf ns p (source p e) l ≡ true
    pub node_range : deepest ns e l < length ns
    pub node_above : Memᴰ (deepest ns e l) (chain ns l)
    pub node_has : has (mask_at ns (deepest ns e l)) e ≡ true
    pub node_target : contains p (target_of p e) (mask_at ns (deepest ns e l)) ≡ true

module _ (p : Policy) (ns : List Node) (laws : ForestLaws p ns) where
  open laws use {parent_lt, level_up}

  -- ---- down to a leaf
  under_to : (v k n : ℕ) → n < length ns → length ns ≤ n + k → contains p v (mask_at ns n) ≡ true → (l : ℕ) × LeafUnder ns p v n l
  under_to v zero n h b t = absurd (omega arith)
  under_to v (suc k) n h b t = go (test (is_leaf ns p v n)) (under_to v k)
    where
      go : (is_leaf ns p v n ≡ true) ⊎ (is_leaf ns p v n ≡ false) → ((j : ℕ) → j < length ns → length ns ≤ j + k → contains p v (mask_at ns j) ≡ true → (l : ℕ) × LeafUnder ns p v j l) → (l : ℕ) × LeafUnder ns p v n l
      go (inl u) ih = (n, record { in_range = h; is-leaf = u; under = chain-self ns n })
      go (inr u) ih =
          let r = inner-kid ns p v n t u in
          let c = kid ns p v n r.0 r.1 in
          let q = ih r.0 c.0 (omega (arith, child-lt p ns laws n r.0 c.0 c.1)) c.2 in
          (q.0, record { in_range = q.1.in_range; is-leaf = q.1.is-leaf; under = chain-trans ns parent_lt level_up q.0 r.0 n q.1.in_range q.1.under (child-above p ns laws n r.0 c.0 c.1) })

  -- a node that contains v has a leaf of v at or below it
  pub leaf-under : (v n : ℕ) → n < length ns → contains p v (mask_at ns n) ≡ true → (l : ℕ) × LeafUnder ns p v n l
  leaf-under v n h t = under_to v (length ns) n h (omega arith) t

  no-leaves : (v : ℕ) → leaves ns p v ≡ [] → (n : ℕ) → n < length ns → contains p v (mask_at ns n) ≡ false
  no-leaves v q n h = go (test (contains p v (mask_at ns n)))
    where
      go : (contains p v (mask_at ns n) ≡ true) ⊎ (contains p v (mask_at ns n) ≡ false) → contains p v (mask_at ns n) ≡ false
      go (inl t) = let r = leaf-under v n h t in absurd (mathlib.Core.List.Memᴰ.not-nil (subst (Memᴰ r.0) q (of-leaf ns p v r.0 r.1.in_range r.1.is-leaf)))
      go (inr f) = f

  -- ---- the leaves that states are built over
  pub leaves-good : (v l : ℕ) → Memᴰ l (or_else 65535 (leaves ns p v)) → Good ns p v l
  leaves-good v l m = go (leaves ns p v) refl m
    where
      go : (xs : List ℕ) → leaves ns p v ≡ xs → Memᴰ l (or_else 65535 xs) → Good ns p v l
      go [] q k = inr (mathlib.Core.List.Memᴰ.eq_of_singleton k, no-leaves v q)
      go (x ∷ xs) q k = inl (leaf-of ns p v l (subst (Memᴰ l) (sym q) k))

  pub good-leaves : (v l : ℕ) → Good ns p v l → Memᴰ l (or_else 65535 (leaves ns p v))
  good-leaves v l g = go (leaves ns p v) refl g
    where
      go : (xs : List ℕ) → leaves ns p v ≡ xs → Good ns p v l → Memᴰ l (or_else 65535 xs)
      go [] q (inl h) = absurd (mathlib.Core.List.Memᴰ.not-nil (subst (Memᴰ l) q (of-leaf ns p v l h.0 h.1)))
      go [] q (inr h) = mathlib.Core.List.Memᴰ.head h.0
      go (x ∷ xs) q (inl h) = subst (Memᴰ l) q (of-leaf ns p v l h.0 h.1)
      go (x ∷ xs) q (inr h) =
          let r = leaf-of ns p v x (subst (Memᴰ x) (sym q) (mathlib.Core.List.Memᴰ.head refl)) in
          absurd (true≢false (sym (leaf-contains ns p v x r.1) ∙ h.1 x r.0))

  pub first_good : (v : ℕ) → Good ns p v (first_leaf ns p v)
  unfolding first_leaf
  first_good v = leaves-good v (first_or 65535 (leaves ns p v)) (go (leaves ns p v))
    where
      go : (xs : List ℕ) → Memᴰ (first_or 65535 xs) (or_else 65535 xs)
      go [] = mathlib.Core.List.Memᴰ.head refl
      go (x ∷ xs) = mathlib.Core.List.Memᴰ.head refl

  -- the first leaf of w at or below n is one
  pub first_below : (w n : ℕ) → n < length ns → contains p w (mask_at ns n) ≡ true → LeafUnder ns p w n (first_leaf_below ns p w n)
  unfolding first_leaf_below
  first_below w n h t =
      let r = leaf-under w n h t in
      go (filter-mem T (leaves ns p w) x (first-mem n (filter T (leaves ns p w)) r.0 (mem-filter T (leaves ns p w) r.0 (of-leaf ns p w r.0 r.1.in_range r.1.is-leaf) (some-any (eqb n) (chain ns r.0) n r.1.under (≡eqb n n refl)))))
    where
      T : ℕ → Bool
      T = λ l. any (eqb n) (chain ns l)

      x : ℕ
      x = first_or n (filter (λ l. any (eqb n) (chain ns l)) (leaves ns p w))

      go : Memᴰ x (leaves ns p w) × (any (eqb n) (chain ns x) ≡ true) → LeafUnder ns p w n x
      go f =
          let s = leaf-of ns p w x f.0 in
          let z = any_some (eqb n) (chain ns x) f.1 in
          record { in_range = s.0; is-leaf = s.1; under = mathlib.Core.List.Memᴰ.cast (eqb≡ n z.0 z.2) z.1 }

  -- ---- one edge
  pub meets : (e l : ℕ) → e < edges p → in_root ns e ≡ true → Good ns p (source p e) l → Meets ns p e l
  meets e l he t (inr g) =
      let r = root_with ns p e t in
      absurd (true≢false (sym (some-contains p (source p e) (mask_at ns r.0) e he r.3 refl) ∙ g.1 r.0 r.1))
  meets e l he t (inl g) =
      let r = root_with ns p e t in
      let s = chain-top ns parent_lt level_up l g.0 in
      let same : s.0 ≡ r.0 =
      laws.apart s.0 r.0 (chain-lt ns parent_lt level_up l s.0 g.0 s.1) r.1 s.2 r.2 (source p e)
      (contains-inside p (source p e) (mask_at ns l) (mask_at ns s.0) (chain-inside p ns laws s.0 l g.0 s.1) (leaf-contains ns p (source p e) l g.1))
      (some-contains p (source p e) (mask_at ns r.0) e he r.3 refl) in
      let up : Memᴰ r.0 (chain ns l) = mathlib.Core.List.Memᴰ.cast (sym same) s.1 in
      let m = deepest-mem p ns laws e l in
      let i = chain-lt ns parent_lt level_up l (deepest ns e l) g.0 m in
      let k = deepest-has p ns laws e l r.0 up r.3 in
      record { leaf_range = g.0; leaf_source = g.1; node_range = i; node_above = m; node_has = k; node_target = cycle-target p (mask_at ns (deepest ns e l)) e (laws.cycle (deepest ns e l) i) k }

  -- where the node met is no leaf of the target, the next leaf lies below the child entered
  pub after-entered : (e l : ℕ) → in_root ns e ≡ true → Meets ns p e l → is_leaf ns p (target_of p e) (deepest ns e l) ≡ false
      → Memᴰ (entered ns p (target_of p e) (deepest ns e l) l) (kids ns p (target_of p e) (deepest ns e l)) × LeafUnder ns p (target_of p e) (entered ns p (target_of p e) (deepest ns e l) l) (leaf_after ns p e l)
  after-entered e l t g f =
      let r = inner-kid ns p (target_of p e) (deepest ns e l) g.node_target f in
      let k = entered-kid ns p (target_of p e) (deepest ns e l) l r.0 r.1 in
      let c = kid ns p (target_of p e) (deepest ns e l) (entered ns p (target_of p e) (deepest ns e l) l) k in
      (k, subst (LeafUnder ns p (target_of p e) (entered ns p (target_of p e) (deepest ns e l) l)) (sym (after-in ns p e l t f)) (first_below (target_of p e) (entered ns p (target_of p e) (deepest ns e l) l) c.0 c.2))

  -- the next leaf lies at or below the node met
  pub after-under : (e l : ℕ) → in_root ns e ≡ true → Meets ns p e l → LeafUnder ns p (target_of p e) (deepest ns e l) (leaf_after ns p e l)
  after-under e l t g = go (test (is_leaf ns p (target_of p e) (deepest ns e l)))
    where
      go : (is_leaf ns p (target_of p e) (deepest ns e l) ≡ true) ⊎ (is_leaf ns p (target_of p e) (deepest ns e l) ≡ false) → LeafUnder ns p (target_of p e) (deepest ns e l) (leaf_after ns p e l)
      go (inl u) =
          subst (LeafUnder ns p (target_of p e) (deepest ns e l)) (sym (after-at ns p e l t u))
          (record { in_range = g.node_range; is-leaf = u; under = chain-self ns (deepest ns e l) })
      go (inr u) =
          let r = after-entered e l t g u in
          let c = kid ns p (target_of p e) (deepest ns e l) (entered ns p (target_of p e) (deepest ns e l) l) r.0 in
          record {
            in_range = r.1.in_range;
            is-leaf = r.1.is-leaf;
            under = chain-trans ns parent_lt level_up (leaf_after ns p e l) (entered ns p (target_of p e) (deepest ns e l) l) (deepest ns e l) r.1.in_range r.1.under (child-above p ns laws (deepest ns e l) (entered ns p (target_of p e) (deepest ns e l) l) c.0 c.1);
          }

  -- an edge leads from a leaf of its source to a leaf of its target
  pub leaf-after-good : (e : ℕ) → e < edges p → (l : ℕ) → Good ns p (source p e) l → Good ns p (target_of p e) (leaf_after ns p e l)
  leaf-after-good e he l g = go (test (in_root ns e))
    where
      go : (in_root ns e ≡ true) ⊎ (in_root ns e ≡ false) → Good ns p (target_of p e) (leaf_after ns p e l)
      go (inl t) = let r = after-under e l t (meets e l he t g) in inl (r.in_range, r.is-leaf)
      go (inr f) = subst (Good ns p (target_of p e)) (sym (after-out ns p e l f)) (first_good (target_of p e))
