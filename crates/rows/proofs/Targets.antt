-- Where an edge leads, as a lower bound among the leaves of its target, and that bound in the table of the built states' leaves. Assumes nothing.
use Prim.Native.Nat.{ℕ, ◌+◌, ◌≤◌, ◌<◌}
use native.Mathlib.Omega.{arith}
use native.Mathlib.Nat.{le_refl}
use native.Mathlib.Decide.{ℕ_discrete, dec_lt}
use mathlib.Core.Path.{◌≡◌, refl, sym, ap, ◌∙◌, subst}
use mathlib.Core.Logic.{◌⊎◌, inl, inr, ◌≢◌}
use mathlib.Core.Bool.{true, false, true≢false}
use mathlib.Core.List.{List, [], ◌∷◌, Memᴰ}
use lib.Dec.{eqb, ltb}
use lib.ListN.{length, get_or}
use Rattle.lists.specs.Lists.{any, filter, first_or}
use Rattle.lists.proofs.Bools.{test, ≡eqb, neqb, lt-true}
use Rattle.lists.proofs.Lists.{some-any, filter-mem, mem-filter, ascending-filter, first_le}
use Rattle.tables.specs.Tables.{Column}
use Rattle.policy.specs.declared.Policy.{Policy}
use Rattle.policy.specs.Policies.{target_of}
use Rattle.graph.specs.Cycles.{contains}
use Rattle.graph.proofs.Cycles.{contains-inside}
use Rattle.forest.specs.Forest.{Node, forest, chain, child_of, in_root}
use Rattle.forest.specs.Laws.{ForestLaws, mask_at}
use Rattle.forest.proofs.Chains.{chain-lt}
use Rattle.automaton.specs.Automaton.{next, deepest, lead, kids, is_leaf, leaves, entered, first_leaf_below, leaf_after, number, state_leaves}
use Rattle.automaton.specs.Stages.{end_of, first_over}
use Rattle.automaton.proofs.Branch.{chain-inside, child-above, child-lt, child-between, lead_is}
use Rattle.automaton.proofs.Columns.{leaf-at}
use Rattle.automaton.proofs.Ends.{end-gt, under-end, end-under, end-mono, child-ends}
use Rattle.automaton.proofs.Leaves.{LeafUnder, Meets, kid, is-kid, kids-ascend, leaf-contains, leaf-childless, leaf-of, of-leaf, leaves-ascend, entered-next, entered-kid, inner-kid, after-at, after-in, leaf-under, first_below}
use Rattle.automaton.proofs.Next.{next-above}
use Rattle.automaton.proofs.Starts.{in-run, run-ascends, over-leaf, number-over}
use Rattle.search.specs.LowerBound.{AscendsIn, LowerBound}

-- y is the first of l from x on
pub record FirstFrom (l : List ℕ) (x y : ℕ) : Type 0 where
  pub member : Memᴰ y l
  pub from : x ≤ y
  pub first : (z : ℕ) → Memᴰ z l → x ≤ z → y ≤ z

-- with none above c, the next one is the first
next-first : (c : ℕ) (l : List ℕ) → ((y : ℕ) → Memᴰ y l → c < y → ⊥) → next c l ≡ first_or c l
unfolding next
next-first c l h = go (filter (ltb c) l) refl
  where
    go : (ys : List ℕ) → filter (ltb c) l ≡ ys → first_or (first_or c l) ys ≡ first_or c l
    go [] q = refl
    go (y ∷ ys) q = let r = filter-mem (ltb c) l y (subst (Memᴰ y) (sym q) (Memᴰ.head refl)) in absurd (h y r.0 (lt-true c y r.1))

module _ (p : Policy) (ns : List Node) (laws : ForestLaws p ns) where
  open laws use {parent_lt, level_up}

  -- ---- leaves of w at or below n
  -- a leaf of w below n, other than n, is below a child of n that contains w
  kid-on : (w n z : ℕ) → Memᴰ z (leaves ns p w) → n < length ns → n < z → z < end_of ns n
      → (d : ℕ) × Memᴰ d (kids ns p w n) × (d ≤ z) × (z < end_of ns d)
  kid-on w n z m h a b = go (child-between p ns laws n z hz (end-under p ns laws n z h (omega arith) b))
    where
      hz : z < length ns
      hz = (leaf-of ns p w z m).0

      go : (n ≡ z) ⊎ ((d : ℕ) × (child_of ns n d ≡ true) × Memᴰ d (chain ns z)) → (d : ℕ) × Memᴰ d (kids ns p w n) × (d ≤ z) × (z < end_of ns d)
      go (inl e) = absurd (omega arith)
      go (inr s) =
          let d : ℕ = s.0 in
          let hd : d < length ns = chain-lt ns parent_lt level_up z d hz s.2 in
          let u = under-end p ns laws d z hd hz s.2 in
          (d, is-kid ns p w n d hd s.1 (contains-inside p w (mask_at ns z) (mask_at ns d) (chain-inside p ns laws d z hz s.2) (leaf-contains ns p w z (leaf-of ns p w z m).1)), u.0, u.1)

  -- the first leaf of w at or below n comes first
  below-first : (w n z : ℕ) → Memᴰ z (leaves ns p w) → n < length ns → n ≤ z → z < end_of ns n → first_leaf_below ns p w n ≤ z
  unfolding first_leaf_below
  below-first w n z m h a b =
      first_le n (filter (λ l. any (eqb n) (chain ns l)) (leaves ns p w)) (ascending-filter (λ l. any (eqb n) (chain ns l)) (leaves ns p w) (leaves-ascend ns p w)) z
      (mem-filter (λ l. any (eqb n) (chain ns l)) (leaves ns p w) z m (some-any (eqb n) (chain ns z) n (end-under p ns laws n z h a b) (≡eqb n n refl)))

  -- k is the first child from x on that contains w, as far as leaves from x on go: then so is the first leaf below it
  below-from : (w n k x : ℕ) → n < length ns → is_leaf ns p w n ≡ false → Memᴰ k (kids ns p w n) → n ≤ x → x ≤ k
      → ((d z : ℕ) → Memᴰ d (kids ns p w n) → d ≤ z → z < end_of ns d → x ≤ z → k ≤ d) → FirstFrom (leaves ns p w) x (first_leaf_below ns p w k)
  below-from w n k x h f m a b least = record { member = of-leaf ns p w y u.in_range u.is-leaf; from = omega (arith, r.0); first = λ z q j. go z q j (dec_lt z (end_of ns k)) }
    where
      y : ℕ
      y = first_leaf_below ns p w k

      c : (k < length ns) × (child_of ns n k ≡ true) × (contains p w (mask_at ns k) ≡ true)
      c = kid ns p w n k m

      u : LeafUnder ns p w k y
      u = first_below p ns laws w k c.0 c.2

      r : (k ≤ y) × (y < end_of ns k)
      r = under-end p ns laws k y c.0 u.in_range u.under

      top : end_of ns k ≤ end_of ns n
      top = end-mono p ns laws n k c.0 (child-above p ns laws n k c.0 c.1)

      apart : (z : ℕ) → Memᴰ z (leaves ns p w) → n ≢ z
      apart z q e = true≢false (sym (leaf-of ns p w z q).1 ∙ ap (is_leaf ns p w) (sym e) ∙ f)

      go : (z : ℕ) → Memᴰ z (leaves ns p w) → x ≤ z → Dec (z < end_of ns k) → y ≤ z
      go z q j (yes i) =
          let o = apart z q in
          let d = kid-on w n z q h (omega arith) (omega (arith, top)) in
          below-first w k z q c.0 (omega (arith, least d.0 z d.1 d.2 d.3 j, d.2)) i
      go z q j (no i) = omega (arith, r.1)

  -- ---- the leaf after an edge
  module _ (e l : ℕ) (t : in_root ns e ≡ true) (g : Meets ns p e l) where
    abbrev w : ℕ
    w = target_of p e

    abbrev n : ℕ
    n = deepest ns e l

    abbrev c : ℕ
    c = lead ns n l

    -- where the node met is a leaf of the target, it is the only one at or below it
    alone : is_leaf ns p w n ≡ true → (z : ℕ) → Memᴰ z (leaves ns p w) → n < z → z < end_of ns n → ⊥
    alone u z m a b = let d = kid-on w n z m g.node_range a b in let k = kid ns p w n d.0 d.1 in leaf-childless ns p w n u d.0 k.0 k.1 k.2

    itself : is_leaf ns p w n ≡ true → FirstFrom (leaves ns p w) n (leaf_after ns p e l)
    itself u = subst (FirstFrom (leaves ns p w) n) (sym (after-at ns p e l t u)) (record { member = of-leaf ns p w n g.node_range u; from = le_refl n; first = λ z m j. j })

    -- elsewhere it is the first one below the child entered, which comes first from x on
    entering : (x : ℕ) → is_leaf ns p w n ≡ false → n ≤ x → ((k : ℕ) → k ≡ entered ns p w n l → Memᴰ k (kids ns p w n)
        → (x ≤ k) × ((d z : ℕ) → Memᴰ d (kids ns p w n) → d ≤ z → z < end_of ns d → x ≤ z → k ≤ d)) → FirstFrom (leaves ns p w) x (leaf_after ns p e l)
    entering x u a least =
        let i = inner-kid ns p w n g.node_target u in
        let m = entered-kid ns p w n l i.0 i.1 in
        let r = least (entered ns p w n l) refl m in
        subst (FirstFrom (leaves ns p w) x) (sym (after-in ns p e l t u)) (below-from w n (entered ns p w n l) x g.node_range u m a r.0 r.1)

    -- the first child of those that contain w
    first-kid : is_leaf ns p w n ≡ false → (d₀ : ℕ) → first_or d₀ (kids ns p w n) ≡ entered ns p w n l → FirstFrom (leaves ns p w) n (leaf_after ns p e l)
    first-kid u d₀ q = entering n u (le_refl n) (λ k is m. let h = kid ns p w n k m in (omega (arith, child-lt p ns laws n k h.0 h.1), λ d z j a b i. omega (arith, is, q, first_le d₀ (kids ns p w n) (kids-ascend ns p w n) d j)))

    -- where the node met is the leaf l
    pub leaf-after-self : l ≡ deepest ns e l → FirstFrom (leaves ns p (target_of p e)) (deepest ns e l) (leaf_after ns p e l)
    unfolding entered
    leaf-after-self q = go (test (is_leaf ns p w n))
      where
        go : (is_leaf ns p w n ≡ true) ⊎ (is_leaf ns p w n ≡ false) → FirstFrom (leaves ns p w) n (leaf_after ns p e l)
        go (inl u) = itself u
        go (inr u) = first-kid u n (rw (≡eqb l n q))

    -- ---- where it is not: the child that leads to l
    module _ (off : l ≢ deepest ns e l) where
      leads : (child_of ns n c ≡ true) × (c < length ns)
      leads = go (child-between p ns laws n l g.leaf_range g.node_above)
        where
          go : (n ≡ l) ⊎ ((d : ℕ) × (child_of ns n d ≡ true) × Memᴰ d (chain ns l)) → (child_of ns n c ≡ true) × (c < length ns)
          go (inl q) = absurd (off (sym q))
          go (inr s) =
              let is = lead_is p ns laws n s.0 l g.leaf_range s.1 s.2 in
              (subst (λ (x : ℕ). child_of ns n x ≡ true) (sym is) s.1, subst (λ (x : ℕ). x < length ns) (sym is) (chain-lt ns parent_lt level_up l s.0 g.leaf_range s.2))

      -- a child of n with a number from the end of c on comes after c
      after-lead : (d z : ℕ) → Memᴰ d (kids ns p w n) → d ≤ z → z < end_of ns d → end_of ns c ≤ z → c < d
      after-lead d z m a b i = go (dec_lt c d) (ℕ_discrete c d)
        where
          h : (d < length ns) × (child_of ns n d ≡ true) × (contains p w (mask_at ns d) ≡ true)
          h = kid ns p w n d m

          go : Dec (c < d) → Dec (c ≡ d) → c < d
          go (yes q) x = q
          go (no q) (yes x) = absurd (omega (arith, ap (end_of ns) x))
          go (no q) (no x) = absurd (omega (arith, child-ends p ns laws n d c h.0 leads.1 h.1 leads.0 (omega arith), end-gt p ns laws c leads.1))

      node-lt : n < end_of ns c
      node-lt = omega (arith, child-lt p ns laws n c leads.1 leads.0, end-gt p ns laws c leads.1)

      -- a leaf of w below a child after c: the first from the end of c on
      pub leaf-after-next : (z : ℕ) → Memᴰ z (leaves ns p (target_of p e)) → end_of ns (lead ns (deepest ns e l) l) ≤ z → z < end_of ns (deepest ns e l)
          → FirstFrom (leaves ns p (target_of p e)) (end_of ns (lead ns (deepest ns e l) l)) (leaf_after ns p e l)
      leaf-after-next z m a b = go (test (is_leaf ns p w n))
        where
          go : (is_leaf ns p w n ≡ true) ⊎ (is_leaf ns p w n ≡ false) → FirstFrom (leaves ns p w) (end_of ns c) (leaf_after ns p e l)
          go (inl u) = absurd (alone u z m (omega (arith, node-lt)) b)
          go (inr u) = entering (end_of ns c) u (omega (arith, node-lt)) (λ k is j. let h = kid ns p w n k j in (child-ends p ns laws n c k leads.1 h.0 leads.0 h.1 (omega (arith, is, eq, (up d.0 d.1 (after-lead d.0 z d.1 d.2 d.3 a)).0)), λ x y i q r s. omega (arith, is, eq, (up x i (after-lead x y i q r s)).1)))
            where
              eq : entered ns p w n l ≡ next c (kids ns p w n)
              eq = entered-next ns p w n l (neqb l n off)

              d : (d : ℕ) × Memᴰ d (kids ns p w n) × (d ≤ z) × (z < end_of ns d)
              d = kid-on w n z m g.node_range (omega (arith, node-lt)) b

              up : (x : ℕ) → Memᴰ x (kids ns p w n) → c < x → (c < next c (kids ns p w n)) × (next c (kids ns p w n) ≤ x)
              up x i q = next-above c (kids ns p w n) (kids-ascend ns p w n) x i q

      -- no such leaf: the first from n on
      pub leaf-after-first : ((z : ℕ) → Memᴰ z (leaves ns p (target_of p e)) → end_of ns (lead ns (deepest ns e l) l) ≤ z → z < end_of ns (deepest ns e l) → ⊥)
          → FirstFrom (leaves ns p (target_of p e)) (deepest ns e l) (leaf_after ns p e l)
      leaf-after-first none = go (test (is_leaf ns p w n))
        where
          -- a child after c has a leaf below it
          later : (d : ℕ) → Memᴰ d (kids ns p w n) → c < d → ⊥
          later d m q =
              let h = kid ns p w n d m in
              let y = leaf-under p ns laws w d h.0 h.2 in
              let r = under-end p ns laws d y.0 h.0 y.1.in_range y.1.under in
              none y.0 (of-leaf ns p w y.0 y.1.in_range y.1.is-leaf) (omega (arith, r.0, child-ends p ns laws n c d leads.1 h.0 leads.0 h.1 q))
              (omega (arith, r.1, end-mono p ns laws n d h.0 (child-above p ns laws n d h.0 h.1)))

          go : (is_leaf ns p w n ≡ true) ⊎ (is_leaf ns p w n ≡ false) → FirstFrom (leaves ns p w) n (leaf_after ns p e l)
          go (inl u) = itself u
          go (inr u) = first-kid u c (sym (entered-next ns p w n l (neqb l n off) ∙ next-first c (kids ns p w n) later))

-- ---- the bound in a table
-- in the run of v the table ascends
pub leaves-ascend-in : (p : Policy) (ls : List ℕ) → Column (state_leaves p) ls → (v : ℕ) → AscendsIn ls (first_over p v) (first_over p (v + 1))
leaves-ascend-in p ls col v i j a b c =
    omega (arith, run-ascends p v i j a b c, leaf-at p i (in-run p v i a (omega arith)).0 col, leaf-at p j (in-run p v j (omega arith) c).0 col)

module _ (p : Policy) (laws : ForestLaws p (forest p)) (ls : List ℕ) (col : Column (state_leaves p) ls) (w : ℕ) (hw : w < p.states) where
  -- where w has a leaf, the table has one for each state over w
  pub leaf-in-run : (z : ℕ) → Memᴰ z (leaves (forest p) p w) → (s : ℕ) → first_over p w ≤ s → s < first_over p (w + 1) → Memᴰ (get_or ls s 0) (leaves (forest p) p w)
  leaf-in-run z m s a b = subst (λ (x : ℕ). Memᴰ x (leaves (forest p) p w)) (sym (leaf-at p s (in-run p w s a b).0 col)) (over-leaf p laws w hw z m s a b)

  -- the place of a leaf
  record Placed (z s : ℕ) : Type 0 where
    from : first_over p w ≤ s
    to : s < first_over p (w + 1)
    is : get_or ls s 0 ≡ z

  placed : (z : ℕ) → Memᴰ z (leaves (forest p) p w) → Placed z (number p w z)
  placed z m =
      let q = number-over p laws w hw z (inl (leaf-of (forest p) p w z m)) in
      record { from = q.0; to = q.1; is = leaf-at p (number p w z) (in-run p w (number p w z) q.0 q.1).0 col ∙ q.2 }

  -- the first leaf from x on stands at the lower bound of x
  pub bound-number : (x y r : ℕ) → FirstFrom (leaves (forest p) p w) x y → LowerBound ls (first_over p w) (first_over p (w + 1)) x r → number p w y ≡ r
  bound-number x y r f b = go (dec_lt r k) (dec_lt k r)
    where
      k : ℕ
      k = number p w y

      at : Placed y k
      at = placed y f.member

      go : Dec (r < k) → Dec (k < r) → k ≡ r
      go (yes q) d =
          let a : r < first_over p (w + 1) = omega (arith, at.to) in
          absurd (omega (arith, at.is, leaves-ascend-in p ls col w r k b.low q at.to, f.first (get_or ls r 0) (leaf-in-run y f.member r b.low a) (b.after r (omega arith) a)))
      go (no q) (yes d) = absurd (omega (arith, at.is, f.from, b.before k at.from d))
      go (no q) (no d) = omega arith

  -- no leaf from x up to e, where the one at the lower bound of x is no such leaf
  pub bound-none : (x e r : ℕ) → LowerBound ls (first_over p w) (first_over p (w + 1)) x r → (r < first_over p (w + 1) → get_or ls r 0 < e → ⊥)
      → (z : ℕ) → Memᴰ z (leaves (forest p) p w) → x ≤ z → z < e → ⊥
  bound-none x e r b no-leaf z m i j = go (dec_lt k r) (dec_lt r k)
    where
      k : ℕ
      k = number p w z

      at : Placed z k
      at = placed z m

      go : Dec (k < r) → Dec (r < k) → ⊥
      go (yes q) d = omega (arith, at.is, b.before k at.from q)
      go (no q) (yes d) = no-leaf (omega (arith, at.to)) (omega (arith, at.is, leaves-ascend-in p ls col w r k b.low d at.to))
      go (no q) (no d) = let e : r ≡ k = omega arith in no-leaf (omega (arith, at.to)) (omega (arith, at.is, ap (λ (s : ℕ). get_or ls s 0) e))
