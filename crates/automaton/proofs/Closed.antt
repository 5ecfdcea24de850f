-- A closed run over edges: the least priority that it meets is even exactly if the set of its edges is accepting. Over any nodes
-- with the forest's laws. Assumes nothing.
use Prim.Native.Nat.{ℕ, ◌≤◌, ◌<◌}
use native.Mathlib.Omega.{arith}
use native.Mathlib.Nat.{le_refl}
use mathlib.Core.Path.{◌≡◌, refl, sym, ap, ◌∙◌, subst}
use mathlib.Core.Logic.{◌⊎◌, inl, inr, ◌↔◌, ◌≢◌}
use mathlib.Core.Bool.{true, false, not, true≢false}
use mathlib.Core.List.Memᴰ
use mathlib.Core.List.{List, [], ◌∷◌, Memᴰ}
use lib.ListN.{length}
use Rattle.lists.specs.Lists.{below}
use Rattle.lists.proofs.Bools.{test, neqb, same_or_not}
use Rattle.lists.proofs.Lists.{below-lt}
use Rattle.lists.proofs.Least.{least_by}
use Rattle.masks.specs.Masks.{has}
use Rattle.masks.proofs.Bits.{inside-all, all-inside}
use Rattle.policy.specs.declared.Policy.{Policy}
use Rattle.policy.specs.Policies.{edges, source, target_of, accepting}
use Rattle.graph.specs.Cycles.{Path, is_cycle, contains}
use Rattle.graph.proofs.Cycles.{Targets, cycle-edge, closed-cycle, some-contains}
use Rattle.forest.specs.Forest.{Node, node, chain, child_of, in_root, priority}
use Rattle.forest.specs.Laws.{ForestLaws, mask_at}
use Rattle.forest.proofs.Chains.{chain-le, chain-lt, chain-trans, chain-linear}
use Rattle.automaton.specs.Automaton.{deepest, next, kids, is_leaf, entered, leaf_after, priority_after}
use Rattle.automaton.proofs.EdgeRuns.{Good, leaf_run, met_run, Least}
use Rattle.automaton.proofs.Next.{next-mem, gap, next-nearer}
use Rattle.automaton.proofs.Branch.{chain-inside, chain-priority, child-lt, child-between, child-unique, lead_is, deepest-under, deepest-at}
use Rattle.automaton.proofs.Leaves.{kid, is-kid, kids-ascend, leaf-childless, with_root, entered-next, LeafUnder, Meets, meets, after-entered, after-under, leaf-after-good}

-- ---- the nodes met
module _ (ns : List Node) (p : Policy) where
  -- the nodes met on the way
  unfoldable visited : List ℕ → ℕ → List ℕ
  visited [] l = []
  visited (e ∷ es) l = deepest ns e l ∷ visited es (leaf_after ns p e l)

  -- each edge is in a root, and meets the branch of its leaf
  abbrev Live : List ℕ → ℕ → Type 0
  Live [] l = Unit {0}
  Live (e ∷ es) l = (in_root ns e ≡ true) × Meets ns p e l × Live es (leaf_after ns p e l)

  -- the run keeps below n
  record Kept (n : ℕ) (es : List ℕ) (l : ℕ) : Type 0 where
    ends : Memᴰ n (chain ns (leaf_run ns p es l))
    has_all : (e : ℕ) → Memᴰ e es → has (mask_at ns n) e ≡ true
    all_under : (x : ℕ) → Memᴰ x (visited es l) → Memᴰ n (chain ns x)

  visited-in : (es : List ℕ) (l : ℕ) → Live es l → (x : ℕ) → Memᴰ x (visited es l) → x < length ns
  unfolding visited
  visited-in [] l lv x x4 = elim x4 [ ]
  visited-in (e ∷ es) l lv x (Memᴰ.head k) = rw k lv.1.node_range
  visited-in (e ∷ es) l lv x (Memᴰ.tail k) = visited-in es (leaf_after ns p e l) lv.2 x k

  -- what is met is the priorities of the nodes met
  met-is : (e l : ℕ) → in_root ns e ≡ true → priority_after ns p e l ≡ priority p (node ns (deepest ns e l))
  unfolding priority_after
  met-is e l t = rw t

  visited-met : (es : List ℕ) (l : ℕ) → Live es l → (x : ℕ) → Memᴰ x (visited es l) → Memᴰ (priority p (node ns x)) (met_run ns p es l)
  unfolding visited met_run
  visited-met [] l lv x x4 = elim x4 [ ]
  visited-met (e ∷ es) l lv x (Memᴰ.head k) = Memᴰ.head (ap (λ (y : ℕ). priority p (node ns y)) k ∙ sym (met-is e l lv.0))
  visited-met (e ∷ es) l lv x (Memᴰ.tail k) = Memᴰ.tail (visited-met es (leaf_after ns p e l) lv.2 x k)

  met-visited : (es : List ℕ) (l : ℕ) → Live es l → (k : ℕ) → Memᴰ k (met_run ns p es l) → (x : ℕ) × Memᴰ x (visited es l) × (k ≡ priority p (node ns x))
  unfolding visited met_run
  met-visited [] l lv k x'' = elim x'' [ ]
  met-visited (e ∷ es) l lv k (Memᴰ.head q) = (deepest ns e l, Memᴰ.head refl, q ∙ met-is e l lv.0)
  met-visited (e ∷ es) l lv k (Memᴰ.tail q) = let r = met-visited es (leaf_after ns p e l) lv.2 k q in (r.0, Memᴰ.tail r.1, r.2)

-- the target of an edge of a closed path is the source of one
onward : (p : Policy) (v w : ℕ) (es : List ℕ) → Path p (below (edges p)) v es w → (e : ℕ) → Memᴰ e es → (target_of p e ≡ w) ⊎ ((f : ℕ) × Memᴰ f es × (source p f ≡ target_of p e))
onward p v w [] a e x'' = elim x'' [ ]
onward p v w (x ∷ []) a e (Memᴰ.head k) = inl (ap (target_of p) k ∙ a.2)
onward p v w (x ∷ []) a e (Memᴰ.tail k) = absurd (Memᴰ.not-nil k)
onward p v w (x ∷ y ∷ es) a e (Memᴰ.head k) = inr (y, Memᴰ.tail (Memᴰ.head refl), a.2.0 ∙ ap (target_of p) (sym k))
onward p v w (x ∷ y ∷ es) a e (Memᴰ.tail k) = up (onward p (target_of p x) w (y ∷ es) a.2 e k)
  where
    up : (target_of p e ≡ w) ⊎ ((f : ℕ) × Memᴰ f (y ∷ es) × (source p f ≡ target_of p e)) → (target_of p e ≡ w) ⊎ ((f : ℕ) × Memᴰ f (x ∷ y ∷ es) × (source p f ≡ target_of p e))
    up (inl q) = inl q
    up (inr q) = inr (q.0, Memᴰ.tail q.1, q.2)

module _ (p : Policy) (ns : List Node) (laws : ForestLaws p ns) where
  open laws use {parent_lt, level_up}

  live : (u w : ℕ) (es : List ℕ) (l : ℕ) → Path p (below (edges p)) u es w → Good ns p u l → ((e : ℕ) → Memᴰ e es → in_root ns e ≡ true) → Live ns p es l
  live u w [] l a g r = tt
  live u w (e ∷ es) l a g r =
      let he = below-lt (edges p) e a.1 in
      let s : Good ns p (source p e) l = subst (λ (x : ℕ). Good ns p x l) (sym a.0) g in
      let t = r e (Memᴰ.head refl) in
      (t, meets p ns laws e l he t s, live (target_of p e) w es (leaf_after ns p e l) a.2 (leaf-after-good p ns laws e he l s) (λ f k. r f (Memᴰ.tail k)))

  -- ---- below a node of least level
  -- from a leaf below a node no deeper than any node met, the run stays below it
  keep : (n : ℕ) (es : List ℕ) (l : ℕ) → Live ns p es l → ((x : ℕ) → Memᴰ x (visited ns p es l) → (node ns n).level ≤ (node ns x).level) → Memᴰ n (chain ns l) → Kept ns p n es l
  unfolding leaf_run visited
  keep n [] l lv low u = record { ends = u; has_all = λ e k. absurd (Memᴰ.not-nil k); all_under = λ x k. absurd (Memᴰ.not-nil k) }
  keep n (e ∷ es) l lv low u =
      let g = lv.1 in
      let w = chain-linear ns parent_lt level_up l n (deepest ns e l) g.leaf_range u g.node_above (low (deepest ns e l) (Memᴰ.head refl)) in
      let a = after-under p ns laws e l lv.0 g in
      let r = keep n es (leaf_after ns p e l) lv.2 (λ x k. low x (Memᴰ.tail k)) (chain-trans ns parent_lt level_up (leaf_after ns p e l) (deepest ns e l) n a.in_range a.under w) in
      let t = inside-all (mask_at ns (deepest ns e l)) (mask_at ns n) (chain-inside p ns laws n (deepest ns e l) g.node_range w) e g.node_has in
      record { ends = r.ends; has_all = λ f k. pick f t r.has_all (Memᴰ.cases_cons k); all_under = λ x k. pick2 x w r.all_under (Memᴰ.cases_cons k) }
    where
      pick : (f : ℕ) → has (mask_at ns n) e ≡ true → ((g : ℕ) → Memᴰ g es → has (mask_at ns n) g ≡ true) → (f ≡ e) ⊎ Memᴰ f es → has (mask_at ns n) f ≡ true
      pick f t h (inl k) = rw k t
      pick f t h (inr k) = h f k

      pick2 : (x : ℕ) → Memᴰ n (chain ns (deepest ns e l)) → ((y : ℕ) → Memᴰ y (visited ns p es (leaf_after ns p e l)) → Memᴰ n (chain ns y))
          → (x ≡ deepest ns e l) ⊎ Memᴰ x (visited ns p es (leaf_after ns p e l)) → Memᴰ n (chain ns x)
      pick2 x w h (inl k) = rw k w
      pick2 x w h (inr k) = h x k

  -- once it is met, the run is below it
  settle : (n : ℕ) (es : List ℕ) (l : ℕ) → Live ns p es l → ((x : ℕ) → Memᴰ x (visited ns p es l) → (node ns n).level ≤ (node ns x).level) → Memᴰ n (visited ns p es l) → Memᴰ n (chain ns (leaf_run ns p es l))
  unfolding leaf_run visited
  settle n [] l lv low k = elim k [ ]
  settle n (e ∷ es) l lv low k = go (Memᴰ.cases_cons k) (settle n es (leaf_after ns p e l) lv.2 (λ x k. low x (Memᴰ.tail k)))
    where
      go : (n ≡ deepest ns e l) ⊎ Memᴰ n (visited ns p es (leaf_after ns p e l)) → (Memᴰ n (visited ns p es (leaf_after ns p e l)) → Memᴰ n (chain ns (leaf_run ns p es (leaf_after ns p e l)))) → Memᴰ n (chain ns (leaf_run ns p es (leaf_after ns p e l)))
      go (inl q) ih = (keep n es (leaf_after ns p e l) lv.2 (λ x k. low x (Memᴰ.tail k)) (Memᴰ.cast q (after-under p ns laws e l lv.0 lv.1).under)).ends
      go (inr q) ih = ih q

  -- ---- below the child d of n, where all edges lie in the child C
  module _ (n C : ℕ) (hC : C < length ns) (kC : child_of ns n C ≡ true) where
    record Moved (e l d : ℕ) : Type 0 where
      d' : ℕ
      child : child_of ns n d' ≡ true
      under : Memᴰ d' (chain ns (leaf_after ns p e l))
      near : gap (length ns) C d' ≤ gap (length ns) C d
      nearer : n ≡ deepest ns e l → gap (length ns) C d' < gap (length ns) C d

    record Nearer (es : List ℕ) (l d : ℕ) : Type 0 where
      d' : ℕ
      child : child_of ns n d' ≡ true
      under : Memᴰ d' (chain ns (leaf_run ns p es l))
      near : gap (length ns) C d' ≤ gap (length ns) C d
      nearer : Memᴰ n (visited ns p es l) → gap (length ns) C d' < gap (length ns) C d

    -- one edge: below n the run stays below d; at n it goes to the next child
    moves : (e l d : ℕ) → in_root ns e ≡ true → Meets ns p e l → child_of ns n d ≡ true → Memᴰ d (chain ns l)
        → has (mask_at ns n) e ≡ true → has (mask_at ns C) e ≡ true → contains p (target_of p e) (mask_at ns C) ≡ true → Moved e l d
    moves e l d t g kd m hn hc tC = go (test (has (mask_at ns d) e))
      where
        w : ℕ
        w = target_of p e

        hd : d < length ns
        hd = chain-lt ns parent_lt level_up l d g.leaf_range m

        go : (has (mask_at ns d) e ≡ true) ⊎ (has (mask_at ns d) e ≡ false) → Moved e l d
        go (inl u) = record { d' = d; child = kd; under = chain-trans ns parent_lt level_up (leaf_after ns p e l) (deepest ns e l) d a.in_range a.under b; near = le_refl (gap (length ns) C d); nearer = λ q. absurd (off q) }
          where
            a : LeafUnder ns p (target_of p e) (deepest ns e l) (leaf_after ns p e l)
            a = after-under p ns laws e l t g

            b : Memᴰ d (chain ns (deepest ns e l))
            b = deepest-under p ns laws e d l g.leaf_range u m

            off : n ≡ deepest ns e l → ⊥
            off q = omega (arith, q, chain-le ns parent_lt level_up (deepest ns e l) d g.node_range b, child-lt p ns laws n d hd kd)
        go (inr f) = record { d' = next d (kids ns p w n); child = (kid ns p w n (next d (kids ns p w n)) (next-mem d (kids ns p w n) C m_c)).1; under = Memᴰ.cast (sym is) r.1.under; near = omega (arith, closer); nearer = λ q. closer }
          where
            at : deepest ns e l ≡ n
            at = deepest-at p ns laws e n d l g.leaf_range kd m f hn

            m_c : Memᴰ C (kids ns p w n)
            m_c = is-kid ns p w n C hC kC tC

            inner : (is_leaf ns p w (deepest ns e l) ≡ true) ⊎ (is_leaf ns p w (deepest ns e l) ≡ false) → is_leaf ns p w (deepest ns e l) ≡ false
            inner (inl y) = absurd (leaf-childless ns p w (deepest ns e l) y C hC (subst (λ (x : ℕ). child_of ns x C ≡ true) (sym at) kC) tC)
            inner (inr y) = y

            r : Memᴰ (entered ns p w (deepest ns e l) l) (kids ns p w (deepest ns e l)) × LeafUnder ns p w (entered ns p w (deepest ns e l) l) (leaf_after ns p e l)
            r = after-entered p ns laws e l t g (inner (test (is_leaf ns p w (deepest ns e l))))

            below-n : l ≢ n
            below-n q = omega (arith, q, chain-le ns parent_lt level_up l d g.leaf_range m, child-lt p ns laws n d hd kd)

            is : entered ns p w (deepest ns e l) l ≡ next d (kids ns p w n)
            is = ap (λ (x : ℕ). entered ns p w x l) at ∙ entered-next ns p w n l (neqb l n below-n) ∙ ap (λ (x : ℕ). next x (kids ns p w n)) (lead_is p ns laws n d l g.leaf_range kd m)

            closer : gap (length ns) C (next d (kids ns p w n)) < gap (length ns) C d
            closer =
                next-nearer (length ns) d (kids ns p w n) (kids-ascend ns p w n) (λ x k. (kid ns p w n x k).0) hd C m_c
                (λ q. true≢false (sym hc ∙ ap (λ (x : ℕ). has (mask_at ns x) e) (sym q) ∙ f))

    nears : (es : List ℕ) (l d : ℕ) → Live ns p es l → child_of ns n d ≡ true → Memᴰ d (chain ns l)
        → ((e : ℕ) → Memᴰ e es → (has (mask_at ns n) e ≡ true) × (has (mask_at ns C) e ≡ true) × (contains p (target_of p e) (mask_at ns C) ≡ true)) → Nearer es l d
    unfolding leaf_run visited
    nears [] l d lv kd m h = record { d' = d; child = kd; under = m; near = le_refl (gap (length ns) C d); nearer = λ k. absurd (Memᴰ.not-nil k) }
    nears (e ∷ es) l d lv kd m h =
        let t = h e (Memᴰ.head refl) in
        let o = moves e l d lv.0 lv.1 kd m t.0 t.1 t.2 in
        wrap o (nears es (leaf_after ns p e l) o.d' lv.2 o.child o.under (λ f k. h f (Memᴰ.tail k)))
      where
        wrap : (o : Moved e l d) → Nearer es (leaf_after ns p e l) o.d' → Nearer (e ∷ es) l d
        wrap o r = record { d' = r.d'; child = r.child; under = r.under; near = omega (arith, o.near, r.near); nearer = λ k. cases (Memᴰ.cases_cons k) }
          where
            cases : (n ≡ deepest ns e l) ⊎ Memᴰ n (visited ns p es (leaf_after ns p e l)) → gap (length ns) C r.d' < gap (length ns) C d
            cases (inl k) = omega (arith, o.nearer k, r.near)
            cases (inr k) = omega (arith, r.nearer k, o.near)

  -- ---- the closed run
  module _ (targets : Targets p) (v e₀ : ℕ) (es₀ : List ℕ) (l : ℕ) (path : Path p (below (edges p)) v (e₀ ∷ es₀) v) (good : Good ns p v l) (back : leaf_run ns p (e₀ ∷ es₀) l ≡ l)
      (X : ℕ) (exact : (e : ℕ) → (has X e ≡ true) ↔ Memᴰ e (e₀ ∷ es₀)) where
    abbrev es : List ℕ
    es = e₀ ∷ es₀

    cycle : is_cycle p X ≡ true
    cycle = closed-cycle p targets v e₀ es₀ path X exact

    lv : Live ns p es l
    lv = live v v es l path good (λ e k. let r = laws.in-root X cycle in with_root ns p e r.0 r.1 r.2 (inside-all X (mask_at ns r.0) r.3 e ((exact e).1 k)))

    -- all the edges lie in the child C of n, and n is met: no
    trapped : (n : ℕ) → Memᴰ n (visited ns p es l) → ((e : ℕ) → Memᴰ e es → has (mask_at ns n) e ≡ true) → Memᴰ n (chain ns l)
        → (C : ℕ) → C < length ns → child_of ns n C ≡ true → ((e : ℕ) → has X e ≡ true → has (mask_at ns C) e ≡ true) → ⊥
    trapped n vis hn u C hC kC wi = go (child-between p ns laws n l lv.1.leaf_range u)
      where
        has-C : (e : ℕ) → Memᴰ e es → has (mask_at ns C) e ≡ true
        has-C e k = wi e ((exact e).1 k)

        at : (w f : ℕ) → Memᴰ f es → source p f ≡ w → contains p w (mask_at ns C) ≡ true
        at w f k q = some-contains p w (mask_at ns C) f (cycle-edge p X cycle f ((exact f).1 k)) (has-C f k) q

        reached : (e : ℕ) → (target_of p e ≡ v) ⊎ ((f : ℕ) × Memᴰ f es × (source p f ≡ target_of p e)) → contains p (target_of p e) (mask_at ns C) ≡ true
        reached e (inl q) = at (target_of p e) e₀ (Memᴰ.head refl) (path.0 ∙ sym q)
        reached e (inr r) = at (target_of p e) r.0 r.1 r.2

        go : (n ≡ l) ⊎ ((d : ℕ) × (child_of ns n d ≡ true) × Memᴰ d (chain ns l)) → ⊥
        go (inl q) = leaf-childless ns p (source p e₀) l lv.1.leaf_source C hC (subst (λ (x : ℕ). child_of ns x C ≡ true) q kC) (at (source p e₀) e₀ (Memᴰ.head refl) refl)
        go (inr s) =
            let r = nears n C hC kC es l s.0 lv s.1 s.2 (λ e k. (hn e k, has-C e k, reached e (onward p v v es path e k))) in
            let same : r.d' ≡ s.0 = child-unique p ns laws n r.d' s.0 l lv.1.leaf_range r.child s.1 (subst (λ (x : ℕ). Memᴰ r.d' (chain ns x)) back r.under) s.2 in
            omega (arith, subst (λ (z : ℕ). gap (length ns) C z < gap (length ns) C s.0) same (r.nearer vis))

    -- from a node of least level among those met
    from : (n : ℕ) → Memᴰ n (visited ns p es l) → ((y : ℕ) → Memᴰ y (visited ns p es l) → (node ns n).level ≤ (node ns y).level) → Least ns p es l X
    from n vis low = record {
      least = priority p (node ns n);
      is_met = visited-met ns p es l lv n vis;
      lowest = λ k q. let r = met-visited ns p es l lv k q in rw r.2 (chain-priority p ns laws n r.0 (visited-in ns p es l lv r.0 r.1) (kept.all_under r.0 r.1));
      verdict = laws.even_accepting n range ∙ sym (same (same_or_not (accepting p X) (accepting p (mask_at ns n))));
    }
      where
        range : n < length ns
        range = visited-in ns p es l lv n vis

        u : Memᴰ n (chain ns l)
        u = subst (λ (x : ℕ). Memᴰ n (chain ns x)) back (settle n es l lv low vis)

        kept : Kept ns p n es l
        kept = keep n es l lv low u

        same : (accepting p X ≡ accepting p (mask_at ns n)) ⊎ (accepting p X ≡ not (accepting p (mask_at ns n))) → accepting p X ≡ accepting p (mask_at ns n)
        same (inl q) = q
        same (inr q) =
            let c = laws.in_child n range X cycle (all-inside X (mask_at ns n) (λ e t. kept.has_all e ((exact e).0 t))) q in
            absurd (trapped n vis kept.has_all u c.0 c.1 c.2 (inside-all X (mask_at ns c.0) c.3))

    pub closed_run : Least ns p (e₀ ∷ es₀) l X
    unfolding visited
    closed_run =
        let r = least_by (λ (x : ℕ). (node ns x).level) (deepest ns e₀ l) (visited ns p es₀ (leaf_after ns p e₀ l)) in
        from r.0 r.1 r.2
