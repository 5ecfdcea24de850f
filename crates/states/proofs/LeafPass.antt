-- The leaves of a state by one pass over the nodes: the last node seen that contains the state is a leaf of it, unless the next one that contains it lies before its
-- end. Assumes nothing.
use Prim.Native.Nat.{ℕ, zero, suc, ◌+◌, ◌-◌, ◌*◌, ◌≤◌, ◌<◌, min}
use native.Mathlib.Omega.{arith}
use native.Mathlib.Nat.{add-zero}
use native.Mathlib.Decide.{dec_le}
use native.Mathlib.Numerals.{add-one}
use mathlib.Core.Path.{◌≡◌, refl, sym, ap, ◌∙◌, subst}
use mathlib.Core.Logic.{◌⊎◌, inl, inr, ◌≢◌}
use mathlib.Core.Bool.{Bool, true, false, not, cond, true≢false}
use mathlib.Core.List.{List, [], ◌∷◌, ◌++◌, append-nil, Memᴰ}
use lib.Bits.{bit_and}
use lib.Dec.{eqb, leb}
use lib.ListN.{length, get_or}
use borrow.Author.Tests.{le-leb, lt-leb}
use Rattle.lists.specs.Lists.{filter, below}
use Rattle.lists.proofs.Bools.{test, ≡eqb, neqb}
use Rattle.lists.proofs.Lists.{length-below}
use Rattle.lists.proofs.Filters.{filter-append, filter-few}
use Rattle.tables.specs.Tables.{Column, Stored}
use Rattle.tables.proofs.Stores.{stored-none, stored-join}
use Rattle.policy.specs.declared.Policy.{Policy}
use Rattle.policy.specs.Policies.{edges, legal}
use Rattle.policy.proofs.Laws.{edges_le}
use Rattle.graph.specs.Cycles.{contains}
use Rattle.graph.specs.Through.{own_edges}
use Rattle.graph.proofs.CodeLaws.{row_within}
use Rattle.graph.proofs.Cycles.{contains-inside}
use Rattle.graph.proofs.OnCycle.{own-contains}
use Rattle.forest.specs.Forest.{Node, forest, chain, child_of, node_masks}
use Rattle.forest.specs.Laws.{ForestLaws, mask_at}
use Rattle.forest.proofs.Chains.{chain-lt}
use Rattle.forest.proofs.Columns.{mask-at}
use Rattle.forest.proofs.Forest.{forest-laws}
use Rattle.automaton.specs.Automaton.{is_leaf}
use Rattle.automaton.specs.Stages.{end_of, node_ends}
use Rattle.automaton.proofs.Columns.{end-at}
use Rattle.automaton.proofs.Branch.{chain-inside, child-above, child-lt, child-between}
use Rattle.automaton.proofs.Ends.{end-le, under-end, end-under}
use Rattle.automaton.proofs.Leaves.{kid, leaf-contains, leaf-childless, inner-kid}
use Rattle.states.specs.StateTables.{leaves_below}

-- ---- the edges that leave a state
pub own-few : (p : Policy) → legal p ≡ true → (v : ℕ) → v < p.states → v * p.letters + p.letters ≤ 64
unfolding edges
own-few p ok v h = omega (arith, row_within v p.states p.letters h, edges_le p ok)

-- ---- a leaf by the nodes after it
module _ (p : Policy) (ns : List Node) (laws : ForestLaws p ns) (v n : ℕ) (h : n < length ns) where
  open laws use {parent_lt, level_up}

  -- no descendant contains v
  leaf-in : contains p v (mask_at ns n) ≡ true → ((j : ℕ) → n < j → j < end_of ns n → contains p v (mask_at ns j) ≡ false) → is_leaf ns p v n ≡ true
  leaf-in t none = go (test (is_leaf ns p v n))
    where
      go : (is_leaf ns p v n ≡ true) ⊎ (is_leaf ns p v n ≡ false) → is_leaf ns p v n ≡ true
      go (inl u) = u
      go (inr u) =
          let k = inner-kid ns p v n t u in
          let d = kid ns p v n k.0 k.1 in
          absurd (true≢false (sym d.2 ∙ none k.0 (child-lt p ns laws n k.0 d.0 d.1) (under-end p ns laws n k.0 h d.0 (child-above p ns laws n k.0 d.0 d.1)).1))

  -- a descendant contains v, and so does the child above it
  leaf-not : (j : ℕ) → n < j → j < end_of ns n → contains p v (mask_at ns j) ≡ true → is_leaf ns p v n ≡ false
  leaf-not j a b t = go (test (is_leaf ns p v n)) (child-between p ns laws n j l (end-under p ns laws n j h (omega arith) b))
    where
      l : j < length ns
      l = omega (arith, end-le p ns laws n h)

      go : (is_leaf ns p v n ≡ true) ⊎ (is_leaf ns p v n ≡ false) → (n ≡ j) ⊎ ((d : ℕ) × (child_of ns n d ≡ true) × Memᴰ d (chain ns j)) → is_leaf ns p v n ≡ false
      go (inr u) s = u
      go (inl u) (inl e) = absurd (omega arith)
      go (inl u) (inr s) =
          absurd (leaf-childless ns p v n u s.0 (chain-lt ns parent_lt level_up j s.0 l s.2) s.1 (contains-inside p v (mask_at ns j) (mask_at ns s.0) (chain-inside p ns laws s.0 j l s.2) t))

leaf-out : (p : Policy) (ns : List Node) (v n : ℕ) → contains p v (mask_at ns n) ≡ false → is_leaf ns p v n ≡ false
leaf-out p ns v n f = go (test (is_leaf ns p v n))
  where
    go : (is_leaf ns p v n ≡ true) ⊎ (is_leaf ns p v n ≡ false) → is_leaf ns p v n ≡ false
    go (inl t) = absurd (true≢false (sym (leaf-contains ns p v n t) ∙ f))
    go (inr u) = u

-- ---- the leaves below a node
module _ (p : Policy) (v : ℕ) where
  leaves-next : (n : ℕ) → leaves_below p v (n + 1) ≡ leaves_below p v n ++ filter (is_leaf (forest p) p v) (n ∷ [])
  unfolding leaves_below
  leaves-next n = ap (λ (k : ℕ). filter (is_leaf (forest p) p v) (below k)) (add-one n) ∙ filter-append (is_leaf (forest p) p v) (below n) (n ∷ [])

  leaves_in : (n : ℕ) → is_leaf (forest p) p v n ≡ true → leaves_below p v (n + 1) ≡ leaves_below p v n ++ (n ∷ [])
  leaves_in n t = leaves-next n ∙ rw t refl

  leaves-out : (n : ℕ) → is_leaf (forest p) p v n ≡ false → leaves_below p v (n + 1) ≡ leaves_below p v n
  leaves-out n t = leaves-next n ∙ rw t (append-nil (leaves_below p v n))

  -- the nodes from a on do not contain v
  leaves-skip : (a k : ℕ) → ((j : ℕ) → a ≤ j → j < a + k → contains p v (mask_at (forest p) j) ≡ false) → leaves_below p v (a + k) ≡ leaves_below p v a
  leaves-skip a zero f = ap (leaves_below p v) (add-zero a)
  leaves-skip a (suc k) f =
      let e : a + suc k ≡ a + k + 1 = omega arith in
      ap (leaves_below p v) e ∙ leaves-out (a + k) (leaf-out p (forest p) v (a + k) (f (a + k) (omega arith) (omega arith))) ∙ leaves-skip a k (λ j x y. f j x (omega arith))

  pub leaves-few : (n : ℕ) → length (leaves_below p v n) ≤ n
  unfolding leaves_below
  leaves-few n = omega (arith, filter-few (is_leaf (forest p) p v) (below n), length-below n)

-- ---- the pass
-- where it begins: the tables of the nodes, and the edges that leave v
pub record Given (p : Policy) (v : ℕ) (masks ends : List ℕ) (count own : ℕ) : Type 0 where
  pub is_legal : legal p ≡ true
  pub few : length (forest p) ≤ 65535
  pub masks_are : Column (node_masks p) masks
  pub ends_are : Column (node_ends p) ends
  pub state : v < p.states
  pub counted : count ≡ length (forest p)
  pub own_is : own ≡ own_edges p.letters v

-- no node below n contains v
pub record NoneSeen (p : Policy) (v n last end : ℕ) : Type 0 where
  pub last_is : last ≡ 65535
  pub end_is : end ≡ 65536
  pub none : (j : ℕ) → j < n → contains p v (mask_at (forest p) j) ≡ false

-- `last` is the last node below n that contains v, and its descendants end at `end`
pub record LastSeen (p : Policy) (v n last end : ℕ) : Type 0 where
  pub before : last < n
  pub end_is : end ≡ end_of (forest p) last
  pub holds : contains p v (mask_at (forest p) last) ≡ true
  pub none : (j : ℕ) → last < j → j < n → contains p v (mask_at (forest p) j) ≡ false

abbrev pub Seen : Policy → ℕ → ℕ → ℕ → ℕ → Type 0
Seen p v n last end = NoneSeen p v n last end ⊎ LastSeen p v n last end

-- after the nodes below n: the leaves below the last one that contains v are stored
pub record Pass (p : Policy) (v : ℕ) (t₀ t : List ℕ) (at next n last end : ℕ) : Type 0 where
  pub seen : Seen p v n last end
  pub stored : Stored t₀ t at next (leaves_below p v (min n last))

module _ {p : Policy} {v : ℕ} {masks ends : List ℕ} {count own : ℕ} (g : Given p v masks ends count own) where
  laws : ForestLaws p (forest p)
  laws = forest-laws p g.is_legal

  -- no node seen contains v: there is no leaf more
  none-pending : (n last end : ℕ) → n ≤ 65535 → NoneSeen p v n last end → leaves_below p v n ≡ leaves_below p v (min n last) ++ []
  none-pending n last end q s = let e : n ≡ min n last = omega (arith, s.last_is) in ap (leaves_below p v) e ∙ sym (append-nil (leaves_below p v (min n last)))

  -- the last node seen that contains v is one more, if it is a leaf
  last-pending : (n last end : ℕ) → LastSeen p v n last end → (b : Bool) → is_leaf (forest p) p v last ≡ b → leaves_below p v n ≡ leaves_below p v (min n last) ++ cond b (last ∷ []) []
  last-pending n last end s b t = past ∙ here b t ∙ ap (λ (k : ℕ). leaves_below p v k ++ cond b (last ∷ []) []) low
    where
      low : last ≡ min n last
      low = omega (arith, s.before)

      past : leaves_below p v n ≡ leaves_below p v (last + 1)
      past = let e : n ≡ last + 1 + (n - (last + 1)) = omega (arith, s.before) in ap (leaves_below p v) e ∙ leaves-skip p v (last + 1) (n - (last + 1)) (λ j x y. s.none j (omega arith) (omega arith))

      here : (b : Bool) → is_leaf (forest p) p v last ≡ b → leaves_below p v (last + 1) ≡ leaves_below p v last ++ cond b (last ∷ []) []
      here true t = leaves_in p v last t
      here false t = leaves-out p v last t ∙ sym (append-nil (leaves_below p v last))

  -- at a node that contains v
  met : (n last end : ℕ) → n < count → contains p v (mask_at (forest p) n) ≡ true → Seen p v n last end
      → leaves_below p v n ≡ leaves_below p v (min n last) ++ cond (leb end n) (last ∷ []) []
  met n last end l t (inl s) = rw (lt-leb end n (omega (arith, s.end_is, g.few, g.counted))) (none-pending n last end (omega (arith, g.few, g.counted)) s)
  met n last end l t (inr s) = last-pending n last end s (leb end n) (go (dec_le end n))
    where
      m : last < length (forest p)
      m = omega (arith, s.before, g.counted)

      go : Dec (end ≤ n) → is_leaf (forest p) p v last ≡ leb end n
      go (yes q) = leaf-in p (forest p) laws v last m s.holds (λ j x y. s.none j x (omega (arith, s.end_is))) ∙ sym (le-leb end n q)
      go (no q) = leaf-not p (forest p) laws v last m n s.before (omega (arith, s.end_is)) t ∙ sym (lt-leb end n (omega arith))

  -- at the end
  done : (n last end : ℕ) → n ≡ count → Seen p v n last end → leaves_below p v n ≡ leaves_below p v (min n last) ++ cond (not (eqb last 65535)) (last ∷ []) []
  done n last end l (inl s) = rw (≡eqb last 65535 s.last_is) (none-pending n last end (omega (arith, g.few, g.counted)) s)
  done n last end l (inr s) =
      rw (neqb last 65535 (λ e. omega (arith, e, s.before, g.few, g.counted)))
      (last-pending n last end s true
      (leaf-in p (forest p) laws v last m s.holds (λ j x y. s.none j x (omega (arith, end-le p (forest p) laws last m, g.counted)))))
    where
      m : last < length (forest p)
      m = omega (arith, s.before, g.counted)

  -- what the tables tell of a node
  contains-at : (n : ℕ) → n < count → (b : Bool) → not (eqb (bit_and (get_or masks n 0) own) 0) ≡ b → contains p v (mask_at (forest p) n) ≡ b
  contains-at n l b e =
      sym (own-contains p g.is_legal v (mask_at (forest p) n) g.state)
      ∙ (rw (g.own_is, mask-at p n (omega (arith, g.counted)) g.masks_are) at e)

  pub end-few : (n : ℕ) → n < count → get_or ends n 0 ≤ 65535
  end-few n l = let m : n < length (forest p) = omega (arith, g.counted) in omega (arith, end-at p n m g.ends_are, end-le p (forest p) laws n m, g.few)

  pub pass-none : (t : List ℕ) (at : ℕ) → Pass p v t t at at 0 65535 65536
  unfolding leaves_below
  pass-none t at = record { seen = inl (record { last_is = refl; end_is = refl; none = λ j q. absurd (omega arith) }); stored = stored-none t at }

  module _ {t₀ t : List ℕ} {at next n last end : ℕ} (s : Pass p v t₀ t at next n last end) where
    -- one node more
    pub pass-turn : n < count → (t' : List ℕ) (next' last' end' : ℕ)
        → ((bit_and (get_or masks n 0) own ≢ 0) × Stored t t' next next' (cond (leb end n) (last ∷ []) []) × (last' ≡ n) × (end' ≡ get_or ends n 0))
        ⊎ ((bit_and (get_or masks n 0) own ≡ 0) × (t' ≡ t) × (next' ≡ next) × (last' ≡ last) × (end' ≡ end)) → Pass p v t₀ t' at next' (n + 1) last' end'
    pass-turn l t' next' last' end' (inl w) =
        let h : contains p v (mask_at (forest p) n) ≡ true = contains-at n l true (ap not (neqb (bit_and (get_or masks n 0) own) 0 w.0)) in
        let k : n ≡ min (n + 1) last' = omega (arith, w.2) in
        record {
          seen = inr (record { before = omega (arith, w.2); end_is = w.3 ∙ end-at p n (omega (arith, g.counted)) g.ends_are ∙ ap (end_of (forest p)) (sym w.2); holds = subst (λ (i : ℕ). contains p v (mask_at (forest p) i) ≡ true) (sym w.2) h; none = λ j x y. absurd (omega (arith, w.2)) });
          stored = subst (Stored t₀ t' at next') (sym (met n last end l h s.seen) ∙ ap (leaves_below p v) k) (stored-join s.stored w.1);
        }
    pass-turn l t' next' last' end' (inr w) = rw (w.1, w.2, w.3, w.4) (go s.seen)
      where
        f : contains p v (mask_at (forest p) n) ≡ false
        f = contains-at n l false (ap not (≡eqb (bit_and (get_or masks n 0) own) 0 w.0))

        more : (j : ℕ) → j < n + 1 → (j < n → contains p v (mask_at (forest p) j) ≡ false) → contains p v (mask_at (forest p) j) ≡ false
        more j x r = at-or (dec_le n j)
          where
            at-or : Dec (n ≤ j) → contains p v (mask_at (forest p) j) ≡ false
            at-or (yes q) = let i : n ≡ j = omega arith in subst (λ (k : ℕ). contains p v (mask_at (forest p) k) ≡ false) i f
            at-or (no q) = r (omega arith)

        go : Seen p v n last end → Pass p v t₀ t at next (n + 1) last end
        go (inl a) =
            let i : n ≡ min n last = omega (arith, a.last_is, g.few, g.counted) in
            let k : n + 1 ≡ min (n + 1) last = omega (arith, a.last_is, g.few, g.counted) in
            record {
              seen = inl (record { last_is = a.last_is; end_is = a.end_is; none = λ j x. more j x (a.none j) });
              stored = subst (Stored t₀ t at next) (ap (leaves_below p v) (sym i) ∙ sym (leaves-out p v n (leaf-out p (forest p) v n f)) ∙ ap (leaves_below p v) k) s.stored;
            }
        go (inr a) =
            let k : min n last ≡ min (n + 1) last = omega (arith, a.before) in
            record {
              seen = inr (record { before = omega (arith, a.before); end_is = a.end_is; holds = a.holds; none = λ j x y. more j y (a.none j x) });
              stored = subst (Stored t₀ t at next) (ap (leaves_below p v) k) s.stored;
            }

    -- the last node seen is a leaf
    pub pass-done : n ≡ count → (t' : List ℕ) (r : ℕ) → Stored t t' next r (cond (not (eqb last 65535)) (last ∷ []) []) → Stored t₀ t' at r (leaves_below p v count)
    pass-done e t' r w = subst (Stored t₀ t' at r) (sym (done n last end e s.seen) ∙ ap (leaves_below p v) e) (stored-join s.stored w)

    -- the next place and the last node are small numbers
    pub pass-next : next ≤ at + n
    pass-next = omega (arith, s.stored.next_is, leaves-few p v (min n last))

    pub pass-last : n ≤ count → last < 65536
    pass-last q = go s.seen
      where
        go : Seen p v n last end → last < 65536
        go (inl a) = omega (arith, a.last_is)
        go (inr a) = omega (arith, a.before, g.few, g.counted)
