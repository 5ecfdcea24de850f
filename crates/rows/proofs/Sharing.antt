-- What stands below the child of a node that leads to a leaf has the row of that leaf, by every edge that the node has and the child has not; and the laws
-- that the search for a row is proved by. Assumes nothing.
use Prim.Native.Nat.{ℕ, ◌+◌, ◌≤◌, ◌<◌}
use native.Mathlib.Omega.{arith}
use native.Mathlib.Nat.{le_refl}
use mathlib.Core.Path.{◌≡◌, refl, sym, ap, ◌∙◌, subst}
use mathlib.Core.Logic.{◌⊎◌, inl, inr, ◌≢◌}
use mathlib.Core.Bool.{Bool, true, false, not}
use mathlib.Core.List.{List, Memᴰ}
use lib.ListN.{length, get_or}
use Rattle.lists.proofs.Bools.{test, neqb, not-true}
use Rattle.masks.specs.Masks.{has}
use Rattle.policy.specs.declared.Policy.{Policy}
use Rattle.policy.specs.Policies.{target_of}
use Rattle.forest.specs.Forest.{Node, forest, chain, child_of, in_root}
use Rattle.forest.specs.Laws.{ForestLaws, mask_at}
use Rattle.forest.proofs.Chains.{chain-le, chain-lt}
use Rattle.forest.proofs.Forest.{forest-laws}
use Rattle.automaton.specs.Automaton.{next, deepest, lead, kids, is_leaf, entered, first_leaf_below, leaf_after, priority_after, number}
use Rattle.automaton.specs.Stages.{end_of}
use Rattle.rows.specs.Rows.{RowFrom, SharedBy}
use Rattle.automaton.proofs.Branch.{child-lt, child-between, lead_is, deepest-under, deepest-at}
use Rattle.automaton.proofs.Leaves.{Meets, entered-next, after-out, after-at, after-in}
use Rattle.automaton.proofs.Ends.{end-le, under-end, end-under}
use Rattle.rows.proofs.Climbing.{lead-self}
use Rattle.rows.proofs.Finding.{Place, Run, find-meets, find-rooted, find-child, place-small}

-- ---- below one child
module _ (p : Policy) (ns : List Node) (laws : ForestLaws p ns) (e l : ℕ) (t : in_root ns e ≡ true) (g : Meets ns p e l) (off : lead ns (deepest ns e l) l ≢ deepest ns e l) where
  open laws use {parent_lt, level_up}

  abbrev n : ℕ
  n = deepest ns e l

  abbrev c : ℕ
  c = lead ns n l

  leads : (child_of ns n c ≡ true) × Memᴰ c (chain ns l)
  leads = go (child-between p ns laws n l g.leaf_range g.node_above)
    where
      go : (n ≡ l) ⊎ ((d : ℕ) × (child_of ns n d ≡ true) × Memᴰ d (chain ns l)) → (child_of ns n c ≡ true) × Memᴰ c (chain ns l)
      go (inl q) = absurd (off (ap (λ (x : ℕ). lead ns x l) q ∙ lead-self p ns laws l g.leaf_range ∙ sym q))
      go (inr s) =
          let is = lead_is p ns laws n s.0 l g.leaf_range s.1 s.2 in
          (subst (λ (x : ℕ). child_of ns n x ≡ true) (sym is) s.1, subst (λ (x : ℕ). Memᴰ x (chain ns l)) (sym is) s.2)

  lead-in : c < length ns
  lead-in = chain-lt ns parent_lt level_up l c g.leaf_range leads.1

  above : n < c
  above = child-lt p ns laws n c lead-in leads.0

  -- the child lacks the edge, or it would be the deepest node that has it
  lacks : has (mask_at ns c) e ≡ false
  lacks = go (test (has (mask_at ns c) e))
    where
      go : (has (mask_at ns c) e ≡ true) ⊎ (has (mask_at ns c) e ≡ false) → has (mask_at ns c) e ≡ false
      go (inl u) = absurd (omega (arith, above, chain-le ns parent_lt level_up n c g.node_range (deepest-under p ns laws e c l g.leaf_range u leads.1)))
      go (inr f) = f

  -- the leaf itself is below it
  pub below_self : (c ≤ l) × (l < end_of ns c)
  below_self = under-end p ns laws c l lead-in g.leaf_range leads.1

  module _ (k : ℕ) (a : c ≤ k) (b : k < end_of ns c) where
    in_range : k < length ns
    in_range = omega (arith, end-le p ns laws c lead-in)

    under : Memᴰ c (chain ns k)
    under = end-under p ns laws c k lead-in a b

    deepest-same : deepest ns e k ≡ n
    deepest-same = deepest-at p ns laws e n c k in_range leads.0 under lacks g.node_has

    entered-same : (w : ℕ) → entered ns p w n k ≡ entered ns p w n l
    entered-same w =
        entered-next ns p w n k (neqb k n (λ q. omega (arith, q, above))) ∙ ap (λ (x : ℕ). next x (kids ns p w n)) (lead_is p ns laws n c k in_range leads.0 under)
        ∙ sym (entered-next ns p w n l (neqb l n (λ q. omega (arith, q, above, below_self))))

    pub leaf-same : leaf_after ns p e k ≡ leaf_after ns p e l
    leaf-same = go (test (is_leaf ns p (target_of p e) n))
      where
        go : (is_leaf ns p (target_of p e) n ≡ true) ⊎ (is_leaf ns p (target_of p e) n ≡ false) → leaf_after ns p e k ≡ leaf_after ns p e l
        go (inl u) = after-at ns p e k t (ap (is_leaf ns p (target_of p e)) deepest-same ∙ u) ∙ deepest-same ∙ sym (after-at ns p e l t u)
        go (inr u) =
            after-in ns p e k t (ap (is_leaf ns p (target_of p e)) deepest-same ∙ u)
            ∙ ap (first_leaf_below ns p (target_of p e)) (ap (λ (x : ℕ). entered ns p (target_of p e) x k) deepest-same ∙ entered-same (target_of p e)) ∙ sym (after-in ns p e l t u)

    pub priority-same : priority_after ns p e k ≡ priority_after ns p e l
    unfolding priority_after
    priority-same = rw deepest-same refl

-- where no root has the edge, the leaf does not matter
priority-out : (p : Policy) (ns : List Node) (e k l : ℕ) → in_root ns e ≡ false → priority_after ns p e k ≡ priority_after ns p e l
unfolding priority_after
priority-out p ns e k l f = rw f refl

-- ---- the row found, and the leaves that share it
module _ (p : Policy) (ends entries : List ℕ) (e l : ℕ) (met : Bool) (at child priority from to : ℕ) (a : Place p e l met at child priority) (b : Run p ends entries e from to) where
  row : (r : ℕ) → r ≡ number p (target_of p e) (leaf_after (forest p) p e l) → RowFrom p e l r priority
  row r q = record { target_is = q; priority_is = a.3.priority_is }

  -- from a leaf with the same row
  same : (k r : ℕ) → leaf_after (forest p) p e k ≡ leaf_after (forest p) p e l → priority_after (forest p) p e k ≡ priority_after (forest p) p e l
      → r ≡ number p (target_of p e) (leaf_after (forest p) p e l) → RowFrom p e k r priority
  same k r u v q = record { target_is = q ∙ ap (number p (target_of p e)) (sym u); priority_is = a.3.priority_is ∙ sym v }

  pub shared-out : (r : ℕ) → not met ≡ true → r ≡ number p (target_of p e) (leaf_after (forest p) p e l) → SharedBy p e l 0 65536 r priority
  shared-out r f q =
      let out : in_root (forest p) e ≡ false = sym a.3.in-root ∙ not-true met f in
      record { low = omega arith; high = place-small p ends entries e l met at child priority from to a b; all = λ k x y. same k r (after-out (forest p) p e k out ∙ sym (after-out (forest p) p e l out)) (priority-out p (forest p) e k l out) q }

  pub shared-own : (r : ℕ) → r ≡ number p (target_of p e) (leaf_after (forest p) p e l) → SharedBy p e l l (l + 1) r priority
  shared-own r q = record {
    low = le_refl l;
    high = omega arith;
    all = λ k x y. let z : l ≡ k = omega arith in subst (λ (j : ℕ). RowFrom p e j r priority) z (row r q);
  }

  pub shared-below : not met ≡ false → child ≢ at → (x r : ℕ) → x ≡ get_or ends child 0 → r ≡ number p (target_of p e) (leaf_after (forest p) p e l) → SharedBy p e l child x r priority
  shared-below f q x r is w =
      let g = find-meets p ends entries e l met at child priority from to a b f in
      let t = find-rooted p ends entries e l met at child priority from to a b f in
      let i = find-child p ends entries e l met at child priority from to a b f in
      let laws = forest-laws p a.0 in
      let off : lead (forest p) (deepest (forest p) e l) l ≢ deepest (forest p) e l = λ z. q (i.0 ∙ z ∙ sym i.1) in
      let s = below_self p (forest p) laws e l t g off in
      let end : x ≡ end_of (forest p) (lead (forest p) (deepest (forest p) e l) l) = is ∙ i.2 in
      record {
        low = omega (arith, i.0, s.0);
        high = omega (arith, end, s.1);
        all = λ k y z. same k r (leaf-same p (forest p) laws e l t g off k (omega (arith, i.0)) (omega (arith, end))) (priority-same p (forest p) laws e l t g off k (omega (arith, i.0)) (omega (arith, end))) w;
      }
