-- The forest of every legal policy has the laws of specs/Laws; and the descendants of a node have the numbers from its own up to some end,
-- without a gap. Assumes nothing.
use Prim.Native.Nat.{ℕ, suc, ◌+◌, ◌≤◌, ◌<◌}
use native.Mathlib.Omega.{arith}
use native.Mathlib.Decide.{dec_lt}
use native.Mathlib.Numerals.{add-one}
use mathlib.Core.Path.{◌≡◌, refl, sym, ap, ◌∙◌, subst}
use mathlib.Core.Logic.{◌⊎◌, inl, inr, ◌↔◌}
use mathlib.Core.Bool.{true, false, not, true≢false}
use mathlib.Core.List.Memᴰ
use mathlib.Core.List.{List, Memᴰ}
use lib.Dec.{eqb}
use lib.ListN.{length}
use Rattle.lists.specs.Lists.{any}
use Rattle.lists.proofs.Bools.{test, eqb≡, ≡eqb}
use Rattle.lists.proofs.Lists.{any_some, some-any}
use Rattle.lists.proofs.Least.{interval}
use Rattle.masks.specs.Masks.{inside, properly}
use Rattle.policy.specs.declared.Policy.{Policy}
use Rattle.policy.specs.Policies.{accepting, legal}
use Rattle.policy.proofs.Laws.{legal-target}
use Rattle.graph.specs.Cycles.{is_cycle, contains}
use Rattle.forest.specs.Forest.{Node, before, most_levels, levels_left, even, priority, node, chain, child_of, forest}
use Rattle.forest.specs.Laws.{ForestLaws, mask_at, parent_at, root_at}
use Rattle.forest.proofs.Order.{before-irreflexive}
use Rattle.forest.proofs.Chains.{chain-self, chain-root, by-parent, chain-cases, chain-le, chain-trans}
use Rattle.forest.proofs.Children.{root-cycle, root_few, root-unique, in-root, child, in_child, child-fewer, ordered-children, ordered-roots}
use Rattle.forest.proofs.Levels.{plain-levels, levels-most, levels-child, levels-some}
use Rattle.forest.proofs.Priorities.{root-even, child-even, child-larger}
use Rattle.forest.proofs.Numbered.{Numbered, numbered}

module _ (p : Policy) (leg : legal p ≡ true) (ns : List Node) (numbers : Numbered p ns) where
  -- a law of all nodes, from the roots down
  down : (P : ℕ → Type 0) → ((n : ℕ) → n < length ns → root_at ns n ≡ true → P n) → ((n : ℕ) → n < length ns → root_at ns n ≡ false → P (parent_at ns n) → P n)
      → (n : ℕ) → n < length ns → P n
  down = by-parent ns numbers.parent_lt numbers.level_up

  cycle-at : (n : ℕ) → n < length ns → is_cycle p (mask_at ns n) ≡ true
  cycle-at n l = go (test (root_at ns n))
    where
      go : (root_at ns n ≡ true) ⊎ (root_at ns n ≡ false) → is_cycle p (mask_at ns n) ≡ true
      go (inl t) = root-cycle p (mask_at ns n) (numbers.root_mask n l t)
      go (inr f) = (child p (mask_at ns (parent_at ns n)) (mask_at ns n) (numbers.child_mask n l f)).cycle

  within-at : (n : ℕ) → n < length ns → root_at ns n ≡ false → properly (mask_at ns n) (mask_at ns (parent_at ns n)) ≡ true
  within-at n l f = (child p (mask_at ns (parent_at ns n)) (mask_at ns n) (numbers.child_mask n l f)).within

  turned-at : (n : ℕ) → n < length ns → root_at ns n ≡ false → accepting p (mask_at ns n) ≡ not (accepting p (mask_at ns (parent_at ns n)))
  turned-at n l f = (child p (mask_at ns (parent_at ns n)) (mask_at ns n) (numbers.child_mask n l f)).turned

  in-child-at : (n : ℕ) → n < length ns → (x : ℕ) → is_cycle p x ≡ true → inside x (mask_at ns n) ≡ true → accepting p x ≡ not (accepting p (mask_at ns n))
      → (j : ℕ) × (j < length ns) × (child_of ns n j ≡ true) × (inside x (mask_at ns j) ≡ true)
  in-child-at n l x c i t =
      let r = in_child p (mask_at ns n) x c i t in
      let j = numbers.mask_child n l r.0 r.1 in
      (j.0, j.1, j.2, ap (inside x) j.3 ∙ r.2)

  in-root-at : (x : ℕ) → is_cycle p x ≡ true → (n : ℕ) × (n < length ns) × (root_at ns n ≡ true) × (inside x (mask_at ns n) ≡ true)
  in-root-at x c =
      let r = in-root p x c in
      let n = numbers.mask_root r.0 r.1 in
      (n.0, n.1, n.2, ap (inside x) n.3 ∙ r.2)

  -- two roots with one mask have one number, as siblings stand in order
  one_number : (i j : ℕ) → i < length ns → j < length ns → root_at ns i ≡ true → root_at ns j ≡ true → mask_at ns i ≡ mask_at ns j → i ≡ j
  one_number i j li lj ri rj e = go (dec_lt i j) (dec_lt j i)
    where
      never : (a b : ℕ) → a < b → b < length ns → root_at ns a ≡ true → root_at ns b ≡ true → mask_at ns a ≡ mask_at ns b → ⊥
      never a b l lb ra rb e =
          true≢false (sym (numbers.ordered a b l lb (inl (ra, rb))) ∙ ap (λ (m : ℕ). before m (mask_at ns b)) e ∙ before-irreflexive (mask_at ns b))

      go : Dec (i < j) → Dec (j < i) → i ≡ j
      go (yes l) d = absurd (never i j l lj ri rj e)
      go (no n) (yes l) = absurd (never j i l li rj ri (sym e))
      go (no n) (no k) = omega arith

  apart-at : (i j : ℕ) → i < length ns → j < length ns → root_at ns i ≡ true → root_at ns j ≡ true
      → (v : ℕ) → contains p v (mask_at ns i) ≡ true → contains p v (mask_at ns j) ≡ true → i ≡ j
  apart-at i j li lj ri rj v ci cj =
      one_number i j li lj ri rj (root-unique p (legal-target p leg) (mask_at ns i) (mask_at ns j) (numbers.root_mask i li ri) (numbers.root_mask j lj rj) v ci cj)

  left-levels : (n : ℕ) → n < length ns → levels_left p (mask_at ns n) + (node ns n).level ≤ most_levels p
  left-levels = down (λ n. levels_left p (mask_at ns n) + (node ns n).level ≤ most_levels p) base more
    where
      base : (n : ℕ) → n < length ns → root_at ns n ≡ true → levels_left p (mask_at ns n) + (node ns n).level ≤ most_levels p
      base n l t = omega (arith, eqb≡ (node ns n).level 0 t, levels-most p leg (mask_at ns n))

      more : (n : ℕ) → n < length ns → root_at ns n ≡ false → levels_left p (mask_at ns (parent_at ns n)) + (node ns (parent_at ns n)).level ≤ most_levels p
          → levels_left p (mask_at ns n) + (node ns n).level ≤ most_levels p
      more n l f ih = omega (arith, numbers.level_up n l f, levels-child p (mask_at ns (parent_at ns n)) (mask_at ns n) (numbers.child_mask n l f))

  levels-at : (n : ℕ) → n < length ns → (node ns n).level < most_levels p
  levels-at n l = omega (arith, left-levels n l, levels-some p (mask_at ns n) (cycle-at n l))

  rooted-at : (n r : ℕ) → n < length ns → Memᴰ r (chain ns n) → root_at ns r ≡ true → (node ns n).accepted ≡ accepting p (mask_at ns r)
  rooted-at n r l = down (λ n. Memᴰ r (chain ns n) → root_at ns r ≡ true → (node ns n).accepted ≡ accepting p (mask_at ns r)) base more n l
    where
      of : (n : ℕ) → n < length ns → r ≡ n → root_at ns r ≡ true → (node ns n).accepted ≡ accepting p (mask_at ns r)
      of n l e t = numbers.accepted_root n l (ap (root_at ns) (sym e) ∙ t) ∙ ap (λ (i : ℕ). accepting p (mask_at ns i)) (sym e)

      base : (n : ℕ) → n < length ns → root_at ns n ≡ true → Memᴰ r (chain ns n) → root_at ns r ≡ true → (node ns n).accepted ≡ accepting p (mask_at ns r)
      base n l t k = of n l (Memᴰ.eq_of_singleton (subst (λ (c : List ℕ). Memᴰ r c) (chain-root ns n t) k))

      more : (n : ℕ) → n < length ns → root_at ns n ≡ false → (Memᴰ r (chain ns (parent_at ns n)) → root_at ns r ≡ true → (node ns (parent_at ns n)).accepted ≡ accepting p (mask_at ns r))
          → Memᴰ r (chain ns n) → root_at ns r ≡ true → (node ns n).accepted ≡ accepting p (mask_at ns r)
      more n l f ih k t = go (chain-cases ns numbers.parent_lt numbers.level_up n r l k)
        where
          go : (r ≡ n) ⊎ ((root_at ns n ≡ false) × Memᴰ r (chain ns (parent_at ns n))) → (node ns n).accepted ≡ accepting p (mask_at ns r)
          go (inl e) = of n l e t
          go (inr u) = numbers.accepted_child n l f ∙ ih u.1 t

  even-at : (n : ℕ) → n < length ns → even (priority p (node ns n)) ≡ accepting p (mask_at ns n)
  even-at = down (λ n. even (priority p (node ns n)) ≡ accepting p (mask_at ns n)) (λ n l t. root-even p (node ns n) t ∙ numbers.accepted_root n l t) more
    where
      more : (n : ℕ) → n < length ns → root_at ns n ≡ false → even (priority p (node ns (parent_at ns n))) ≡ accepting p (mask_at ns (parent_at ns n)) → even (priority p (node ns n)) ≡ accepting p (mask_at ns n)
      more n l f ih = child-even p (node ns (parent_at ns n)) (node ns n) (numbers.level_up n l f) (numbers.accepted_child n l f) ∙ ap not ih ∙ sym (turned-at n l f)

  grows_at : (n : ℕ) → n < length ns → root_at ns n ≡ false → priority p (node ns (parent_at ns n)) < priority p (node ns n)
  grows_at n l f = child-larger p (node ns (parent_at ns n)) (node ns n) (numbers.level_up n l f) (numbers.accepted_child n l f)

  numbered-laws : ForestLaws p ns
  numbered-laws = record {
    parent_lt = numbers.parent_lt;
    level_up = numbers.level_up;
    cycle = cycle-at;
    within = within-at;
    turned = turned-at;
    in_child = in-child-at;
    in-root = in-root-at;
    apart = apart-at;
    ordered = numbers.ordered;
    depth_first = numbers.depth_first;
    levels = levels-at;
    rooted = rooted-at;
    even_accepting = even-at;
    priority_grows = grows_at;
    root_mask = numbers.root_mask;
    mask_root = numbers.mask_root;
    child_mask = numbers.child_mask;
    mask_child = numbers.mask_child;
  }

pub forest-laws : (p : Policy) → legal p ≡ true → ForestLaws p (forest p)
forest-laws p leg = numbered-laws p leg (forest p) (numbered p (child-fewer p) (root_few p) (ordered-children p) (ordered-roots p))

-- ---- descendants
module _ (p : Policy) (ns : List Node) (laws : ForestLaws p ns) where
  -- the descendants of n are the numbers from n up to some end
  pub contiguous : (n : ℕ) → n < length ns → (end : ℕ) × (n < end) × (end ≤ length ns) × ((j : ℕ) → j < length ns → Memᴰ n (chain ns j) ↔ ((n ≤ j) × (j < end)))
  contiguous n l = go (interval (λ j. any (eqb n) (chain ns j)) n (length ns) l (listed n (chain-self ns n)) (λ j q t. chain-le ns laws.parent_lt laws.level_up j n q (found j t)) back)
    where
      found : (j : ℕ) → any (eqb n) (chain ns j) ≡ true → Memᴰ n (chain ns j)
      found j t = let r = any_some (eqb n) (chain ns j) t in Memᴰ.cast (eqb≡ n r.0 r.2) r.1

      listed : (j : ℕ) → Memᴰ n (chain ns j) → any (eqb n) (chain ns j) ≡ true
      listed j k = some-any (eqb n) (chain ns j) n k (≡eqb n n refl)

      -- an ancestor of the next node, other than that node, is one of j
      back : (j : ℕ) → n ≤ j → suc j < length ns → any (eqb n) (chain ns (suc j)) ≡ true → any (eqb n) (chain ns j) ≡ true
      back j i q t = listed j (up (chain-cases ns laws.parent_lt laws.level_up (suc j) n q (found (suc j) t)))
        where
          df : (root_at ns (suc j) ≡ true) ⊎ Memᴰ (parent_at ns (suc j)) (chain ns j)
          df = subst (λ (x : ℕ). (root_at ns x ≡ true) ⊎ Memᴰ (parent_at ns x) (chain ns j)) (add-one j) (laws.depth_first j (omega arith))

          under : root_at ns (suc j) ≡ false → Memᴰ n (chain ns (parent_at ns (suc j))) → (root_at ns (suc j) ≡ true) ⊎ Memᴰ (parent_at ns (suc j)) (chain ns j) → Memᴰ n (chain ns j)
          under f k (inl r) = absurd (true≢false (sym r ∙ f))
          under f k (inr m) = chain-trans ns laws.parent_lt laws.level_up j (parent_at ns (suc j)) n (omega arith) m k

          up : (n ≡ suc j) ⊎ ((root_at ns (suc j) ≡ false) × Memᴰ n (chain ns (parent_at ns (suc j)))) → Memᴰ n (chain ns j)
          up (inl e) = absurd (omega (arith, e))
          up (inr k) = under k.0 k.1 df

      go : ((end : ℕ) × (n < end) × (end ≤ length ns) × ((j : ℕ) → j < length ns → (any (eqb n) (chain ns j) ≡ true) ↔ ((n ≤ j) × (j < end))))
          → (end : ℕ) × (n < end) × (end ≤ length ns) × ((j : ℕ) → j < length ns → Memᴰ n (chain ns j) ↔ ((n ≤ j) × (j < end)))
      go r = (r.0, r.1, r.2, λ j q. (λ k. (r.3 j q).0 (listed j k), λ w. found j ((r.3 j q).1 w)))

-- where no edge is quiet, F7 is document 01's: a tree has at most as many levels as there are colours
pub plain-level : (p : Policy) → legal p ≡ true → p.quiet ≡ 0 → (n : ℕ) → n < length (forest p) → (node (forest p) n).level < p.colours
plain-level p lawful plain n l = omega (arith, (forest-laws p lawful).levels n l, plain-levels p plain)
