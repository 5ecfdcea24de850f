-- The descendants of a node are the numbers from its own up to its end; the ends of siblings; and a loop from the last node down that raises the end of
-- each node's parent leaves the ends. Assumes nothing.
use Prim.Native.Nat.{ℕ, ◌+◌, ◌-◌, ◌≤◌, ◌<◌}
use native.Mathlib.Omega.{arith}
use native.Mathlib.Decide.{ℕ_discrete, dec_lt}
use mathlib.Core.Path.{◌≡◌, refl, sym, ap, ◌∙◌, subst}
use mathlib.Core.Logic.{◌⊎◌, inl, inr, ◌↔◌}
use mathlib.Core.Bool.{true, false, true≢false}
use mathlib.Core.List.Memᴰ
use mathlib.Core.List.{List, Memᴰ}
use lib.Dec.{eqb}
use lib.ListN.{length, get_or, set, length-set}
use lib.Seq.{get_or-set_same, get_or-set_other}
use Rattle.lists.specs.Lists.{any}
use Rattle.lists.proofs.Bools.{eqb≡, ≡eqb}
use Rattle.lists.proofs.Lists.{any_some, some-any}
use Rattle.lists.proofs.Filters.{interval-count}
use Rattle.policy.specs.declared.Policy.{Policy}
use Rattle.forest.specs.Forest.{Node, chain, child_of, forest}
use Rattle.forest.specs.Laws.{ForestLaws, parent_at, root_at}
use Rattle.forest.proofs.Chains.{chain-self, chain-lt, chain-trans}
use Rattle.forest.proofs.Children.{root_few, child-fewer, ordered-children, ordered-roots}
use Rattle.forest.proofs.Numbered.{numbered}
use Rattle.forest.proofs.Forest.{contiguous}
use Rattle.automaton.specs.Stages.{end_of}
use Rattle.automaton.proofs.Branch.{child-of, of-child, child-above, child-lt, child-between, child-unique}

-- ---- the end of a node
-- n, and the numbers up to end, are the nodes with n on their chain
abbrev pub Reaches : List Node → ℕ → ℕ → Type 0
Reaches ns n end = (n < end) × (end ≤ length ns) × ((j : ℕ) → j < length ns → Memᴰ n (chain ns j) ↔ ((n ≤ j) × (j < end)))

-- each node of number i and above has raised the end of its parent to its own
pub record Raised (ns : List Node) (ends : List ℕ) (i : ℕ) : Type 0 where
  pub long : length ns ≤ length ends
  pub own : (n : ℕ) → n < length ns → n < get_or ends n 0
  pub most : (n : ℕ) → n < length ns → get_or ends n 0 ≤ end_of ns n
  pub by_child : (n j : ℕ) → j < length ns → i ≤ j → child_of ns n j ≡ true → end_of ns j ≤ get_or ends n 0

module _ (p : Policy) (ns : List Node) (laws : ForestLaws p ns) where
  open laws use {parent_lt, level_up}

  end_is : (n end : ℕ) → Reaches ns n end → end ≡ end_of ns n
  unfolding end_of
  end_is n end r = omega (arith, r.0, r.1, interval-count (λ j. any (eqb n) (chain ns j)) n end (length ns) (omega (arith, r.0)) (λ j q. (λ t. (r.2 j q).0 (found j t), λ w. listed j ((r.2 j q).1 w))))
    where
      found : (j : ℕ) → any (eqb n) (chain ns j) ≡ true → Memᴰ n (chain ns j)
      found j t = let x = any_some (eqb n) (chain ns j) t in Memᴰ.cast (eqb≡ n x.0 x.2) x.1

      listed : (j : ℕ) → Memᴰ n (chain ns j) → any (eqb n) (chain ns j) ≡ true
      listed j k = some-any (eqb n) (chain ns j) n k (≡eqb n n refl)

  -- the descendants of n are the numbers from n up to its end
  pub reaches : (n : ℕ) → n < length ns → Reaches ns n (end_of ns n)
  reaches n l = let r = contiguous p ns laws n l in subst (Reaches ns n) (end_is n r.0 (r.1, r.2, r.3)) (r.1, r.2, r.3)

  pub end-gt : (n : ℕ) → n < length ns → n < end_of ns n
  end-gt n l = (reaches n l).0

  pub end-le : (n : ℕ) → n < length ns → end_of ns n ≤ length ns
  end-le n l = (reaches n l).1

  pub under-end : (n j : ℕ) → n < length ns → j < length ns → Memᴰ n (chain ns j) → (n ≤ j) × (j < end_of ns n)
  under-end n j l h m = ((reaches n l).2 j h).0 m

  pub end-under : (n j : ℕ) → n < length ns → n ≤ j → j < end_of ns n → Memᴰ n (chain ns j)
  end-under n j l a b = ((reaches n l).2 j (omega (arith, end-le n l))).1 (a, b)

  -- what is below n ends no later
  pub end-mono : (n j : ℕ) → j < length ns → Memᴰ n (chain ns j) → end_of ns j ≤ end_of ns n
  end-mono n j h m =
      let l = chain-lt ns parent_lt level_up j n h m in
      let last : ℕ = end_of ns j - 1 in
      let a = end-gt j h in
      let k : last < length ns = omega (arith, end-le j h) in
      omega (arith, (under-end n last l k (chain-trans ns parent_lt level_up last j n k (end-under j last h (omega arith) (omega arith)) m)).1)

  -- a child of n ends before the next one begins
  pub child-ends : (n c d : ℕ) → c < length ns → d < length ns → child_of ns n c ≡ true → child_of ns n d ≡ true → c < d → end_of ns c ≤ d
  child-ends n c d hc hd kc kd l = go (dec_lt d (end_of ns c))
    where
      go : Dec (d < end_of ns c) → end_of ns c ≤ d
      go (yes q) = absurd (omega (arith, child-unique p ns laws n c d d hd kc kd (end-under c d hc (omega arith) q) (chain-self ns d)))
      go (no q) = omega arith

  -- ---- the loop from the last node down
  -- at first each node ends right after itself
  pub raised-none : (ends : List ℕ) → length ns ≤ length ends → ((n : ℕ) → n < length ns → get_or ends n 0 ≡ n + 1) → Raised ns ends (length ns)
  raised-none ends long own = record {
    long = long;
    own = λ n l. omega (arith, own n l);
    most = λ n l. omega (arith, own n l, end-gt n l);
    by_child = λ n j h q k. absurd (omega arith);
  }

  -- where all children of n have raised it, it has its end
  pub raised-end : (ends : List ℕ) (i n : ℕ) → Raised ns ends i → i ≤ n + 1 → n < length ns → get_or ends n 0 ≡ end_of ns n
  raised-end ends i n r q l = go (child-between p ns laws n last h (end-under n last l (omega (arith, gt)) (omega (arith, gt))))
    where
      last : ℕ
      last = end_of ns n - 1

      gt : n < end_of ns n
      gt = end-gt n l

      h : last < length ns
      h = omega (arith, gt, end-le n l)

      go : (n ≡ last) ⊎ ((d : ℕ) × (child_of ns n d ≡ true) × Memᴰ d (chain ns last)) → get_or ends n 0 ≡ end_of ns n
      go (inl e) = omega (arith, r.own n l, r.most n l)
      go (inr s) =
          let d : ℕ = s.0 in
          let hd : d < length ns = chain-lt ns parent_lt level_up last d h s.2 in
          omega (arith, r.most n l, r.by_child n d hd (omega (arith, child-lt p ns laws n d hd s.1)) s.1, (under-end d last hd h s.2).1)

  pub raised_all : (ends : List ℕ) → Raised ns ends 0 → (n : ℕ) → n < length ns → get_or ends n 0 ≡ end_of ns n
  raised_all ends r n l = raised-end ends 0 n r (omega arith) l

  -- the children of a number i and above, those of i being known
  by_one : (ends : List ℕ) (i : ℕ) → Raised ns ends (i + 1) → ((n : ℕ) → i < length ns → child_of ns n i ≡ true → end_of ns i ≤ get_or ends n 0) → Raised ns ends i
  by_one ends i r at = record { long = r.long; own = r.own; most = r.most; by_child = λ n j h q k. go n j h q k (ℕ_discrete i j) }
    where
      go : (n j : ℕ) → j < length ns → i ≤ j → child_of ns n j ≡ true → Dec (i ≡ j) → end_of ns j ≤ get_or ends n 0
      go n j h q k (yes e) = subst (λ (x : ℕ). end_of ns x ≤ get_or ends n 0) e (at n (omega arith) (subst (λ (x : ℕ). child_of ns n x ≡ true) (sym e) k))
      go n j h q k (no e) = r.by_child n j h (omega arith) k

  -- a root raises nothing
  pub raised-root : (ends : List ℕ) (i : ℕ) → Raised ns ends (i + 1) → root_at ns i ≡ true → Raised ns ends i
  raised-root ends i r t = by_one ends i r (λ n h k. absurd (true≢false (sym t ∙ (child-of ns n i k).0)))

  -- the parent ends no earlier already
  pub raised-kept : (ends : List ℕ) (i : ℕ) → Raised ns ends (i + 1) → i < length ns → get_or ends i 0 ≤ get_or ends (parent_at ns i) 0 → Raised ns ends i
  raised-kept ends i r l q = by_one ends i r (λ n h k. let z = (child-of ns n i k).1 in subst (λ (x : ℕ). end_of ns i ≤ get_or ends x 0) z (omega (arith, raised-end ends (i + 1) i r (omega arith) l)))

  -- it ends earlier, and is raised
  pub raised-more : (ends : List ℕ) (i : ℕ) → Raised ns ends (i + 1) → i < length ns → root_at ns i ≡ false → get_or ends (parent_at ns i) 0 ≤ get_or ends i 0
      → Raised ns (set ends (parent_at ns i) (get_or ends i 0)) i
  raised-more ends i r l f q =
      by_one ends' i
      (record {
        long = omega (arith, length-set ends q' x, r.long);
        own = λ n h. rise n (λ y. n < y) (r.own n h) (λ e. omega (arith, r.own n h, ap (λ (z : ℕ). get_or ends z 0) e)) (ℕ_discrete n q');
        most = λ n h. rise n (λ y. y ≤ end_of ns n) (r.most n h) (λ e. top n e) (ℕ_discrete n q');
        by_child = λ n j h a k. rise n (λ y. end_of ns j ≤ y) (r.by_child n j h a k) (λ e. omega (arith, r.by_child n j h a k, ap (λ (z : ℕ). get_or ends z 0) e)) (ℕ_discrete n q');
      })
      (λ n h k. subst (λ (y : ℕ). end_of ns i ≤ get_or ends' y 0) (child-of ns n i k).1 (omega (arith, at, is)))
    where
      q' : ℕ
      q' = parent_at ns i

      x : ℕ
      x = get_or ends i 0

      ends' : List ℕ
      ends' = set ends q' x

      is : x ≡ end_of ns i
      is = raised-end ends (i + 1) i r (omega arith) l

      at : get_or ends' q' 0 ≡ x
      at = get_or-set_same ends q' x 0 (omega (arith, parent_lt i l f, r.long))

      top : (n : ℕ) → n ≡ q' → x ≤ end_of ns n
      top n e = omega (arith, is, end-mono n i l (child-above p ns laws n i l (of-child ns n i f (sym e))))

      rise : (n : ℕ) (P : ℕ → Type 0) → P (get_or ends n 0) → (n ≡ q' → P x) → Dec (n ≡ q') → P (get_or ends' n 0)
      rise n P a b (yes e) = subst P (sym (ap (λ (z : ℕ). get_or ends' z 0) e ∙ at)) (b e)
      rise n P a b (no e) = subst P (sym (get_or-set_other ends q' n x 0 e)) a

-- ---- roots in the table
-- the parent of a root is written as 65,535
pub root_parent : (p : Policy) (n : ℕ) → n < length (forest p) → root_at (forest p) n ≡ true → parent_at (forest p) n ≡ 65535
root_parent p = (numbered p (child-fewer p) (root_few p) (ordered-children p) (ordered-roots p)).root_parent
