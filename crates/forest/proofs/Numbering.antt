-- The numbering of priorities, over the forest of a legal policy: what it means that they begin at 0, the lowest, where they lie, and that one fewer is in use
-- where some are other than in document 01. Every legal policy has a node. Assumes nothing.
use Prim.Native.Nat.{ℕ, zero, suc, ◌+◌, ◌-◌, ◌≤◌, ◌<◌}
use native.Mathlib.Omega.{arith}
use native.Mathlib.Decide.{dec_lt, ℕ_discrete}
use native.Mathlib.Numerals.{add-one}
use mathlib.Core.Path.{◌≡◌, refl, sym, ap, ◌∙◌, subst}
use mathlib.Core.Logic.{◌⊎◌, inl, inr, ◌↔◌, ◌≢◌}
use mathlib.Core.Bool.{Bool, true, false, ◌&&◌, cond, true≢false}
use mathlib.Core.List.{map, Memᴰ}
use lib.Dec.{eqb}
use lib.ListN.{length, length-map, get_or-eq_default}
use Rattle.lists.specs.Lists.{any, greatest, lowest}
use Rattle.lists.proofs.Bools.{test, eqb≡, ≡eqb, and_l, and_r, both}
use Rattle.lists.proofs.Lists.{any_some, some-any, get_or-mem, mem-at}
use Rattle.lists.proofs.Extremes.{greatest-le, greatest-mem, lowest-le, lowest-mem}
use Rattle.policy.specs.declared.Policy.{Policy}
use Rattle.policy.specs.Policies.{legal}
use Rattle.graph.proofs.Walks.{some-cycle}
use Rattle.forest.specs.Forest.{Node, most_levels, forest, greatest_level, from_zero, priority, transient_priority, node, chain}
use Rattle.forest.specs.Laws.{ForestLaws, parent_at, root_at}
use Rattle.forest.specs.Numbering.{AcceptingMost, PriorityBounds, plain_priority, InUse, OneFewer}
use Rattle.forest.proofs.Chains.{by-parent, chain-up, chain-lt, chain-trans, chain-top}
use Rattle.forest.proofs.Columns.{mapped_in, mapped-from}
use Rattle.forest.proofs.Children.{root_few, child-fewer, ordered-children, ordered-roots}
use Rattle.forest.proofs.Levels.{most-levels-few}
use Rattle.forest.proofs.Priorities.{priority_is, plain-kept, plain-rejecting}
use Rattle.forest.proofs.Numbered.{Numbered, numbered}
use Rattle.forest.proofs.Forest.{forest-laws}

abbrev none : Node
none = record { mask = 0; parent = 0; level = 0; accepted = false }

module _ (p : Policy) (lawful : legal p ≡ true) where
  laws : ForestLaws p (forest p)
  laws = forest-laws p lawful

  pub forest-some : 0 < length (forest p)
  forest-some = let c = some-cycle p lawful in let r = laws.in-root c.0 c.1 in omega (arith, r.1)

  -- ---- nodes as members
  member : (n : ℕ) → n < length (forest p) → Memᴰ (node (forest p) n) (forest p)
  unfolding node
  member n l = get_or-mem (forest p) n none l

  numbered-as : (x : Node) → Memᴰ x (forest p) → (n : ℕ) × (n < length (forest p)) × (node (forest p) n ≡ x)
  unfolding node
  numbered-as x m = mem-at (forest p) none x m

  -- past the last node stands one with a rejecting root
  absent-is : (n : ℕ) → (n < length (forest p) → ⊥) → node (forest p) n ≡ none
  unfolding node
  absent-is n h = get_or-eq_default (forest p) none {n = n} (omega (arith, h))

  -- ---- levels
  pub level-le : (n : ℕ) → n < length (forest p) → (node (forest p) n).level ≤ greatest_level p
  unfolding greatest_level
  level-le n l = greatest-le (map (λ (x : Node). x.level) (forest p)) (node (forest p) n).level (mapped_in p (λ (x : Node). x.level) n l)

  -- a node of the greatest level
  bottom : (n : ℕ) × (n < length (forest p)) × ((node (forest p) n).level ≡ greatest_level p)
  unfolding greatest_level
  bottom =
      let levels = map (λ (x : Node). x.level) (forest p) in
      let n = mapped-from p (λ (x : Node). x.level) (greatest levels) (greatest-mem levels (omega (arith, forest-some, length-map (forest p) (λ (x : Node). x.level)))) in
      (n.0, n.1, sym n.2)

  -- one whose root has the verdict a
  abbrev pub Bottom : Bool → Type 0
  Bottom a = (n : ℕ) × (n < length (forest p)) × ((node (forest p) n).level ≡ greatest_level p) × ((node (forest p) n).accepted ≡ a)

  -- each level above a node has a node of its tree
  above : (n : ℕ) → n < length (forest p) → (k : ℕ) → k ≤ (node (forest p) n).level
      → (m : ℕ) × (m < length (forest p)) × ((node (forest p) m).level ≡ k) × ((node (forest p) m).accepted ≡ (node (forest p) n).accepted)
  above = by-parent (forest p) laws.parent_lt laws.level_up Above base more
    where
      Above : ℕ → Type 0
      Above n = (k : ℕ) → k ≤ (node (forest p) n).level → (m : ℕ) × (m < length (forest p)) × ((node (forest p) m).level ≡ k) × ((node (forest p) m).accepted ≡ (node (forest p) n).accepted)

      numbers : Numbered p (forest p)
      numbers = numbered p (child-fewer p) (root_few p) (ordered-children p) (ordered-roots p)

      base : (n : ℕ) → n < length (forest p) → root_at (forest p) n ≡ true → Above n
      base n l t k h = (n, l, omega (arith, eqb≡ (node (forest p) n).level 0 t), refl)

      more : (n : ℕ) → n < length (forest p) → root_at (forest p) n ≡ false → Above (parent_at (forest p) n) → Above n
      more n l f ih k h = go (ℕ_discrete (node (forest p) n).level k)
        where
          go : Dec ((node (forest p) n).level ≡ k) → (m : ℕ) × (m < length (forest p)) × ((node (forest p) m).level ≡ k) × ((node (forest p) m).accepted ≡ (node (forest p) n).accepted)
          go (yes e) = (n, l, e, refl)
          go (no u) = let m = ih k (omega (arith, laws.level_up n l f, u)) in (m.0, m.1, m.2, m.3 ∙ sym (numbers.accepted_child n l f))

  -- a node that is no root has the root of the node before it
  pub accepted-before : (n : ℕ) → suc n < length (forest p) → root_at (forest p) (suc n) ≡ false → (node (forest p) (suc n)).accepted ≡ (node (forest p) n).accepted
  accepted-before n l f = go (subst (λ (x : ℕ). (root_at (forest p) x ≡ true) ⊎ Memᴰ (parent_at (forest p) x) (chain (forest p) n)) (add-one n) (laws.depth_first n (omega arith)))
    where
      go : (root_at (forest p) (suc n) ≡ true) ⊎ Memᴰ (parent_at (forest p) (suc n)) (chain (forest p) n) → (node (forest p) (suc n)).accepted ≡ (node (forest p) n).accepted
      go (inl t) = absurd (true≢false (sym t ∙ f))
      go (inr m) =
          let up = chain-lt (forest p) laws.parent_lt laws.level_up n (parent_at (forest p) (suc n)) (omega arith) m in
          let r = chain-top (forest p) laws.parent_lt laws.level_up (parent_at (forest p) (suc n)) up in
          laws.rooted (suc n) r.0 l (chain-up (forest p) laws.parent_lt laws.level_up (suc n) r.0 l f r.1) r.2
          ∙ sym (laws.rooted n r.0 (omega arith) (chain-trans (forest p) laws.parent_lt laws.level_up n (parent_at (forest p) (suc n)) r.0 (omega arith) m r.1) r.2)

  -- ---- where priorities begin
  -- at 0 exactly if some node of the greatest level has an accepting root
  begin : (from_zero p ≡ true) ↔ Bottom true
  unfolding from_zero
  begin = (to, back)
    where
      deep : Node → Bool
      deep x = eqb x.level (greatest_level p)

      to : any (λ (x : Node). deep x && x.accepted) (forest p) ≡ true → Bottom true
      to t =
          let x = any_some (λ (x : Node). deep x && x.accepted) (forest p) t in
          let n = numbered-as x.0 x.1 in
          (n.0, n.1, ap (λ (x : Node). x.level) n.2 ∙ eqb≡ x.0.level (greatest_level p) (and_l (deep x.0) x.0.accepted x.2), ap (λ (x : Node). x.accepted) n.2 ∙ and_r (deep x.0) x.0.accepted x.2)

      back : Bottom true → any (λ (x : Node). deep x && x.accepted) (forest p) ≡ true
      back d =
          let x = node (forest p) d.0 in
          some-any (λ (x : Node). deep x && x.accepted) (forest p) x (member d.0 d.1) (both (deep x) x.accepted (≡eqb x.level (greatest_level p) d.2) d.3)

  pub from-zero : from_zero p ≡ true → Bottom true
  from-zero = begin.0

  zero-from : (n : ℕ) → n < length (forest p) → (node (forest p) n).level ≡ greatest_level p → (node (forest p) n).accepted ≡ true → from_zero p ≡ true
  zero-from n l e a = begin.1 (n, l, e, a)

  -- where they begin at 1, an accepting tree has fewer levels
  pub lower : from_zero p ≡ false → (n : ℕ) → n < length (forest p) → (node (forest p) n).accepted ≡ true → (node (forest p) n).level < greatest_level p
  lower f n l a = go (ℕ_discrete (node (forest p) n).level (greatest_level p))
    where
      go : Dec ((node (forest p) n).level ≡ greatest_level p) → (node (forest p) n).level < greatest_level p
      go (yes e) = absurd (true≢false (sym (zero-from n l e a) ∙ f))
      go (no u) = omega (arith, level-le n l, u)

  -- and a tree that has the most is rejecting
  pub bottom-rejects : from_zero p ≡ false → Bottom false
  bottom-rejects f = let n = bottom in (n.0, n.1, n.2, go n.0 n.1 n.2 (test (node (forest p) n.0).accepted))
    where
      go : (n : ℕ) → n < length (forest p) → (node (forest p) n).level ≡ greatest_level p → ((node (forest p) n).accepted ≡ true) ⊎ ((node (forest p) n).accepted ≡ false) → (node (forest p) n).accepted ≡ false
      go n l e (inl a) = absurd (true≢false (sym (zero-from n l e a) ∙ f))
      go n l e (inr r) = r

  -- ---- the lowest
  -- a priority by the verdict of the root, and by where they begin
  priority-by : (n : ℕ) (a z : Bool) → (node (forest p) n).accepted ≡ a → from_zero p ≡ z → priority p (node (forest p) n) ≡ (node (forest p) n).level + cond a (cond z 0 2) 1
  priority-by n a z ea ez = priority_is p (node (forest p) n) ∙ rw (ea, ez) refl

  rejecting-priority : (n : ℕ) → (node (forest p) n).accepted ≡ false → priority p (node (forest p) n) ≡ (node (forest p) n).level + 1
  rejecting-priority n r = priority-by n false (from_zero p) r refl

  transient-le : (n : ℕ) → n < length (forest p) → transient_priority p ≤ priority p (node (forest p) n)
  unfolding transient_priority
  transient-le n l = lowest-le (map (priority p) (forest p)) (priority p (node (forest p) n)) (mapped_in p (priority p) n l)

  transient-node : (n : ℕ) × (n < length (forest p)) × (transient_priority p ≡ priority p (node (forest p) n))
  unfolding transient_priority
  transient-node = mapped-from p (priority p) (lowest (map (priority p) (forest p))) (lowest-mem (map (priority p) (forest p)) (omega (arith, forest-some, length-map (forest p) (priority p))))

  -- where they begin at 1, each is at least 1
  one-le : from_zero p ≡ false → (n : ℕ) → 1 ≤ priority p (node (forest p) n)
  one-le f n = go (test (node (forest p) n).accepted)
    where
      go : ((node (forest p) n).accepted ≡ true) ⊎ ((node (forest p) n).accepted ≡ false) → 1 ≤ priority p (node (forest p) n)
      go (inl a) = omega (arith, priority-by n true false a f)
      go (inr r) = omega (arith, rejecting-priority n r)

  -- document 004, Remark 5.10
  pub transient-is : transient_priority p ≡ cond (from_zero p) 0 1
  transient-is = go (test (from_zero p))
    where
      go : (from_zero p ≡ true) ⊎ (from_zero p ≡ false) → transient_priority p ≡ cond (from_zero p) 0 1
      go (inl t) =
          let n = from-zero t in
          let r = above n.0 n.1 0 (omega arith) in
          rw t (omega (arith, transient-le r.0 r.1, priority-by r.0 true true (r.3 ∙ n.3) t, r.2))
      go (inr f) =
          let n = bottom-rejects f in
          let r = above n.0 n.1 0 (omega arith) in
          let m = transient-node in
          rw f (omega (arith, transient-le r.0 r.1, rejecting-priority r.0 (r.3 ∙ n.3), r.2, m.2, one-le f m.0))

  -- ---- the most
  priority-most : (n : ℕ) → n < length (forest p) → priority p (node (forest p) n) ≤ greatest_level p + 1
  priority-most n l = go (test (node (forest p) n).accepted) (test (from_zero p))
    where
      go : ((node (forest p) n).accepted ≡ true) ⊎ ((node (forest p) n).accepted ≡ false) → (from_zero p ≡ true) ⊎ (from_zero p ≡ false) → priority p (node (forest p) n) ≤ greatest_level p + 1
      go (inl a) (inl t) = omega (arith, priority-by n true true a t, level-le n l)
      go (inl a) (inr f) = omega (arith, priority-by n true false a f, lower f n l a)
      go (inr r) z = omega (arith, rejecting-priority n r, level-le n l)

  levels-few : greatest_level p + 1 ≤ most_levels p
  levels-few = let n = bottom in omega (arith, n.2, laws.levels n.0 n.1)

  pub transient-bounds : PriorityBounds p (transient_priority p)
  transient-bounds = let n = transient-node in record { lowest = omega arith; most = omega (arith, n.2, priority-most n.0 n.1, levels-few) }

  absent : (n : ℕ) → (n < length (forest p) → ⊥) → PriorityBounds p (priority p (node (forest p) n))
  absent n h =
      let one = rejecting-priority n (ap (λ (x : Node). x.accepted) (absent-is n h)) in
      let level = ap (λ (x : Node). x.level) (absent-is n h) in
      record { lowest = omega (arith, one, few); most = omega (arith, one, level, levels-few) }
    where
      few : transient_priority p ≤ 1
      few = go (from_zero p) transient-is
        where
          go : (b : Bool) → transient_priority p ≡ cond b 0 1 → transient_priority p ≤ 1
          go true e = omega (arith, e)
          go false e = omega (arith, e)

  -- of every node, and of none
  pub priority-bounds : (n : ℕ) → PriorityBounds p (priority p (node (forest p) n))
  priority-bounds n = go (dec_lt n (length (forest p)))
    where
      go : Dec (n < length (forest p)) → PriorityBounds p (priority p (node (forest p) n))
      go (yes l) = record { lowest = transient-le n l; most = omega (arith, priority-most n l, levels-few) }
      go (no h) = absent n h

  -- in numbers
  pub bounds-few : (k : ℕ) → PriorityBounds p k → k ≤ 9
  bounds-few k b = omega (arith, b.most, most-levels-few p lawful)

  -- ---- beside document 01's numbering
  plain_by : (n : ℕ) (a : Bool) → (node (forest p) n).accepted ≡ a → plain_priority (node (forest p) n) ≡ (node (forest p) n).level + cond a 0 1
  unfolding plain_priority
  plain_by n a ea = rw ea refl

  -- the rejecting tree with the most levels has every priority from 1 on, in either numbering
  in-rejecting : from_zero p ≡ false → (k : ℕ) → 1 ≤ k → k ≤ greatest_level p + 1 → InUse (forest p) (priority p) k × InUse (forest p) plain_priority k
  in-rejecting f k h l =
      let n = bottom-rejects f in
      let m = above n.0 n.1 (k - 1) (omega (arith, n.2)) in
      ((m.0, m.1, omega (arith, rejecting-priority m.0 (m.3 ∙ n.3), m.2)), (m.0, m.1, omega (arith, plain_by m.0 false (m.3 ∙ n.3), m.2)))

  plain-most : (n : ℕ) → n < length (forest p) → plain_priority (node (forest p) n) ≤ greatest_level p + 1
  plain-most n l = go (test (node (forest p) n).accepted)
    where
      go : ((node (forest p) n).accepted ≡ true) ⊎ ((node (forest p) n).accepted ≡ false) → plain_priority (node (forest p) n) ≤ greatest_level p + 1
      go (inl a) = omega (arith, plain_by n true a, level-le n l)
      go (inr r) = omega (arith, plain_by n false r, level-le n l)

  pub one_fewer : (n : ℕ) → n < length (forest p) → priority p (node (forest p) n) ≢ plain_priority (node (forest p) n) → OneFewer p
  one_fewer n l moved = go (test (from_zero p)) (test (node (forest p) n).accepted)
    where
      used : from_zero p ≡ false → (node (forest p) n).accepted ≡ true → (k : ℕ) → k ≤ greatest_level p + 1 → InUse (forest p) plain_priority k
      used f a zero h = let r = above n l 0 (omega arith) in (r.0, r.1, omega (arith, plain_by r.0 true (r.3 ∙ a), r.2))
      used f a (suc k) h = (in-rejecting f (suc k) (omega arith) h).1

      at_most : (f : Node → ℕ) (k : ℕ) → ((n : ℕ) → n < length (forest p) → f (node (forest p) n) ≤ greatest_level p + 1) → InUse (forest p) f k → k ≤ greatest_level p + 1
      at_most f k most u = omega (arith, most u.0 u.1, u.2)

      go : (from_zero p ≡ true) ⊎ (from_zero p ≡ false) → ((node (forest p) n).accepted ≡ true) ⊎ ((node (forest p) n).accepted ≡ false) → OneFewer p
      go (inl t) a = absurd (moved (plain-kept p t (node (forest p) n)))
      go (inr f) (inr r) = absurd (moved (plain-rejecting p (node (forest p) n) r))
      go (inr f) (inl a) = record {
        before = λ k. (at_most plain_priority k plain-most, used f a k);
        now = λ k. (λ u. (omega (arith, one-le f u.0, u.2), at_most (priority p) k priority-most u), λ h. (in-rejecting f k h.0 h.1).0);
      }

  -- ---- in the words of trees
  pub from-zero-is : (from_zero p ≡ true) ↔ AcceptingMost p (forest p)
  from-zero-is = (to, back)
    where
      to : from_zero p ≡ true → AcceptingMost p (forest p)
      to t =
          let n = from-zero t in
          let r = chain-top (forest p) laws.parent_lt laws.level_up n.0 n.1 in
          record {
            root = r.0;
            root_lt = chain-lt (forest p) laws.parent_lt laws.level_up n.0 r.0 n.1 r.1;
            is-root = r.2;
            accepts = sym (laws.rooted n.0 r.0 n.1 r.1 r.2) ∙ n.3;
            bottom = n.0;
            bottom_lt = n.1;
            in_tree = r.1;
            most = λ m l. omega (arith, level-le m l, n.2);
          }

      back : AcceptingMost p (forest p) → from_zero p ≡ true
      back d =
          let h = bottom in
          zero-from d.bottom d.bottom_lt (omega (arith, level-le d.bottom d.bottom_lt, d.most h.0 h.1, h.2)) (laws.rooted d.bottom d.root d.bottom_lt d.in_tree d.is-root ∙ d.accepts)
