-- Where priorities begin, by the verdicts of the roots and by the heights of the trees. Assumes nothing.
use Prim.Native.Nat.{ℕ, ◌+◌, ◌*◌, ◌%◌, ◌≤◌, ◌<◌}
use native.Mathlib.Omega.{arith}
use mathlib.Core.Path.{◌≡◌, refl, sym, ap, ◌∙◌}
use mathlib.Core.Logic.{◌⊎◌, inl, inr}
use mathlib.Core.Bool.{Bool, true, false, cond, true≢false}
use mathlib.Core.List.{List, map}
use lib.Dec.{eqb}
use lib.ListN.{length, get_or, length-map}
use Rattle.lists.specs.Lists.{greatest}
use Rattle.lists.proofs.Bools.{test, ≡eqb, neqb}
use Rattle.lists.proofs.Lists.{some-any, none_any, none_true}
use Rattle.lists.proofs.Extremes.{greatest-le, greatest-mem}
use Rattle.tables.proofs.Columns.{map_at}
use Rattle.policy.specs.declared.Policy.{Policy}
use Rattle.policy.specs.Policies.{legal}
use Rattle.forest.specs.Forest.{Node, forest, node, from_zero, transient_priority, node_priorities_of}
use Rattle.forest.specs.Numbering.{plain_priority}
use Rattle.forest.proofs.Priorities.{plain-kept, plain-rejecting}
use Rattle.forest.proofs.Numbering.{forest-some, level-le, from-zero, lower, bottom-rejects, transient-is}
use Rattle.forest.proofs.Columns.{mapped_in, mapped-from}
use Rattle.decomposition.specs.FromZero.{plain_priorities, some_accepting}
use Rattle.decomposition.proofs.Plain.{plain-same, node_in, node_of}

-- ---- heights
-- twice a node's level, plus 3 if its root is accepting and otherwise 2: the greatest of all is odd exactly if some tree with the most levels has an accepting root
unfoldable pub height : Node → ℕ
height x = 2 * x.level + cond x.accepted 3 2

unfoldable pub node_heights : Policy → List ℕ
node_heights p = map height (forest p)

height-le : (x : Node) → height x ≤ 2 * x.level + 3
unfolding height
height-le x = go x.accepted
  where
    go : (b : Bool) → 2 * x.level + cond b 3 2 ≤ 2 * x.level + 3
    go true = omega arith
    go false = omega arith

accepting-height : (x : Node) → x.accepted ≡ true → height x ≡ 2 * x.level + 3
unfolding height
accepting-height x a = rw a refl

rejecting-height : (x : Node) → x.accepted ≡ false → height x ≡ 2 * x.level + 2
unfolding height
rejecting-height x r = rw r refl

-- by the priority from 0
pub plain-height : (x : Node) (k lift : ℕ) → k ≡ plain_priority x → lift ≡ cond x.accepted 3 0 → 2 * k + lift ≡ height x
unfolding height plain_priority
plain-height x k lift e q = go x.accepted e q
  where
    go : (b : Bool) → k ≡ x.level + cond b 0 1 → lift ≡ cond b 3 0 → 2 * k + lift ≡ 2 * x.level + cond b 3 2
    go true e q = omega (arith, e, q)
    go false e q = omega (arith, e, q)

module _ (p : Policy) where
  pub length-heights : length (node_heights p) ≡ length (forest p)
  unfolding node_heights
  length-heights = length-map (forest p) height

  pub heights-at : (n : ℕ) → n < length (forest p) → get_or (node_heights p) n 0 ≡ height (node (forest p) n)
  unfolding node_heights node
  heights-at n l = map_at height (forest p) (record { mask = 0; parent = 0; level = 0; accepted = false }) n l

  -- the greatest is odd exactly if priorities begin at 0
  module _ (lawful : legal p ≡ true) where
    heights-le : (n : ℕ) → n < length (forest p) → height (node (forest p) n) ≤ greatest (node_heights p)
    unfolding node_heights
    heights-le n l = greatest-le (map height (forest p)) (height (node (forest p) n)) (mapped_in p height n l)

    heights-mem : (n : ℕ) × (n < length (forest p)) × (greatest (node_heights p) ≡ height (node (forest p) n))
    unfolding node_heights
    heights-mem = mapped-from p height (greatest (map height (forest p))) (greatest-mem (map height (forest p)) (omega (arith, forest-some p lawful, length-map (forest p) height)))

    pub greatest-height : eqb (greatest (node_heights p) % 2) 1 ≡ from_zero p
    greatest-height = go (test (from_zero p))
      where
        rejects : from_zero p ≡ false → (n : ℕ) → n < length (forest p) → greatest (node_heights p) ≡ height (node (forest p) n) → ((node (forest p) n).accepted ≡ true) ⊎ ((node (forest p) n).accepted ≡ false) → greatest (node_heights p) % 2 ≡ 0
        rejects f n l e (inl a) =
            let h = bottom-rejects p lawful f in
            absurd (omega (arith, e, accepting-height (node (forest p) n) a, lower p lawful f n l a, heights-le h.0 h.1, rejecting-height (node (forest p) h.0) h.3, h.2))
        rejects f n l e (inr r) = omega (arith, e, rejecting-height (node (forest p) n) r)

        go : (from_zero p ≡ true) ⊎ (from_zero p ≡ false) → eqb (greatest (node_heights p) % 2) 1 ≡ from_zero p
        go (inl t) =
            let n = from-zero p lawful t in
            let m = heights-mem in
            let odd : greatest (node_heights p) % 2 ≡ 1 = omega (arith, heights-le n.0 n.1, accepting-height (node (forest p) n.0) n.3, n.2, m.2, height-le (node (forest p) m.0), level-le p lawful m.0 m.1) in
            ≡eqb (greatest (node_heights p) % 2) 1 odd ∙ sym t
        go (inr f) =
            let m = heights-mem in
            let even = rejects f m.0 m.1 m.2 (test (node (forest p) m.0).accepted) in
            neqb (greatest (node_heights p) % 2) 1 (λ odd. absurd (omega (arith, even, odd))) ∙ sym f

    -- all roots have one verdict
    pub one-verdict : (b : Bool) → ((n : ℕ) → n < length (forest p) → (node (forest p) n).accepted ≡ b) → (b ≡ from_zero p) × (b ≡ some_accepting p)
    unfolding some_accepting
    one-verdict true h = (sym (go (test (from_zero p))), sym (some-any (λ (x : Node). x.accepted) (forest p) (node (forest p) 0) (node_in p 0 (forest-some p lawful)) (h 0 (forest-some p lawful))))
      where
        go : (from_zero p ≡ true) ⊎ (from_zero p ≡ false) → from_zero p ≡ true
        go (inl t) = t
        go (inr f) = let n = bottom-rejects p lawful f in absurd (true≢false (sym (h n.0 n.1) ∙ n.3))
    one-verdict false h = (
      sym (go (test (from_zero p))),
      sym (none_true (λ (x : Node). x.accepted) (forest p) (λ x m. let n = node_of p x m in ap (λ (y : Node). y.accepted) (sym n.2) ∙ h n.0 n.1)),
    )
      where
        go : (from_zero p ≡ true) ⊎ (from_zero p ≡ false) → from_zero p ≡ false
        go (inl t) = let n = from-zero p lawful t in absurd (true≢false (sym n.3 ∙ h n.0 n.1))
        go (inr f) = f

-- ---- what comes of it
module _ (p : Policy) (lawful : legal p ≡ true) where
  -- priorities begin at 0
  pub kept : {b : Bool} → b ≡ from_zero p → b ≡ true → (0 ≡ transient_priority p) × (plain_priorities p ≡ node_priorities_of p)
  kept q o = let t = sym q ∙ o in (sym (transient-is p lawful ∙ rw t refl), plain-same p (λ x m. plain-kept p t x))

  -- they begin at 1
  pub one : {b : Bool} → b ≡ from_zero p → b ≡ false → (from_zero p ≡ false) × (1 ≡ transient_priority p)
  one q o = let f = sym q ∙ o in (f, sym (transient-is p lawful ∙ rw f refl))

  -- and no root is accepting
  pub all-rejecting : {accepting : Bool} → accepting ≡ some_accepting p → accepting ≡ false → plain_priorities p ≡ node_priorities_of p
  unfolding some_accepting
  all-rejecting q f = plain-same p (λ x m. plain-rejecting p x (none_any (λ (x : Node). x.accepted) (forest p) (sym q ∙ f) x m))
