-- The roots are the largest cycles through the states, and each is full. Assumes nothing.
use Prim.Native.Nat.{ℕ, ◌≤◌, ◌<◌}
use native.Mathlib.Omega.{arith}
use mathlib.Core.Path.{◌≡◌, sym, ap, ◌∙◌, subst}
use mathlib.Core.Logic.{◌⊎◌, inl, inr}
use mathlib.Core.Bool.{true, false}
use mathlib.Core.List.{Memᴰ}
use lib.ListN.{length}
use Rattle.lists.specs.Lists.{Distinct}
use Rattle.lists.proofs.Bools.{test}
use Rattle.masks.specs.Masks.{inside, properly}
use Rattle.masks.proofs.Bits.{properly-lt, properly-inside}
use Rattle.policy.specs.declared.Policy.{Policy}
use Rattle.policy.specs.Policies.{legal, full}
use Rattle.policy.proofs.Laws.{legal-target}
use Rattle.graph.specs.Cycles.{is_cycle, contains}
use Rattle.graph.specs.Through.{cycle_through}
use Rattle.graph.proofs.Cycles.{Targets, contains-inside}
use Rattle.graph.proofs.Through.{through-cycle, through-largest, through_same}
use Rattle.graph.proofs.Inside.{contains-lt, cycle-state, inside-full}
use Rattle.components.proofs.Components.{lowest-some, some-lowest, largest-in-mem, mem-largest-in, largest-in-few, largest-in-distinct}
use Rattle.forest.specs.Forest.{in_order, roots}
use Rattle.forest.proofs.Order.{order-mem, mem-order, distinct-ordered}
use Rattle.forest.proofs.Children.{root-cycle, root-largest}
use Rattle.full_cycles.specs.Full.{Full, largest_cycles}
use Rattle.full_cycles.proofs.Full.{full-cycle, fill}

module _ (p : Policy) where
  pub roots_few : length (largest_cycles p) ≤ p.states
  unfolding largest_cycles
  roots_few = largest-in-few p (full p)

  module _ (lawful : legal p ≡ true) where
    targets : Targets p
    targets e l = legal-target p lawful e l

    -- ---- a root
    pub root-full : (r : ℕ) → Memᴰ r (roots p) → Full p r
    root-full r k =
        let z = fill p lawful r (root-cycle p r k) in
        subst (Full p) (sym (root-largest p r z.0 k (full-cycle p lawful z.0 z.1.filled) z.1.above)) z.1.filled

    -- ---- the candidates for a root
    root-candidates-at : (x : ℕ) → Memᴰ x (largest_cycles p) → (v : ℕ) × (v < p.states) × (x ≡ cycle_through p (full p) v) × (is_cycle p x ≡ true)
    unfolding largest_cycles
    root-candidates-at x k =
        let r = largest-in-mem p (full p) x k in
        let s = through-cycle p targets (full p) r.0 r.1 (λ z. (lowest-some p r.0 x r.3).0 (r.2 ∙ z)) in
        (r.0, r.1, r.2, ap (is_cycle p) r.2 ∙ s.0)

    pub root-candidates-cycle : (x : ℕ) → Memᴰ x (largest_cycles p) → is_cycle p x ≡ true
    root-candidates-cycle x k = (root-candidates-at x k).3

    pub root-candidates-distinct : Distinct (largest_cycles p)
    unfolding largest_cycles
    root-candidates-distinct = largest-in-distinct p lawful (full p)

    -- the largest cycle through any state stands at its lowest
    whole-candidate : (v : ℕ) → v < p.states → contains p v (cycle_through p (full p) v) ≡ true → Memᴰ (cycle_through p (full p) v) (largest_cycles p)
    unfolding largest_cycles
    whole-candidate v l on =
        let x = cycle_through p (full p) v in
        let r = some-lowest p v x on in
        mem-largest-in p (full p) r.0 x (contains-lt p lawful r.0 x r.1) (sym (through_same p targets (full p) v r.0 l r.1)) r.2

    root-candidates-same : (x y : ℕ) → Memᴰ x (largest_cycles p) → Memᴰ y (largest_cycles p) → inside x y ≡ true → x ≡ y
    root-candidates-same x y k l i =
        let a = root-candidates-at x k in
        let b = root-candidates-at y l in
        let s = cycle-state p lawful x a.3 in
        let u = s.0 in
        a.2 ∙ sym (through_same p targets (full p) a.0 u a.1 (ap (contains p u) (sym a.2) ∙ s.2))
        ∙ through_same p targets (full p) b.0 u b.1 (ap (contains p u) (sym b.2) ∙ contains-inside p u x y i s.2) ∙ sym b.2

    pub roots-are : roots p ≡ in_order (largest_cycles p)
    roots-are = sym (Rattle.forest.proofs.Children.roots-are p (in_order (largest_cycles p)) (λ x k. root-candidates-cycle x (order-mem (largest_cycles p) x k)) above (λ x y k l. apart x y (order-mem (largest_cycles p) x k) (order-mem (largest_cycles p) y l) (test (properly x y))) (distinct-ordered (largest_cycles p) root-candidates-distinct))
      where
        above : (x : ℕ) → is_cycle p x ≡ true → (y : ℕ) × Memᴰ y (in_order (largest_cycles p)) × (inside x y ≡ true)
        above x cy =
            let s = cycle-state p lawful x cy in
            let y = cycle_through p (full p) s.0 in
            let i = through-largest p targets (full p) s.0 s.1 x cy (inside-full p x cy) s.2 in
            (y, mem-order (largest_cycles p) y (whole-candidate s.0 s.1 (contains-inside p s.0 x y i s.2)), i)

        apart : (x y : ℕ) → Memᴰ x (largest_cycles p) → Memᴰ y (largest_cycles p) → (properly x y ≡ true) ⊎ (properly x y ≡ false) → properly x y ≡ false
        apart x y k l (inl t) = absurd (omega (arith, properly-lt x y t, root-candidates-same x y k l (properly-inside x y t)))
        apart x y k l (inr f) = f
