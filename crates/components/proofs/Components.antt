-- The largest cycles inside an edge set, at their lowest states: each once, and at most one for each state. Assumes nothing.
use Prim.Native.Nat.{ℕ, ◌≤◌, ◌<◌}
use native.Mathlib.Omega.{arith}
use native.Mathlib.Decide.{dec_lt}
use mathlib.Core.Path.{◌≡◌, sym, ap, ◌∙◌}
use mathlib.Core.Logic.{◌≢◌}
use mathlib.Core.Bool.{true, false, not, true≢false}
use mathlib.Core.List.Memᴰ
use mathlib.Core.List.{Memᴰ}
use lib.Dec.{eqb}
use lib.ListN.{length}
use Rattle.lists.specs.Lists.{any, below, Distinct}
use Rattle.lists.proofs.Bools.{≡eqb, neqb, and_l, and_r, both, not-true}
use Rattle.lists.proofs.Lists.{none_any, mem_below, below-lt, flat-mem, mem-flat, length-below, flat-few}
use Rattle.lists.proofs.Least.{least}
use Rattle.lists.proofs.Distinct.{one-mem, mem-one, one-distinct, one-few, distinct-below, distinct-flat}
use Rattle.policy.specs.declared.Policy.{Policy}
use Rattle.policy.specs.Policies.{legal}
use Rattle.policy.proofs.Laws.{legal-target}
use Rattle.graph.specs.Cycles.{contains}
use Rattle.graph.specs.Through.{cycle_through}
use Rattle.graph.proofs.Cycles.{Targets}
use Rattle.graph.proofs.Through.{through-cycle, contains-nonzero}
use Rattle.components.specs.Components.{lowest_is, largest_at, largest_in}

module _ (p : Policy) where
  -- ---- the lowest state
  pub lowest-some : (v x : ℕ) → lowest_is p v x ≡ true → (x ≢ 0) × ((u : ℕ) → contains p u x ≡ true → v ≤ u)
  unfolding lowest_is
  lowest-some v x t = (λ z. true≢false (sym (≡eqb x 0 z) ∙ not-true (eqb x 0) (and_l (not (eqb x 0)) _ t)), λ u on. go u on (dec_lt u v))
    where
      none : any (λ (u : ℕ). contains p u x) (below v) ≡ false
      none = not-true (any (λ (u : ℕ). contains p u x) (below v)) (and_r (not (eqb x 0)) (not (any (λ (u : ℕ). contains p u x) (below v))) t)

      go : (u : ℕ) → contains p u x ≡ true → Dec (u < v) → v ≤ u
      go u on (yes l) = absurd (true≢false (sym on ∙ none_any (λ (u : ℕ). contains p u x) (below v) none u (mem_below v u l)))
      go u on (no n) = omega arith

  lowest-same : (v u x : ℕ) → lowest_is p v x ≡ true → lowest_is p u x ≡ true → contains p v x ≡ true → contains p u x ≡ true → v ≡ u
  lowest-same v u x a b on onu = omega (arith, (lowest-some v x a).1 u onu, (lowest-some u x b).1 v on)

  pub some-lowest : (v x : ℕ) → contains p v x ≡ true → (u : ℕ) × (contains p u x ≡ true) × (lowest_is p u x ≡ true)
  unfolding lowest_is
  some-lowest v x on =
      let r = least (λ (u : ℕ). contains p u x) v on in
      (r.0, r.1, both (not (eqb x 0)) (not (any (λ (u : ℕ). contains p u x) (below r.0))) (ap not (neqb x 0 (contains-nonzero p v x on))) (ap not r.2))

  -- ---- the largest cycles inside m
  largest-at : (m v x : ℕ) → Memᴰ x (largest_at p m v) → (x ≡ cycle_through p m v) × (lowest_is p v x ≡ true)
  unfolding largest_at
  largest-at m v x k = let y = cycle_through p m v in let r = one-mem (lowest_is p v y) y x k in (r.1, ap (lowest_is p v) r.1 ∙ r.0)

  pub largest-in-mem : (m x : ℕ) → Memᴰ x (largest_in p m) → (v : ℕ) × (v < p.states) × (x ≡ cycle_through p m v) × (lowest_is p v x ≡ true)
  unfolding largest_in
  largest-in-mem m x k =
      let r = flat-mem (largest_at p m) (below p.states) x k in
      let s = largest-at m r.0 x r.2 in
      (r.0, below-lt p.states r.0 r.1, s.0, s.1)

  pub mem-largest-in : (m v x : ℕ) → v < p.states → x ≡ cycle_through p m v → lowest_is p v x ≡ true → Memᴰ x (largest_in p m)
  unfolding largest_in largest_at
  mem-largest-in m v x l e t =
      mem-flat (largest_at p m) (below p.states) v x (mem_below p.states v l) (Memᴰ.cast e (mem-one (lowest_is p v (cycle_through p m v)) (cycle_through p m v) (ap (lowest_is p v) (sym e) ∙ t)))

  -- at most one for each state
  pub largest-in-few : (m : ℕ) → length (largest_in p m) ≤ p.states
  unfolding largest_in largest_at
  largest-in-few m = omega (arith, flat-few (largest_at p m) 1 (λ v. one-few (lowest_is p v (cycle_through p m v)) (cycle_through p m v)) (below p.states), length-below p.states)

  module _ (lawful : legal p ≡ true) where
    targets : Targets p
    targets e l = legal-target p lawful e l

    -- ---- each once
    largest-in-state : (m v x : ℕ) → v < p.states → Memᴰ x (largest_at p m v) → contains p v x ≡ true
    largest-in-state m v x l k =
        let r = largest-at m v x k in
        ap (contains p v) r.0 ∙ (through-cycle p targets m v l (λ z. (lowest-some v x r.1).0 (r.0 ∙ z))).1

    at-distinct : (m v : ℕ) → Distinct (largest_at p m v)
    unfolding largest_at
    at-distinct m v = one-distinct (lowest_is p v (cycle_through p m v)) (cycle_through p m v)

    pub largest-in-distinct : (m : ℕ) → Distinct (largest_in p m)
    unfolding largest_in
    largest-in-distinct m = distinct-flat (largest_at p m) (below p.states) (distinct-below p.states) (λ v k. at-distinct m v) same
      where
        same : (v u z : ℕ) → Memᴰ v (below p.states) → Memᴰ u (below p.states) → Memᴰ z (largest_at p m v) → Memᴰ z (largest_at p m u) → v ≡ u
        same v u z k n a b =
            lowest-same v u z (largest-at m v z a).1 (largest-at m u z b).1 (largest-in-state m v z (below-lt p.states v k) a) (largest-in-state m u z (below-lt p.states u n) b)
