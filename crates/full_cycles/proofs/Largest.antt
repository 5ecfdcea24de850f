-- The largest cycles inside an edge set: each is a cycle inside it, and every cycle inside it lies inside one of them. Assumes nothing.
use Prim.Native.Nat.{ℕ}
use mathlib.Core.Path.{◌≡◌, sym, ap, ◌∙◌, subst}
use mathlib.Core.Bool.{true}
use mathlib.Core.List.{Memᴰ}
use Rattle.masks.specs.Masks.{inside}
use Rattle.policy.specs.declared.Policy.{Policy}
use Rattle.policy.specs.Policies.{legal}
use Rattle.policy.proofs.Laws.{legal-target}
use Rattle.graph.specs.Cycles.{is_cycle}
use Rattle.graph.specs.Through.{cycle_through}
use Rattle.graph.proofs.Cycles.{Targets, contains-inside}
use Rattle.graph.proofs.Through.{through-inside, through-cycle, through-largest, through_same}
use Rattle.graph.proofs.Inside.{contains-lt, cycle-state}
use Rattle.components.specs.Components.{largest_in}
use Rattle.components.proofs.Components.{lowest-some, some-lowest, largest-in-mem, mem-largest-in}

module _ (p : Policy) (lawful : legal p ≡ true) where
  targets : Targets p
  targets e l = legal-target p lawful e l

  pub largest-within : (m x : ℕ) → Memᴰ x (largest_in p m) → inside x m ≡ true
  largest-within m x k = let s = largest-in-mem p m x k in subst (λ (z : ℕ). inside z m ≡ true) (sym s.2) (through-inside p m s.0)

  pub largest-cycle : (m x : ℕ) → Memᴰ x (largest_in p m) → is_cycle p x ≡ true
  largest-cycle m x k =
      let s = largest-in-mem p m x k in
      ap (is_cycle p) s.2 ∙ (through-cycle p targets m s.0 s.1 (λ z. (lowest-some p s.0 x s.3).0 (s.2 ∙ z))).0

  pub in-largest : (m x : ℕ) → is_cycle p x ≡ true → inside x m ≡ true → (y : ℕ) × Memᴰ y (largest_in p m) × (inside x y ≡ true)
  in-largest m x cy i =
      let s = cycle-state p lawful x cy in
      let y = cycle_through p m s.0 in
      let up = through-largest p targets m s.0 s.1 x cy i s.2 in
      let r = some-lowest p s.0 y (contains-inside p s.0 x y up s.2) in
      (y, mem-largest-in p m r.0 y (contains-lt p lawful r.0 y r.1) (sym (through_same p targets m s.0 r.0 s.1 r.1)) r.2, up)
