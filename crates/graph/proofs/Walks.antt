-- Every legal policy has a cycle: a walk along letter 0 comes back. Assumes nothing.
use Prim.Native.Nat.{ℕ, zero, suc, ◌+◌, ◌-◌, ◌<◌}
use native.Mathlib.Omega.{arith}
use mathlib.Core.Path.{◌≡◌, refl, sym, ap, ◌∙◌, subst}
use mathlib.Core.Bool.{true}
use mathlib.Core.List.{List, [], ◌∷◌}
use Rattle.lists.specs.Lists.{below}
use Rattle.lists.proofs.Lists.{mem_below}
use Rattle.recurrence.proofs.Pigeon.{pigeon}
use Rattle.masks.specs.Masks.{set_of}
use Rattle.masks.proofs.SetOf.{set-has}
use Rattle.policy.specs.declared.Policy.{Policy}
use Rattle.policy.specs.Policies.{edges, edge_of, target_of, legal}
use Rattle.policy.proofs.Laws.{legal-counts, legal-target, source-edge, edge-lt}
use Rattle.graph.specs.Cycles.{Path, is_cycle}
use Rattle.graph.proofs.Cycles.{closed-cycle}

module _ (p : Policy) (lawful : legal p ≡ true) where
  -- along letter 0: the edge, its target, where k edges from v lead, and these edges
  edge : ℕ → ℕ
  edge v = edge_of p v 0

  abbrev end : ℕ → ℕ → ℕ
  end zero v = v
  end (suc k) v = end k (target_of p (edge v))

  abbrev walk : ℕ → ℕ → List ℕ
  walk zero v = []
  walk (suc k) v = edge v ∷ walk k (target_of p (edge v))

  edge_in : (v : ℕ) → v < p.states → edge v < edges p
  unfolding edge
  edge_in v h = edge-lt p v 0 h (omega (arith, (legal-counts p lawful).letters_some))

  next-in : (v : ℕ) → v < p.states → target_of p (edge v) < p.states
  next-in v h = legal-target p lawful (edge v) (edge_in v h)

  end-in : (k v : ℕ) → v < p.states → end k v < p.states
  end-in zero v h = h
  end-in (suc k) v h = end-in k (target_of p (edge v)) (next-in v h)

  end-add : (i k v : ℕ) → end (i + k) v ≡ end k (end i v)
  end-add zero k v = let e : 0 + k ≡ k = omega arith in ap (λ (n : ℕ). end n v) e
  end-add (suc i) k v = let e : suc i + k ≡ suc (i + k) = omega arith in ap (λ (n : ℕ). end n v) e ∙ end-add i k (target_of p (edge v))

  walk-path : (k v : ℕ) → v < p.states → Path p (below (edges p)) v (walk k v) (end k v)
  unfolding edge
  walk-path zero v h = refl
  walk-path (suc k) v h = (source-edge p lawful v 0 (omega (arith, (legal-counts p lawful).letters_some)), mem_below (edges p) (edge v) (edge_in v h), walk-path k (target_of p (edge v)) (next-in v h))

  pub some-cycle : (m : ℕ) × (is_cycle p m ≡ true)
  some-cycle =
      let v₀ : 0 < p.states = omega (arith, (legal-counts p lawful).states_some) in
      let q = pigeon p.states (λ n. end n 0) (λ n h. end-in n 0 v₀) in
      closed (end q.0 0) (q.1 - suc q.0) (end-in q.0 0 v₀) (back q.0 q.1 q.2 q.4)
    where
      back : (i j : ℕ) → i < j → end i 0 ≡ end j 0 → end (suc (j - suc i)) (end i 0) ≡ end i 0
      back i j h e =
          let k : j ≡ i + suc (j - suc i) = omega (arith, h) in
          sym (end-add i (suc (j - suc i)) 0) ∙ sym (ap (λ (n : ℕ). end n 0) k) ∙ sym e

      closed : (v k : ℕ) → v < p.states → end (suc k) v ≡ v → (m : ℕ) × (is_cycle p m ≡ true)
      closed v k h e =
          (set_of (walk (suc k) v), closed-cycle p (legal-target p lawful) v (edge v) (walk k (target_of p (edge v))) (subst (λ (u : ℕ). Path p (below (edges p)) v (walk (suc k) v) u) e (walk-path (suc k) v h)) (set_of (walk (suc k) v)) (set-has (walk (suc k) v)))
