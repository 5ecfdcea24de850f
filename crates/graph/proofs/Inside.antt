-- The cycles inside an edge set, and the states of a cycle. Assumes nothing.
use Prim.Native.Nat.{ℕ, ◌-◌, ◌^◌, ◌<◌}
use mathlib.Core.Path.{◌≡◌, refl, subst}
use mathlib.Core.Bool.{true}
use mathlib.Core.List.{Memᴰ}
use Rattle.lists.specs.Lists.{Ascending}
use Rattle.lists.proofs.Lists.{filter-mem, mem-filter, ascending-filter}
use Rattle.masks.specs.Masks.{has, inside, submasks}
use Rattle.masks.proofs.Bits.{has-full, inside-all, all-inside}
use Rattle.masks.proofs.Submasks.{submasks-part, part-submasks, ascending-submasks}
use Rattle.policy.specs.declared.Policy.{Policy}
use Rattle.policy.specs.Policies.{edges, full, source, legal}
use Rattle.policy.proofs.Laws.{source-lt}
use Rattle.graph.specs.Cycles.{is_cycle, contains, cycles_in}
use Rattle.graph.proofs.Cycles.{cycle-edge, cycle-sound, contains-some, some-contains}

module _ (p : Policy) where
  -- ---- the cycles inside a set
  pub cycles-mem : (m x : ℕ) → Memᴰ x (cycles_in p m) → (is_cycle p x ≡ true) × (inside x m ≡ true)
  unfolding cycles_in
  cycles-mem m x k =
      let r = filter-mem (is_cycle p) (submasks (edges p) m) x k in
      (r.1, all-inside x m (λ e t. (submasks-part (edges p) m x r.0 e t).0))

  pub mem-cycles : (m x : ℕ) → is_cycle p x ≡ true → inside x m ≡ true → Memᴰ x (cycles_in p m)
  unfolding cycles_in
  mem-cycles m x c i = mem-filter (is_cycle p) (submasks (edges p) m) x (part-submasks (edges p) m x (λ e t. (inside-all x m i e t, cycle-edge p x c e t))) c

  pub ascending-cycles : (m : ℕ) → Ascending (cycles_in p m)
  unfolding cycles_in
  ascending-cycles m = ascending-filter (is_cycle p) (submasks (edges p) m) (ascending-submasks (edges p) m)

  pub inside-full : (x : ℕ) → is_cycle p x ≡ true → inside x (full p) ≡ true
  unfolding full
  inside-full x c = all-inside x (2 ^ edges p - 1) (λ e t. has-full (edges p) e (cycle-edge p x c e t))

  -- ---- the states of a cycle
  module _ (lawful : legal p ≡ true) where
    pub contains-lt : (v x : ℕ) → contains p v x ≡ true → v < p.states
    contains-lt v x on = let r = contains-some p v x on in subst (λ (u : ℕ). u < p.states) r.3 (source-lt p lawful r.0 r.1)

    pub cycle-state : (x : ℕ) → is_cycle p x ≡ true → (v : ℕ) × (v < p.states) × (contains p v x ≡ true)
    cycle-state x cy =
        let c = cycle-sound p x cy in
        let t : has x c.first ≡ true = (c.exact c.first).1 (Memᴰ.head refl) in
        let on = some-contains p (source p c.first) x c.first (cycle-edge p x cy c.first t) t refl in
        (source p c.first, contains-lt (source p c.first) x on, on)
