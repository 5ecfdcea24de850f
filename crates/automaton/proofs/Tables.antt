-- The table of built states: each stands over a leaf of its state, each pair of a state and a leaf of it stands there, in order. Assumes nothing.
use Prim.Native.Nat.{ℕ, zero, suc, ◌<◌}
use native.Mathlib.Omega.{arith}
use mathlib.Core.Path.{◌≡◌, refl, sym, ap, subst}
use mathlib.Core.Logic.{◌⊎◌, inl, inr}
use mathlib.Core.Bool.{true}
use mathlib.Core.List.Memᴰ
use mathlib.Core.List.{List, [], ◌∷◌, ◌++◌, map, Memᴰ}
use lib.Dec.{eqb}
use lib.ListN.{length, get_or}
use Rattle.lists.specs.Lists.{flat, below, Ascending}
use Rattle.lists.proofs.Bools.{eqb≡, ≡eqb, and_l, and_r, both}
use Rattle.lists.proofs.Lists.{mem_below, below-lt, get_or-mem, position_at, flat-mem, mem-flat, map-mem, mem-map, ascending-below}
use Rattle.policy.specs.declared.Policy.{Policy}
use Rattle.forest.specs.Forest.{Node, forest}
use Rattle.forest.specs.Laws.{ForestLaws}
use Rattle.automaton.specs.Automaton.{Built, is_built, or_else, leaves, states_over, built_states, built, state_at, number}
use Rattle.automaton.proofs.EdgeRuns.{Good}
use Rattle.automaton.proofs.Leaves.{leaves-ascend, leaves-good, good-leaves}

-- ---- the order of built states
-- by state, then by leaf
abbrev pub Earlier : Built → Built → Type 0
Earlier a b = (a.state < b.state) ⊎ ((a.state ≡ b.state) × (a.leaf < b.leaf))

-- each is earlier than those after it
abbrev Increasing : List Built → Type 0
Increasing [] = Unit {0}
Increasing (x ∷ xs) = ((y : Built) → Memᴰ y xs → Earlier x y) × Increasing xs

increasing-append : (l r : List Built) → Increasing l → Increasing r → ((x y : Built) → Memᴰ x l → Memᴰ y r → Earlier x y) → Increasing (l ++ r)
increasing-append [] r a b h = b
increasing-append (x ∷ l) r a b h = (λ y m. go y (Memᴰ.append_cases l m), increasing-append l r a.1 b (λ x y m n. h x y (Memᴰ.tail m) n))
  where
    go : (y : Built) → Memᴰ y l ⊎ Memᴰ y r → Earlier x y
    go y (inl m) = a.0 y m
    go y (inr m) = h x y (Memᴰ.head refl) m

increasing-at : (l : List Built) → Increasing l → (d : Built) (i j : ℕ) → i < j → j < length l → Earlier (get_or l i d) (get_or l j d)
increasing-at [] s d i j h k = absurd (omega arith)
increasing-at (x ∷ l) s d i zero h k = absurd (omega arith)
increasing-at (x ∷ l) s d zero (suc j) h k = s.0 (get_or l j d) (get_or-mem l j d (omega arith))
increasing-at (x ∷ l) s d (suc i) (suc j) h k = increasing-at l s.1 d i j (omega arith) (omega arith)

-- the states over v with some leaves
abbrev over : ℕ → ℕ → Built
over v l = record { state = v; leaf = l }

increasing-over : (v : ℕ) (ls : List ℕ) → Ascending ls → Increasing (map (over v) ls)
increasing-over v [] s = tt
increasing-over v (l ∷ ls) s = (λ y m. let r = map-mem (over v) ls y m in inr (ap (λ (b : Built). b.state) (sym r.2), omega (arith, s.0 r.0 r.1, ap (λ (b : Built). b.leaf) r.2)), increasing-over v ls s.1)

module _ (ns : List Node) (p : Policy) where
  over-mem : (v : ℕ) (b : Built) → Memᴰ b (states_over ns p v) → (b.state ≡ v) × Memᴰ b.leaf (or_else 65535 (leaves ns p v))
  unfolding states_over
  over-mem v b m = let r = map-mem (over v) (or_else 65535 (leaves ns p v)) b m in (ap (λ (b : Built). b.state) r.2, Memᴰ.cast (ap (λ (b : Built). b.leaf) r.2) r.1)

  over-increasing : (v : ℕ) → Increasing (states_over ns p v)
  unfolding states_over
  over-increasing v = increasing-over v (or_else 65535 (leaves ns p v)) (go (leaves ns p v) (leaves-ascend ns p v))
    where
      go : (l : List ℕ) → Ascending l → Ascending (or_else 65535 l)
      go [] s = (λ y m. absurd (Memᴰ.not-nil m), tt)
      go (x ∷ l) s = s

  flat-increasing : (vs : List ℕ) → Ascending vs → Increasing (flat (map (states_over ns p) vs))
  flat-increasing [] s = tt
  flat-increasing (v ∷ vs) s =
      increasing-append (states_over ns p v) (flat (map (states_over ns p) vs)) (over-increasing v) (flat-increasing vs s.1)
      (λ x y m k. let r = flat-mem (states_over ns p) vs y k in inl (omega (arith, s.0 r.0 r.1, (over-mem v x m).0, (over-mem r.0 y r.2).0)))

-- ---- the table
module _ (p : Policy) where
  -- the built states stand by ascending state, and then by leaf
  pub built-ordered : (s t : ℕ) → s < t → t < length (built p) → Earlier (state_at p s) (state_at p t)
  unfolding built built_states state_at
  built-ordered s t h k =
      increasing-at (flat (map (states_over (forest p) p) (below p.states))) (flat-increasing (forest p) p (below p.states) (ascending-below p.states)) (record { state = 0; leaf = 0 }) s t h k

  -- what is found at the number of (v, l), where some built state is (v, l)
  found : (v l : ℕ) (b : Built) → Memᴰ b (built p) → is_built v l b ≡ true → (number p v l < length (built p)) × ((state_at p (number p v l)).state ≡ v) × ((state_at p (number p v l)).leaf ≡ l)
  unfolding number state_at
  found v l b m t =
      let r = position_at (is_built v l) (record { state = 0; leaf = 0 }) (built p) b m t in
      let x : Built = state_at p (number p v l) in
      (r.0, eqb≡ x.state v (and_l (eqb x.state v) (eqb x.leaf l) r.1), eqb≡ x.leaf l (and_r (eqb x.state v) (eqb x.leaf l) r.1))

  itself : (b : Built) → is_built b.state b.leaf b ≡ true
  itself b = both (eqb b.state b.state) (eqb b.leaf b.leaf) (≡eqb b.state b.state refl) (≡eqb b.leaf b.leaf refl)

  module _ (laws : ForestLaws p (forest p)) where
    pub built-good : (s : ℕ) → s < length (built p) → ((state_at p s).state < p.states) × Good (forest p) p (state_at p s).state (state_at p s).leaf
    unfolding built built_states state_at
    built-good s h =
        let x : Built = state_at p s in
        let r = flat-mem (states_over (forest p) p) (below p.states) x (get_or-mem (built p) s (record { state = 0; leaf = 0 }) h) in
        let o = over-mem (forest p) p r.0 x r.2 in
        (omega (arith, below-lt p.states r.0 r.1, o.0), subst (λ (v : ℕ). Good (forest p) p v x.leaf) (sym o.0) (leaves-good p (forest p) laws r.0 x.leaf o.1))

    pub number_at : (v l : ℕ) → v < p.states → Good (forest p) p v l → (number p v l < length (built p)) × ((state_at p (number p v l)).state ≡ v) × ((state_at p (number p v l)).leaf ≡ l)
    unfolding built built_states states_over
    number_at v l h g =
        found v l (over v l) (mem-flat (states_over (forest p) p) (below p.states) v (over v l) (mem_below p.states v h) (mem-map (over v) (or_else 65535 (leaves (forest p) p v)) l (good-leaves p (forest p) laws v l g))) (itself (over v l))
