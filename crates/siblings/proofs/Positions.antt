-- The positions of the children of a node in a list: how many there are, and the child at each. In a list without a member twice, positions at which the children
-- stand are these. Assumes nothing.
use Prim.Native.Nat.{ℕ, ◌≤◌, ◌<◌}
use native.Mathlib.Omega.{arith}
use mathlib.Core.Path.{◌≡◌, refl, sym, ap, ap₂, ◌∙◌}
use mathlib.Core.Bool.{true}
use mathlib.Core.List.{List, [], ◌∷◌, map, Memᴰ}
use lib.Dec.{eqb}
use lib.ListN.{length, get_or, length-map}
use Rattle.lists.specs.Lists.{filter, position, Distinct}
use Rattle.lists.proofs.Bools.{eqb≡, ≡eqb}
use Rattle.lists.proofs.Lists.{filter-mem, get_or-mem, position_at}
use Rattle.lists.proofs.Filters.{filter-few}
use Rattle.lists.proofs.Distinct.{position-once}
use Rattle.tables.proofs.Columns.{map_at}
use Rattle.masks.specs.Masks.{properly}
use Rattle.forest.proofs.Largest.{largest-order-mem, largest-few}
use Rattle.candidates.specs.Candidates.{children_in}
use Rattle.siblings.specs.Positions.{child_positions, masks_at}

module _ (l : List ℕ) (n : ℕ) where
  abbrev within : List ℕ
  within = filter (λ (m : ℕ). properly m n) l

  pub length-positions : length (child_positions l n) ≡ length (children_in l n)
  unfolding child_positions
  length-positions = length-map (children_in l n) (λ (m : ℕ). position (eqb m) l)

  pub positions-few : length (child_positions l n) ≤ length l
  unfolding children_in
  positions-few = omega (arith, length-positions, largest-few within, filter-few (λ (m : ℕ). properly m n) l)

  child-mem : (m : ℕ) → Memᴰ m (children_in l n) → Memᴰ m l
  unfolding children_in
  child-mem m k = (filter-mem (λ (x : ℕ). properly x n) l m (largest-order-mem within m k).0).0

  -- the child at place j
  pub child-position : (j : ℕ) → j < length (child_positions l n) → (get_or (child_positions l n) j 0 < length l) × (get_or l (get_or (child_positions l n) j 0) 0 ≡ get_or (children_in l n) j 0)
  unfolding child_positions
  child-position j h = rw (map_at (λ (m : ℕ). position (eqb m) l) (children_in l n) 0 j k) (r.0, sym (eqb≡ c (get_or l (position (eqb c) l) 0) r.1))
    where
      k : j < length (children_in l n)
      k = omega (arith, length-positions)

      c : ℕ
      c = get_or (children_in l n) j 0

      r : (position (eqb c) l < length l) × (eqb c (get_or l (position (eqb c) l) 0) ≡ true)
      r = position_at (eqb c) 0 l c (child-mem c (get_or-mem (children_in l n) j 0 k)) (≡eqb c c refl)

  -- positions at which the children stand
  pub positions-are : Distinct l → (ks : List ℕ) → ((k : ℕ) → Memᴰ k ks → k < length l) → masks_at l ks ≡ children_in l n → ks ≡ child_positions l n
  unfolding child_positions
  positions-are d ks each e = sym (back ks each) ∙ ap (map (λ (m : ℕ). position (eqb m) l)) e
    where
      back : (ks : List ℕ) → ((k : ℕ) → Memᴰ k ks → k < length l) → map (λ (m : ℕ). position (eqb m) l) (masks_at l ks) ≡ ks
      back [] each = refl
      back (k ∷ ks) each = ap₂ {C = List ℕ} (λ a b. a ∷ b) (position-once l d k (each k (Memᴰ.head refl))) (back ks (λ j m. each j (Memᴰ.tail m)))
