-- Colours for mark sets (document 02, S-4): each different one, by first appearance; and the union of the mark sets of some colours. A mark set is a mask.
use Rattle.std.specs.Prelude.{ℕ, zero, suc, ◌-◌, ◌≤◌, ◌<◌, ◌≡◌, Option, Some, None, not, cond, List, [], ◌∷◌, ◌++◌, map, eqb, length, get_or, replicate}
use Rattle.std.specs.Int.Bits.{bit_or}
use Rattle.lists.specs.Lists.{filter, position}
use Rattle.masks.specs.Masks.{has}
use Rattle.mark_sets.specs.declared.Colouring.{Colouring}

-- each member once, by first appearance
unfoldable pub firsts : List ℕ → List ℕ
firsts [] = []
firsts (x ∷ xs) = x ∷ filter (λ y. not (eqb x y)) (firsts xs)

-- the colour of a mark set among those of all edges
unfoldable pub colour_in : List ℕ → ℕ → ℕ
colour_in l x = position (eqb x) (firsts l)

-- what is answered of the mark sets of some edges, which are no more than 8: their number, the colour of each edge and the mark set of each colour, with 0 past the last ones
pub record Coloured (l : List ℕ) (r : Colouring) : Type 0 where
  pub few : length (firsts l) ≤ 8
  pub count_is : r.count ≡ length (firsts l)
  pub colours_are : r.colour ≡ map (colour_in l) l ++ replicate (64 - length l) 0
  pub sets_are : r.sets ≡ firsts l ++ replicate (8 - length (firsts l)) 0

-- that; or that they are more
abbrev pub Colours : List ℕ → Option Colouring → Type 0
Colours l (Some r) = Coloured l r
Colours l None = 8 < length (firsts l)

-- the union of the sets at the places below n that s has
unfoldable pub union_at : List ℕ → ℕ → ℕ → ℕ
union_at sets s zero = 0
union_at sets s (suc n) = let r = union_at sets s n in cond (has s n) (bit_or r (get_or sets n 0)) r
