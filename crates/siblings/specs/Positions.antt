-- The children of a node, by their positions in a list of masks; and how one pass through the list finds them: the positions of those kept so far stand in sibling order.
use Rattle.std.specs.Prelude.{ℕ, zero, suc, ◌≤◌, ◌<◌, Bool, not, ◌&&◌, cond, List, [], ◌∷◌, map, eqb, length, get_or, take}
use Rattle.lists.specs.Lists.{any, position}
use Rattle.masks.specs.Masks.{inside, properly}
use Rattle.forest.specs.Forest.{before}
use Rattle.candidates.specs.Candidates.{children_in}

-- the positions in l of the children of n, in sibling order
unfoldable pub child_positions : List ℕ → ℕ → List ℕ
child_positions l n = map (λ m. position (eqb m) l) (children_in l n)

-- ---- the pass
module _ (l : List ℕ) where
  -- the masks at some positions
  abbrev pub masks_at : List ℕ → List ℕ
  masks_at ks = map (λ (k : ℕ). get_or l k 0) ks

  -- the first n of ks are positions in l
  pub record Positions (ks : List ℕ) (n : ℕ) : Type 0 where
    pub long : n ≤ length ks
    pub each : (j : ℕ) → j < n → get_or ks j 0 < length l

  -- position i, put in its place among the first n of ks: a position whose mask stands after is carried on, and the last one takes place n
  unfoldable pub carried : ℕ → ℕ → List ℕ → List ℕ
  carried n i [] = []
  carried zero i (k ∷ ks) = i ∷ ks
  carried (suc n) i (k ∷ ks) = let r = carried n k ks in let s = carried n i ks in cond (before (get_or l i 0) (get_or l k 0)) (i ∷ r) (k ∷ s)

  -- m lies inside no mask at the first n positions of ks
  unfoldable pub outside : List ℕ → ℕ → ℕ → Bool
  outside ks n m = not (any (inside m) (masks_at (take n ks)))

  -- m lies properly inside the node x, and is kept
  unfoldable pub kept : List ℕ → ℕ → ℕ → ℕ → Bool
  kept ks n x m = properly m x && outside ks n m
