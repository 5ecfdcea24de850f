-- The fixed order of the colour sets (document 01, "A policy"): falling number of members, then ascending mask; from 255 to 0.
use Rattle.std.specs.Prelude.{ℕ, zero, suc, Bool, ◌&&◌, ◌||◌, List, ◌++◌, eqb, ltb, get_or}
use Rattle.std.specs.Int.Count.{ones_in}
use Rattle.lists.specs.Lists.{filter, below}

-- how many of the 8 colours are in s
unfoldable pub size : ℕ → ℕ
unfolding ones_in
size s = ones_in 8 s

-- a stands before b: it has more members, or as many and the lower mask
unfoldable pub before : ℕ → ℕ → Bool
before a b = ltb (size b) (size a) || (eqb (size a) (size b) && ltb a b)

-- the sets of c members, ascending
unfoldable pub sized : ℕ → List ℕ
sized c = filter (λ s. eqb (size s) c) (below 256)

-- the sets of at most c members, the larger first
unfoldable pub up_to : ℕ → List ℕ
up_to zero = sized zero
up_to (suc c) = sized (suc c) ++ up_to c

unfoldable pub ordered : List ℕ
ordered = up_to 8

-- the set at a position
unfoldable pub set_at : ℕ → ℕ
set_at i = get_or ordered i 0
