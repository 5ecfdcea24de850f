-- Sets as bit masks: an edge set is a number below 2^64, a colour set one below 2^8. Bit e says whether e is a member.
use Rattle.std.specs.Prelude.{ℕ, zero, suc, ◌+◌, ◌/◌, ◌%◌, ◌^◌, Bool, not, ◌&&◌, cond, List, [], ◌∷◌, ◌++◌, map, eqb}
use Rattle.std.specs.Int.Bits.{bit_and, bit_or, bit_xor}
use Rattle.lists.specs.Lists.{filter, below}

-- m has bit e
unfoldable pub has : ℕ → ℕ → Bool
has m e = eqb (m / 2 ^ e % 2) 1

-- m with bit e
unfoldable pub insert : ℕ → ℕ → ℕ
insert m e = bit_or m (2 ^ e)

-- what a has and b lacks
unfoldable pub minus : ℕ → ℕ → ℕ
minus a b = bit_xor a (bit_and a b)

-- every bit of a is one of b
unfoldable pub inside : ℕ → ℕ → Bool
inside a b = eqb (bit_and a b) a

-- inside, and not equal
unfoldable pub properly : ℕ → ℕ → Bool
properly a b = inside a b && not (eqb a b)

-- the numbers below n that pass a test, as a mask
unfoldable pub mask_of : (ℕ → Bool) → ℕ → ℕ
mask_of t zero = 0
mask_of t (suc n) = let r = mask_of t n in cond (t n) (r + 2 ^ n) r

-- the set of the members of a list
unfoldable pub set_of : List ℕ → ℕ
set_of [] = 0
set_of (e ∷ es) = insert (set_of es) e

-- the members of m below n, ascending
unfoldable pub members : ℕ → ℕ → List ℕ
members n m = filter (has m) (below n)

-- the masks inside m whose bits are below k, ascending
unfoldable pub submasks : ℕ → ℕ → List ℕ
submasks zero m = 0 ∷ []
submasks (suc k) m = let s = submasks k m in cond (has m k) (s ++ map (λ x. x + 2 ^ k) s) s
