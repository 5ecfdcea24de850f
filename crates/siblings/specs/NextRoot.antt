-- The first of some siblings that stands after a given one, and what a search for it asks of a mask. No mask is 0, so 0 stands for none.
use Rattle.std.specs.Prelude.{ℕ, Bool, ◌&&◌, ◌||◌, List, eqb}
use Rattle.lists.specs.Lists.{filter, first_or}
use Rattle.forest.specs.Forest.{before}

-- m stands after a; where a is 0, every mask does
unfoldable pub stands_after : ℕ → ℕ → Bool
stands_after a m = eqb a 0 || before a m

-- the first of l that stands after a; 0, which is no cycle, where there is none
unfoldable pub next_in : ℕ → List ℕ → ℕ
next_in a l = first_or 0 (filter (stands_after a) l)

-- ---- the search
-- m stands before b, the best found so far
unfoldable pub better : ℕ → ℕ → Bool
better b m = eqb b 0 || before m b

unfoldable pub root_better : ℕ → ℕ → ℕ → Bool
root_better a b m = stands_after a m && better b m
