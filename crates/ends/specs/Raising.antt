-- A table of ends on its way: each node ends right after itself, and then an end is raised to another.
use Rattle.std.specs.Prelude.{ℕ, ◌+◌, cond, List, map, ltb, get_or, set}
use Rattle.lists.specs.Lists.{below}

-- 1, .. , n
unfoldable pub successors : ℕ → List ℕ
successors n = map (λ i. i + 1) (below n)

-- what stands at `up`, raised to what stands at n
unfoldable pub raised_to : List ℕ → ℕ → ℕ → List ℕ
raised_to l up n = cond (ltb (get_or l up 0) (get_or l n 0)) (set l up (get_or l n 0)) l
