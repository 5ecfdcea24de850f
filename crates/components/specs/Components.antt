-- The largest cycles inside an edge set, by their lowest states: the edges of its strongly connected components.
use Rattle.std.specs.Prelude.{ℕ, Bool, not, ◌&&◌, cond, List, [], ◌∷◌, map, eqb}
use Rattle.lists.specs.Lists.{any, flat, below}
use Rattle.policy.specs.declared.Policy.{Policy}
use Rattle.graph.specs.Cycles.{contains}
use Rattle.graph.specs.Through.{cycle_through}

module _ (p : Policy) where
  -- x is a cycle whose lowest state is v, given that it is 0 or a cycle through v
  unfoldable pub lowest_is : ℕ → ℕ → Bool
  lowest_is v x = not (eqb x 0) && not (any (λ u. contains p u x) (below v))

  -- the largest cycle through v inside m, if v is its lowest state
  unfoldable pub largest_at : ℕ → ℕ → List ℕ
  largest_at m v = let x = cycle_through p m v in cond (lowest_is v x) (x ∷ []) []

  -- the largest cycles inside m, by their lowest states
  unfoldable pub largest_in : ℕ → List ℕ
  largest_in m = flat (map (largest_at m) (below p.states))
