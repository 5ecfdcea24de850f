-- The largest cycles inside an edge set, found state by state and stored in a list that is lent.
use Rattle.std.specs.Prelude.{ℕ, zero, suc, ◌≤◌, ◌<◌, ◌≡◌, not, ◌&&◌, cond, List, map, length}
use Rattle.std.specs.Int.Bits.{bit_or}
use Rattle.lists.specs.Lists.{flat, below}
use Rattle.tables.specs.Tables.{Stored}
use Rattle.masks.specs.Masks.{has}
use Rattle.policy.specs.declared.Policy.{Policy}
use Rattle.graph.specs.Cycles.{contains}
use Rattle.graph.specs.Through.{cycle_through, onward}
use Rattle.components.specs.Components.{lowest_is, largest_at, largest_in}

module _ (p : Policy) where
  -- the largest cycle through v inside m, if v is its lowest state; else 0
  unfoldable pub lowest_cycle : ℕ → ℕ → ℕ
  lowest_cycle m v = let x = cycle_through p m v in cond (lowest_is p v x) x 0

  -- these cycles for the states below v, as one set
  unfoldable pub covered : ℕ → ℕ → ℕ
  covered m zero = 0
  covered m (suc v) = bit_or (covered m v) (lowest_cycle m v)

  -- the largest cycles inside m at the states below n
  unfoldable pub largest_to : ℕ → ℕ → List ℕ
  largest_to m n = flat (map (largest_at p m) (below n))

-- a list of 16 places, t₀ before, begins with the n largest cycles inside m
pub record Found (p : Policy) (m : ℕ) (t₀ t : List ℕ) (n : ℕ) : Type 0 where
  pub cycles_are : Stored t₀ t 0 n (largest_in p m)
  pub few : n ≤ p.states
  pub long : length t ≡ 16

-- after the states below v: the largest cycles inside m found there stand first, n of them, in the list, t₀ before, and `left` has the states on cycles that are on none of them
pub record Finding (p : Policy) (m : ℕ) (t₀ t : List ℕ) (left n v : ℕ) : Type 0 where
  pub at_most : n ≤ v
  pub left_are : (w : ℕ) → w < p.states → has left w ≡ has (onward p m w) w && not (contains p w (covered p m v))
  pub found : Stored t₀ t 0 n (largest_to p m v)
