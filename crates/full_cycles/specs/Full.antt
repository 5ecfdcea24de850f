-- Full cycles, and the largest cycles of all.
use Rattle.std.specs.Prelude.{ℕ, ◌<◌, ◌≡◌, ◌≢◌, List}
use Rattle.policy.specs.declared.Policy.{Policy}
use Rattle.policy.specs.Policies.{colours_of, full}
use Rattle.policy.specs.ByColour.{edges_in}
use Rattle.graph.specs.Through.{cycle_through}
use Rattle.components.specs.Components.{largest_in}

-- a cycle is full if it is the largest one in its own colours through one of its states; each node is
pub record Full (p : Policy) (x : ℕ) : Type 0 where
  pub some : x ≢ 0
  pub state : ℕ
  pub state_lt : state < p.states
  pub is : x ≡ cycle_through p (edges_in p (colours_of p x)) state

-- the largest cycles of all, which are the roots
unfoldable pub largest_cycles : Policy → List ℕ
largest_cycles p = largest_in p (full p)
