-- What the building stages hand to one another: the node tables, the end of each node's descendants, and where the states over each policy state begin.
use Rattle.std.specs.Prelude.{ℕ, ◌+◌, ◌≤◌, List, map, eqb, ltb, length}
use Rattle.lists.specs.Lists.{any, filter, below}
use Rattle.tables.specs.Tables.{Column}
use Rattle.policy.specs.declared.Policy.{Policy}
use Rattle.forest.specs.Forest.{Node, forest, chain, node_masks, node_parents, node_priorities_of}
use Rattle.automaton.specs.Automaton.{Built, built}

-- one past the last descendant of n: n and the number of the nodes that have n on their chain
unfoldable pub end_of : List Node → ℕ → ℕ
end_of ns n = n + length (filter (λ j. any (eqb n) (chain ns j)) (below (length ns)))

-- how many built states stand over policy states below v
unfoldable pub first_over : Policy → ℕ → ℕ
first_over p v = length (filter (λ (b : Built). ltb b.state v) (built p))

-- the end of each node
unfoldable pub node_ends : Policy → List ℕ
node_ends p = map (end_of (forest p)) (below (length (forest p)))

-- where the states over each policy state begin, and where the last ones end
unfoldable pub state_starts : Policy → List ℕ
state_starts p = map (first_over p) (below (p.states + 1))

-- the node tables begin with the forest
pub record Nodes (p : Policy) (masks parents node_priorities : List ℕ) : Type 0 where
  pub few : length (forest p) ≤ 65535
  pub masks_are : Column (node_masks p) masks
  pub parents_are : Column (node_parents p) parents
  pub node_priorities_are : Column (node_priorities_of p) node_priorities
