-- Where priorities begin shows only when all nodes are there. Until then they are numbered as if it were 0, which is document 01's numbering.
use Rattle.std.specs.Prelude.{Bool, List, map, ℕ}
use Rattle.lists.specs.Lists.{any}
use Rattle.policy.specs.declared.Policy.{Policy}
use Rattle.forest.specs.Forest.{Node, forest}
use Rattle.forest.specs.Numbering.{plain_priority}

module _ (p : Policy) where
  unfoldable pub plain_priorities : List ℕ
  plain_priorities = map plain_priority (forest p)

  -- some root is accepting
  unfoldable pub some_accepting : Bool
  some_accepting = any (λ (x : Node). x.accepted) (forest p)
