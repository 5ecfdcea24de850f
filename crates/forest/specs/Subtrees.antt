-- The tree of one mask, and the trees of some masks in a row, as columns of masks and of parents.
use Rattle.std.specs.Prelude.{ℕ, ◌+◌, true, List, map, length}
use Rattle.lists.specs.Lists.{flat}
use Rattle.policy.specs.declared.Policy.{Policy}
use Rattle.policy.specs.Policies.{edges}
use Rattle.forest.specs.Forest.{Node, trees, tree}

module _ (p : Policy) where
  -- the tree of m, whose root is numbered n and has the parent q
  unfoldable pub tree_at : ℕ → ℕ → ℕ → List Node
  tree_at q n m = tree p (edges p + 1) q 0 true n m

  -- its masks, which are the same wherever it stands
  unfoldable pub tree_masks : ℕ → List ℕ
  tree_masks m = map (λ (x : Node). x.mask) (tree_at 0 0 m)

  unfoldable pub tree_parents : ℕ → ℕ → ℕ → List ℕ
  tree_parents q n m = map (λ (x : Node). x.parent) (tree_at q n m)

  -- how many nodes it has
  unfoldable pub tree_size : ℕ → ℕ
  tree_size m = length (tree_masks m)

  -- the trees of some siblings in a row, the first root being numbered n
  unfoldable pub row_masks : List ℕ → List ℕ
  row_masks ms = flat (map tree_masks ms)

  unfoldable pub row_parents : ℕ → ℕ → List ℕ → List ℕ
  row_parents q n ms = map (λ (x : Node). x.parent) (trees (tree_at q) n ms)
