-- What holds of priorities as document 02, S-2, numbers them: where they lie, and what is other than in document 01's numbering.
use Rattle.std.specs.Prelude.{ℕ, ◌+◌, ◌≤◌, ◌<◌, ◌≡◌, ◌↔◌, true, cond, length}
use mathlib.Core.List.{List, Memᴰ}
use Rattle.policy.specs.declared.Policy.{Policy}
use Rattle.policy.specs.Policies.{accepting}
use Rattle.forest.specs.Forest.{Node, most_levels, forest, greatest_level, priority, transient_priority, node, chain}
use Rattle.forest.specs.Laws.{mask_at, root_at}

-- some tree with the most levels has an accepting root: the tree's root, and a node of the tree that has the greatest level of all
pub record AcceptingMost (p : Policy) (ns : List Node) : Type 0 where
  pub root : ℕ
  pub root_lt : root < length ns
  pub is-root : root_at ns root ≡ true
  pub accepts : accepting p (mask_at ns root) ≡ true
  pub bottom : ℕ
  pub bottom_lt : bottom < length ns
  pub in_tree : Memᴰ root (chain ns bottom)
  pub most : (n : ℕ) → n < length ns → (node ns n).level ≤ (node ns bottom).level

-- where a priority lies: from the lowest of all, which is 0 or 1, up to the most levels that a tree can have
pub record PriorityBounds (p : Policy) (k : ℕ) : Type 0 where
  pub lowest : transient_priority p ≤ k
  pub most : k ≤ most_levels p

-- ---- beside document 01's numbering
-- there a priority is a node's level, plus 1 if its root is rejecting
unfoldable pub plain_priority : Node → ℕ
plain_priority x = x.level + cond x.accepted 0 1

-- some node has the priority k under the numbering f
abbrev pub InUse : List Node → (Node → ℕ) → ℕ → Type 0
InUse ns f k = (n : ℕ) × (n < length ns) × (f (node ns n) ≡ k)

-- one priority fewer: 0 is no longer in use, and all others are that were
pub record OneFewer (p : Policy) : Type 0 where
  pub before : (k : ℕ) → InUse (forest p) plain_priority k ↔ (k ≤ greatest_level p + 1)
  pub now : (k : ℕ) → InUse (forest p) (priority p) k ↔ ((1 ≤ k) × (k ≤ greatest_level p + 1))
