-- Where the priorities of the built automaton lie: from the lowest of the nodes up to the number of colours, and so at most 9. Assumes nothing.
use Prim.Native.Nat.{ℕ, ◌≤◌}
use mathlib.Core.Path.{◌≡◌}
use mathlib.Core.Bool.{Bool, true, false, cond}
use Rattle.policy.specs.declared.Policy.{Policy}
use Rattle.policy.specs.Policies.{legal, edge_of}
use Rattle.forest.specs.Forest.{forest, node, priority, transient_priority, in_root}
use Rattle.forest.specs.Numbering.{PriorityBounds}
use Rattle.forest.proofs.Numbering.{transient-bounds, priority-bounds, bounds-few}
use Rattle.automaton.specs.Automaton.{state_at, deepest, priority_after, row_priority}

module _ (p : Policy) (lawful : legal p ≡ true) where
  pub priority-after-bounds : (e l : ℕ) → PriorityBounds p (priority_after (forest p) p e l)
  unfolding priority_after
  priority-after-bounds e l = go (in_root (forest p) e)
    where
      go : (b : Bool) → PriorityBounds p (cond b (priority p (node (forest p) (deepest (forest p) e l))) (transient_priority p))
      go true = priority-bounds p lawful (deepest (forest p) e l)
      go false = transient-bounds p lawful

  pub priority-after-few : (e l : ℕ) → priority_after (forest p) p e l ≤ 9
  priority-after-few e l = bounds-few p lawful (priority_after (forest p) p e l) (priority-after-bounds e l)

  pub row-priority-bounds : (s a : ℕ) → PriorityBounds p (row_priority p s a)
  unfolding row_priority
  row-priority-bounds s a = priority-after-bounds (edge_of p (state_at p s).state a) (state_at p s).leaf

  pub row-priority-few : (s a : ℕ) → row_priority p s a ≤ 9
  row-priority-few s a = bounds-few p lawful (row_priority p s a) (row-priority-bounds s a)
