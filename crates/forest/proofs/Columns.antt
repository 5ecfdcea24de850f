-- The columns of the forest, and tables that begin with them: how long they are, and what stands at each place. Assumes nothing.
use Prim.Native.Nat.{ℕ, ◌≤◌, ◌<◌}
use native.Mathlib.Omega.{arith}
use mathlib.Core.Path.{◌≡◌, sym, ap, ◌∙◌}
use mathlib.Core.Bool.{false}
use mathlib.Core.List.{List, map, Memᴰ}
use lib.ListN.{length, get_or, length-map}
use Rattle.lists.proofs.Lists.{get_or-mem, mem-at, map-mem, mem-map}
use Rattle.tables.specs.Tables.{Column}
use Rattle.tables.proofs.Columns.{map_at, column-at}
use Rattle.policy.specs.declared.Policy.{Policy}
use Rattle.forest.specs.Forest.{Node, forest, node, priority, node_masks, node_parents, node_priorities_of}
use Rattle.forest.specs.Laws.{mask_at, parent_at}

module _ (p : Policy) where
  -- a number of each node: that of a node is one of them, and each of them is that of a node
  pub mapped_in : (f : Node → ℕ) (n : ℕ) → n < length (forest p) → Memᴰ (f (node (forest p) n)) (map f (forest p))
  unfolding node
  mapped_in f n l = mem-map f (forest p) (node (forest p) n) (get_or-mem (forest p) n (record { mask = 0; parent = 0; level = 0; accepted = false }) l)

  pub mapped-from : (f : Node → ℕ) (k : ℕ) → Memᴰ k (map f (forest p)) → (n : ℕ) × (n < length (forest p)) × (k ≡ f (node (forest p) n))
  unfolding node
  mapped-from f k m =
      let x = map-mem f (forest p) k m in
      let n = mem-at (forest p) (record { mask = 0; parent = 0; level = 0; accepted = false }) x.0 x.1 in
      (n.0, n.1, x.2 ∙ sym (ap f n.2))

  -- ---- the columns
  pub length-masks : length (node_masks p) ≡ length (forest p)
  unfolding node_masks
  length-masks = length-map (forest p) (λ (x : Node). x.mask)

  pub length-parents : length (node_parents p) ≡ length (forest p)
  unfolding node_parents
  length-parents = length-map (forest p) (λ (x : Node). x.parent)

  pub length-node-priorities : length (node_priorities_of p) ≡ length (forest p)
  unfolding node_priorities_of
  length-node-priorities = length-map (forest p) (priority p)

  pub node-priorities-at : (n : ℕ) → n < length (forest p) → get_or (node_priorities_of p) n 0 ≡ priority p (node (forest p) n)
  unfolding node_priorities_of node
  node-priorities-at n l = map_at (priority p) (forest p) (record { mask = 0; parent = 0; level = 0; accepted = false }) n l

  -- ---- tables that begin with them
  module _ {t : List ℕ} where
    pub masks_long : Column (node_masks p) t → length (forest p) ≤ length t
    masks_long c = omega (arith, c.long, length-masks)

    pub parents_long : Column (node_parents p) t → length (forest p) ≤ length t
    parents_long c = omega (arith, c.long, length-parents)

    pub node_priorities_long : Column (node_priorities_of p) t → length (forest p) ≤ length t
    node_priorities_long c = omega (arith, c.long, length-node-priorities)

    module _ (n : ℕ) (h : n < length (forest p)) where
      pub mask-at : Column (node_masks p) t → get_or t n 0 ≡ mask_at (forest p) n
      unfolding node_masks node
      mask-at c = column-at (λ (x : Node). x.mask) (forest p) c (record { mask = 0; parent = 0; level = 0; accepted = false }) n h

      pub parent-at : Column (node_parents p) t → get_or t n 0 ≡ parent_at (forest p) n
      unfolding node_parents node
      parent-at c = column-at (λ (x : Node). x.parent) (forest p) c (record { mask = 0; parent = 0; level = 0; accepted = false }) n h

      pub node-priority-at : Column (node_priorities_of p) t → get_or t n 0 ≡ priority p (node (forest p) n)
      unfolding node_priorities_of node
      node-priority-at c = column-at (priority p) (forest p) c (record { mask = 0; parent = 0; level = 0; accepted = false }) n h
