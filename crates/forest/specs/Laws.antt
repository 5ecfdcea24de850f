-- What the layers above may know of the forest. proofs/ has the theorem that the forest of every legal policy has these laws.
use Rattle.std.specs.Prelude.{ℕ, ◌+◌, ◌<◌, ◌≡◌, ◌⊎◌, Bool, true, false, not, length}
use mathlib.Core.List.{List, [], ◌∷◌, Memᴰ}
use Rattle.masks.specs.Masks.{inside, properly}
use Rattle.policy.specs.declared.Policy.{Policy}
use Rattle.policy.specs.Policies.{accepting}
use Rattle.graph.specs.Cycles.{is_cycle, contains}
use Rattle.forest.specs.Forest.{Node, is_root, before, most_levels, even, priority, node, chain, child_of, roots, children}

-- each mask stands before those after it
abbrev pub Ordered : List ℕ → Type 0
Ordered [] = Unit {0}
Ordered (x ∷ xs) = ((y : ℕ) → Memᴰ y xs → before x y ≡ true) × Ordered xs

module _ (ns : List Node) where
  abbrev pub mask_at : ℕ → ℕ
  mask_at n = (node ns n).mask

  abbrev pub parent_at : ℕ → ℕ
  parent_at n = (node ns n).parent

  abbrev pub root_at : ℕ → Bool
  root_at n = is_root (node ns n)

  -- two roots, or two children of one node
  abbrev pub Siblings : ℕ → ℕ → Type 0
  Siblings i j = ((root_at i ≡ true) × (root_at j ≡ true)) ⊎ ((root_at i ≡ false) × (root_at j ≡ false) × (parent_at i ≡ parent_at j))

pub record ForestLaws (p : Policy) (ns : List Node) : Type 0 where
  -- F1: a parent's number is smaller than its child's, and its level one less
  pub parent_lt : (n : ℕ) → n < length ns → root_at ns n ≡ false → parent_at ns n < n
  pub level_up : (n : ℕ) → n < length ns → root_at ns n ≡ false → (node ns n).level ≡ (node ns (parent_at ns n)).level + 1
  -- F2: each mask is a cycle; a child's lies properly inside its parent's, and has the other verdict
  pub cycle : (n : ℕ) → n < length ns → is_cycle p (mask_at ns n) ≡ true
  pub within : (n : ℕ) → n < length ns → root_at ns n ≡ false → properly (mask_at ns n) (mask_at ns (parent_at ns n)) ≡ true
  pub turned : (n : ℕ) → n < length ns → root_at ns n ≡ false → accepting p (mask_at ns n) ≡ not (accepting p (mask_at ns (parent_at ns n)))
  -- F3: a cycle inside a node with the other verdict lies inside some child of it; every cycle lies inside some root
  pub in_child : (n : ℕ) → n < length ns → (x : ℕ) → is_cycle p x ≡ true → inside x (mask_at ns n) ≡ true → accepting p x ≡ not (accepting p (mask_at ns n))
      → (j : ℕ) × (j < length ns) × (child_of ns n j ≡ true) × (inside x (mask_at ns j) ≡ true)
  pub in-root : (x : ℕ) → is_cycle p x ≡ true → (n : ℕ) × (n < length ns) × (root_at ns n ≡ true) × (inside x (mask_at ns n) ≡ true)
  -- F4: two roots share no state
  pub apart : (i j : ℕ) → i < length ns → j < length ns → root_at ns i ≡ true → root_at ns j ≡ true
      → (v : ℕ) → contains p v (mask_at ns i) ≡ true → contains p v (mask_at ns j) ≡ true → i ≡ j
  -- F5: siblings stand in sibling order, each mask once
  pub ordered : (i j : ℕ) → i < j → j < length ns → Siblings ns i j → before (mask_at ns i) (mask_at ns j) ≡ true
  -- F6: depth first: the node after n is a root, or a child of n or of an ancestor of n
  pub depth_first : (n : ℕ) → n + 1 < length ns → (root_at ns (n + 1) ≡ true) ⊎ Memᴰ (parent_at ns (n + 1)) (chain ns n)
  -- F7: a tree has few levels
  pub levels : (n : ℕ) → n < length ns → (node ns n).level < most_levels p
  -- a node carries the verdict of its root
  pub rooted : (n r : ℕ) → n < length ns → Memᴰ r (chain ns n) → root_at ns r ≡ true → (node ns n).accepted ≡ accepting p (mask_at ns r)
  -- priorities: even exactly for an accepting node, and a child's is larger than its parent's
  pub even_accepting : (n : ℕ) → n < length ns → even (priority p (node ns n)) ≡ accepting p (mask_at ns n)
  pub priority_grows : (n : ℕ) → n < length ns → root_at ns n ≡ false → priority p (node ns (parent_at ns n)) < priority p (node ns n)
  -- exactly the roots and the children: each node's mask is one, and each one is the mask of a node
  pub root_mask : (n : ℕ) → n < length ns → root_at ns n ≡ true → Memᴰ (mask_at ns n) (roots p)
  pub mask_root : (m : ℕ) → Memᴰ m (roots p) → (n : ℕ) × (n < length ns) × (root_at ns n ≡ true) × (mask_at ns n ≡ m)
  pub child_mask : (n : ℕ) → n < length ns → root_at ns n ≡ false → Memᴰ (mask_at ns n) (children p (mask_at ns (parent_at ns n)))
  pub mask_child : (n : ℕ) → n < length ns → (m : ℕ) → Memᴰ m (children p (mask_at ns n)) → (j : ℕ) × (j < length ns) × (child_of ns n j ≡ true) × (mask_at ns j ≡ m)
