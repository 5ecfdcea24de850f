-- The forest of a policy (document 01, "Cycles and the forest"): the alternating cycle decomposition of document 004, Definitions 5.1 and 5.3.
use Rattle.std.specs.Prelude.{ℕ, zero, suc, ◌+◌, ◌%◌, Bool, false, not, ◌&&◌, cond, List, [], ◌∷◌, ◌++◌, map, eqb, ltb, leb, length, get_or}
use Rattle.std.specs.Int.Count.{ones}
use Rattle.lists.specs.Lists.{any, filter, greatest, lowest}
use Rattle.lists.specs.Bools.{differs}
use Rattle.tables.specs.Tables.{places}
use Rattle.masks.specs.Masks.{has, properly}
use Rattle.policy.specs.declared.Policy.{Policy}
use Rattle.policy.specs.Policies.{edges, colours_of, accepting, full}
use Rattle.graph.specs.Cycles.{cycles_in}

-- ---- siblings
-- the sibling order: by ascending mask
unfoldable pub before : ℕ → ℕ → Bool
before a b = ltb a b

-- m, put in its place
unfoldable pub place : ℕ → List ℕ → List ℕ
place m [] = m ∷ []
place m (x ∷ xs) = let r = place m xs in cond (before m x) (m ∷ x ∷ xs) (x ∷ r)

unfoldable pub in_order : List ℕ → List ℕ
in_order [] = []
in_order (m ∷ ms) = place m (in_order ms)

-- ---- largest cycles
-- those properly inside no other
unfoldable pub largest : List ℕ → List ℕ
largest l = filter (λ x. not (any (properly x) l)) l

module _ (p : Policy) where
  -- the roots: the largest cycles (Definition 5.3)
  unfoldable pub roots : List ℕ
  roots = in_order (largest (cycles_in p (full p)))

  -- the cycles inside n with the other verdict
  unfoldable pub opposed : ℕ → List ℕ
  opposed n = let a = accepting p n in filter (λ m. differs a (accepting p m)) (cycles_in p n)

  -- the children of n: the largest of them (Definition 5.1)
  unfoldable pub children : ℕ → List ℕ
  children n = in_order (largest (opposed n))

-- ---- levels
module _ (p : Policy) where
  -- one for the empty colour set, if some edge is quiet
  unfoldable pub quiet_level : ℕ
  quiet_level = cond (eqb p.quiet 0) 0 1

  -- how many levels a tree has at most: as many as there are colours, and one more if some edge is quiet
  unfoldable pub most_levels : ℕ
  most_levels = p.colours + quiet_level

  -- how many there are at most at and below a node with mask m: each level has a colour less
  unfoldable pub levels_left : ℕ → ℕ
  levels_left m = ones (colours_of p m) + quiet_level

-- an even priority is an accepting node's
unfoldable pub even : ℕ → Bool
even k = eqb (k % 2) 0

-- ---- nodes, numbered depth first, parent before child
-- `parent` is the parent's number, 65,535 for a root; `level` is 0 for a root; `accepted` is the verdict of the node's root
pub record Node : Type 0 where
  pub mask : ℕ
  pub parent : ℕ
  pub level : ℕ
  pub accepted : Bool

abbrev pub is_root : Node → Bool
is_root x = eqb x.level 0

-- the trees of a list of masks, one after the other, the first number being n; `t n m` is the tree of m whose root is numbered n
unfoldable pub trees : (ℕ → ℕ → List Node) → ℕ → List ℕ → List Node
trees t n [] = []
trees t n (m ∷ ms) = let x = t n m in x ++ trees t (n + length x) ms

module _ (p : Policy) where
  -- the tree of m: its node, numbered n, then the trees of its children. A child has fewer edges, so k = edges + 1 levels are enough
  unfoldable pub tree : ℕ → ℕ → ℕ → Bool → ℕ → ℕ → List Node
  tree zero parent level accepted n m = []
  tree (suc k) parent level accepted n m =
      record { mask = m; parent = parent; level = level; accepted = accepted } ∷ trees (tree k n (level + 1) accepted) (n + 1) (children p m)

  unfoldable pub forest : List Node
  forest = trees (λ n m. tree (edges p + 1) 65535 0 (accepting p m) n m) 0 (roots p)

  -- ---- priorities (document 02, S-2; document 004, section 5.2)
  -- the greatest level of a node: a tree has the most levels if one of its nodes has this one
  unfoldable pub greatest_level : ℕ
  greatest_level = greatest (map (λ (x : Node). x.level) forest)

  -- some tree with the most levels has an accepting root: "positive" or "equidistant" in document 004, where it is "negative" otherwise
  unfoldable pub from_zero : Bool
  from_zero = let top = greatest_level in any (λ (x : Node). eqb x.level top && x.accepted) forest

  -- the priority of a root, by its verdict
  unfoldable pub root_priority : Bool → ℕ
  root_priority accepted = cond accepted (cond from_zero 0 2) 1

  -- each level adds 1
  unfoldable pub priority : Node → ℕ
  priority x = x.level + root_priority x.accepted

  -- the priority of an edge in no cycle: the lowest that any node has
  unfoldable pub transient_priority : ℕ
  transient_priority = lowest (map priority forest)

-- ---- the node of a number, its ancestors and children, over the numbered nodes ns
module _ (ns : List Node) where
  unfoldable pub node : ℕ → Node
  node n = get_or ns n (record { mask = 0; parent = 0; level = 0; accepted = false })

  -- n and its k nearest ancestors
  unfoldable pub up_from : ℕ → ℕ → List ℕ
  up_from zero n = n ∷ []
  up_from (suc k) n = n ∷ up_from k (node n).parent

  -- n, its parent, .. , its root
  unfoldable pub chain : ℕ → List ℕ
  chain n = up_from (node n).level n

  -- j is a child of n
  unfoldable pub child_of : ℕ → ℕ → Bool
  child_of n j = not (is_root (node j)) && eqb (node j).parent n

  -- some root has e
  unfoldable pub in_root : ℕ → Bool
  in_root e = any (λ x. is_root x && has x.mask e) ns

-- ---- the columns of the nodes
module _ (p : Policy) where
  unfoldable pub node_masks : List ℕ
  node_masks = map (λ (x : Node). x.mask) (forest p)

  unfoldable pub node_parents : List ℕ
  node_parents = map (λ (x : Node). x.parent) (forest p)

  unfoldable pub node_priorities_of : List ℕ
  node_priorities_of = map (priority p) (forest p)

  -- question 9, from a node table: the nodes fit its places
  unfoldable pub forest_fits : List ℕ → Bool
  forest_fits masks = leb (length (forest p)) (places masks)
