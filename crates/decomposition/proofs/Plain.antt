-- The priorities as if they began at 0, as a column of the forest; roots and children by the column of parents. Assumes nothing.
use Prim.Native.Nat.{ℕ, suc, ◌+◌, ◌≤◌, ◌<◌}
use native.Mathlib.Omega.{arith}
use mathlib.Core.Path.{◌≡◌, sym, ap, ◌∙◌, subst}
use mathlib.Core.Logic.{◌⊎◌, inl, inr, ◌≢◌}
use mathlib.Core.Bool.{Bool, true, false, cond}
use mathlib.Core.List.{List, Memᴰ}
use lib.ListN.{length, get_or, length-map}
use Rattle.lists.proofs.Bools.{test, eqb≡}
use Rattle.lists.proofs.Lists.{map_same, get_or-mem, mem-at}
use Rattle.tables.specs.Tables.{Column}
use Rattle.tables.proofs.Columns.{map_at}
use Rattle.policy.specs.declared.Policy.{Policy}
use Rattle.policy.specs.Policies.{legal}
use Rattle.forest.specs.Forest.{Node, is_root, forest, node, priority, node_parents, node_priorities_of}
use Rattle.forest.specs.Laws.{ForestLaws, parent_at, root_at}
use Rattle.forest.specs.Numbering.{plain_priority}
use Rattle.forest.proofs.Children.{root_few as roots_few, child-fewer, ordered-children, ordered-roots}
use Rattle.forest.proofs.Levels.{most-levels-few}
use Rattle.forest.proofs.Numbered.{Numbered, numbered}
use Rattle.forest.proofs.Forest.{forest-laws}
use Rattle.forest.proofs.Numbering.{accepted-before}
use Rattle.forest.proofs.Columns.{parent-at}
use Rattle.decomposition.specs.FromZero.{plain_priorities}

-- ---- a node's
pub plain-le : (x : Node) → plain_priority x ≤ x.level + 1
unfolding plain_priority
plain-le x = go x.accepted
  where
    go : (b : Bool) → x.level + cond b 0 1 ≤ x.level + 1
    go true = omega arith
    go false = omega arith

pub plain-root : (x : Node) → is_root x ≡ true → plain_priority x ≡ cond x.accepted 0 1
unfolding plain_priority
plain-root x r = omega (arith, eqb≡ x.level 0 r)

pub plain-child : (x y : Node) → y.level ≡ x.level + 1 → y.accepted ≡ x.accepted → plain_priority y ≡ plain_priority x + 1
unfolding plain_priority
plain-child x y l a = rw (a, l) (omega arith)

-- ---- the column
module _ (p : Policy) where
  pub length-plain : length (plain_priorities p) ≡ length (forest p)
  unfolding plain_priorities
  length-plain = length-map (forest p) plain_priority

  pub plain_at : (n : ℕ) → n < length (forest p) → get_or (plain_priorities p) n 0 ≡ plain_priority (node (forest p) n)
  unfolding plain_priorities node
  plain_at n l = map_at plain_priority (forest p) (record { mask = 0; parent = 0; level = 0; accepted = false }) n l

  pub plain-same : ((x : Node) → Memᴰ x (forest p) → priority p x ≡ plain_priority x) → plain_priorities p ≡ node_priorities_of p
  unfolding plain_priorities node_priorities_of
  plain-same e = map_same plain_priority (priority p) (forest p) (λ x m. sym (e x m))

  pub node_in : (n : ℕ) → n < length (forest p) → Memᴰ (node (forest p) n) (forest p)
  unfolding node
  node_in n l = get_or-mem (forest p) n (record { mask = 0; parent = 0; level = 0; accepted = false }) l

  pub node_of : (x : Node) → Memᴰ x (forest p) → (n : ℕ) × (n < length (forest p)) × (node (forest p) n ≡ x)
  unfolding node
  node_of x m = mem-at (forest p) (record { mask = 0; parent = 0; level = 0; accepted = false }) x m

-- ---- a legal policy's
module _ (p : Policy) (lawful : legal p ≡ true) where
  pub laws : ForestLaws p (forest p)
  laws = forest-laws p lawful

  pub numbers : Numbered p (forest p)
  numbers = numbered p (child-fewer p) (roots_few p) (ordered-children p) (ordered-roots p)

  pub plain-small : (n : ℕ) → n < length (forest p) → plain_priority (node (forest p) n) < 100
  plain-small n l = omega (arith, plain-le (node (forest p) n), laws.levels n l, most-levels-few p lawful)

  -- ---- by the parents
  module _ {parents : List ℕ} (few : length (forest p) ≤ 65535) (are : Column (node_parents p) parents) (n : ℕ) (l : n < length (forest p)) where
    pub parent_is : get_or parents n 0 ≡ parent_at (forest p) n
    parent_is = parent-at p n l are

    -- 65,535 says root
    pub is-root : get_or parents n 0 ≡ 65535 → root_at (forest p) n ≡ true
    is-root q = go (test (root_at (forest p) n))
      where
        go : (root_at (forest p) n ≡ true) ⊎ (root_at (forest p) n ≡ false) → root_at (forest p) n ≡ true
        go (inl t) = t
        go (inr f) = absurd (omega (arith, laws.parent_lt n l f, parent_is, q))

    module _ (q : get_or parents n 0 ≢ 65535) where
      pub is-child : root_at (forest p) n ≡ false
      is-child = go (test (root_at (forest p) n))
        where
          go : (root_at (forest p) n ≡ true) ⊎ (root_at (forest p) n ≡ false) → root_at (forest p) n ≡ false
          go (inl t) = absurd (q (parent_is ∙ numbers.root_parent n l t))
          go (inr f) = f

      pub parent_before : get_or parents n 0 < n
      parent_before = omega (arith, parent_is, laws.parent_lt n l is-child)

      -- the node before is of the same tree
      pub same-tree : (m : ℕ) → n ≡ suc m → (node (forest p) n).accepted ≡ (node (forest p) m).accepted
      same-tree m e =
          ap (λ (i : ℕ). (node (forest p) i).accepted) e
          ∙ accepted-before p lawful m (subst (λ (i : ℕ). i < length (forest p)) e l) (subst (λ (i : ℕ). root_at (forest p) i ≡ false) e is-child)
