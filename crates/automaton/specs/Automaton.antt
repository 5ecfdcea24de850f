-- The built automaton (document 01, "The built automaton"; document 004, Definition 5.12), over the numbered nodes ns of the forest.
use Rattle.std.specs.Prelude.{ℕ, Bool, not, ◌&&◌, cond, List, [], ◌∷◌, map, eqb, ltb, leb, length, get_or}
use Rattle.tables.specs.Tables.{places}
use Rattle.lists.specs.Lists.{any, filter, first_or, flat, position, below}
use Rattle.masks.specs.Masks.{has}
use Rattle.policy.specs.declared.Policy.{Policy}
use Rattle.policy.specs.Policies.{edge_of, target_of}
use Rattle.graph.specs.Cycles.{contains}
use Rattle.forest.specs.Forest.{Node, forest, priority, transient_priority, node, chain, child_of, in_root}

-- l, or d alone where l is empty
abbrev pub or_else : ℕ → List ℕ → List ℕ
or_else d [] = d ∷ []
or_else d (x ∷ xs) = x ∷ xs

-- the next of ks after c in cyclic order: the first above c, else the first (document 004, section 2.3, Next). ks ascends
unfoldable pub next : ℕ → List ℕ → ℕ
next c ks = first_or (first_or c ks) (filter (ltb c) ks)

-- a state of the built automaton: it stands over the policy's state `state`
pub record Built : Type 0 where
  pub state : ℕ
  pub leaf : ℕ

abbrev pub is_built : ℕ → ℕ → Built → Bool
is_built v l b = eqb b.state v && eqb b.leaf l

-- ---- where an edge e meets the branch of a leaf l
module _ (ns : List Node) where
  -- the deepest node among l and its ancestors whose mask has e (Supp)
  unfoldable pub deepest : ℕ → ℕ → ℕ
  deepest e l = first_or l (filter (λ n. has (node ns n).mask e) (chain ns l))

  -- the child of n that leads to l
  unfoldable pub lead : ℕ → ℕ → ℕ
  lead n l = first_or n (filter (child_of ns n) (chain ns l))

module _ (ns : List Node) (p : Policy) where
  -- node n contains state v
  unfoldable pub holds : ℕ → ℕ → Bool
  holds v n = contains p v (node ns n).mask

  -- the children of n that contain v, by number
  unfoldable pub kids : ℕ → ℕ → List ℕ
  kids v n = filter (λ j. child_of ns n j && holds v j) (below (length ns))

  -- ---- leaves and built states
  -- n is a leaf of v: it contains v, and no child of it does
  unfoldable pub is_leaf : ℕ → ℕ → Bool
  is_leaf v n = holds v n && not (any (λ j. child_of ns n j && holds v j) (below (length ns)))

  -- the leaves of v by number
  unfoldable pub leaves : ℕ → List ℕ
  leaves v = filter (is_leaf v) (below (length ns))

  -- the first leaf of v; 65,535 for a state in no cycle
  unfoldable pub first_leaf : ℕ → ℕ
  first_leaf v = first_or 65535 (leaves v)

  -- the states over v, and all of them by ascending v and then node number
  unfoldable pub states_over : ℕ → List Built
  states_over v = map (λ l. record { state = v; leaf = l }) (or_else 65535 (leaves v))

  unfoldable pub built_states : List Built
  built_states = flat (map states_over (below p.states))

  -- ---- the edge e from a state with leaf l
  -- the child of n entered on the way to w: the next one after the child that leads to l; where l is n, the first one
  unfoldable pub entered : ℕ → ℕ → ℕ → ℕ
  entered w n l = let ks = kids w n in cond (eqb l n) (first_or n ks) (next (lead ns n l) ks)

  -- the first leaf of w at or below n
  unfoldable pub first_leaf_below : ℕ → ℕ → ℕ
  first_leaf_below w n = first_or n (filter (λ l. any (eqb n) (chain ns l)) (leaves w))

  -- the leaf that e leads to (Jump): with no root that has e, the first leaf of e's target
  unfoldable pub leaf_after : ℕ → ℕ → ℕ
  leaf_after e l =
      let w = target_of p e in
      let n = deepest ns e l in
      let below-child = first_leaf_below w (entered w n l) in
      let within = cond (is_leaf w n) n below-child in
      let first = first_leaf w in
      cond (in_root ns e) within first

  -- the priority that e meets
  unfoldable pub priority_after : ℕ → ℕ → ℕ
  priority_after e l = let within = priority p (node ns (deepest ns e l)) in cond (in_root ns e) within (transient_priority p)

-- ---- the tables of a policy
module _ (p : Policy) where
  unfoldable pub built : List Built
  built = built_states (forest p) p

  unfoldable pub state_at : ℕ → Built
  state_at s = get_or built s (record { state = 0; leaf = 0 })

  -- the number of the built state (v, l)
  unfoldable pub number : ℕ → ℕ → ℕ
  number v l = position (is_built v l) built

  unfoldable pub start : ℕ
  start = number p.initial (first_leaf (forest p) p p.initial)

  -- the row of a built state and a letter
  unfoldable pub row_target : ℕ → ℕ → ℕ
  row_target s a = let e = edge_of p (state_at s).state a in number (target_of p e) (leaf_after (forest p) p e (state_at s).leaf)

  unfoldable pub row_priority : ℕ → ℕ → ℕ
  row_priority s a = priority_after (forest p) p (edge_of p (state_at s).state a) (state_at s).leaf

  -- the row tables: row = built state times letters plus letter
  unfoldable pub row_targets : List ℕ
  row_targets = flat (map (λ s. map (row_target s) (below p.letters)) (below (length built)))

  unfoldable pub row_priorities : List ℕ
  row_priorities = flat (map (λ s. map (row_priority s) (below p.letters)) (below (length built)))

module _ (p : Policy) where
  -- ---- the columns of the built states
  unfoldable pub state_sources : List ℕ
  state_sources = map (λ (b : Built). b.state) (built p)

  unfoldable pub state_leaves : List ℕ
  state_leaves = map (λ (b : Built). b.leaf) (built p)

  -- question 10, from a state table: the built states fit its places
  unfoldable pub built_fit : List ℕ → Bool
  built_fit sources = leb (length (built p)) (places sources)
