-- What the functions that fill in the rows hand to one another: where an edge meets the branch of a leaf, the leaves that share a row, the rows written so far.
use Rattle.std.specs.Prelude.{ℕ, ◌+◌, ◌*◌, ◌≤◌, ◌<◌, ◌≡◌, ◌⊎◌, Bool, true, false, Option, Some, None, List, length, get_or}
use Rattle.policy.specs.declared.Policy.{Policy}
use Rattle.policy.specs.Policies.{edge_of, target_of}
use Rattle.forest.specs.Forest.{forest, in_root, transient_priority}
use Rattle.rows.specs.declared.Meeting.{Meeting}
use Rattle.automaton.specs.Automaton.{built, state_at, deepest, lead, leaf_after, priority_after, number, row_target, row_priority, row_targets, row_priorities}

-- where e meets the branch of l: whether it does, the deepest node with e, the child of it that leads to l, the priority met
pub record Met (p : Policy) (e l : ℕ) (met : Bool) (at child priority : ℕ) : Type 0 where
  pub in-root : met ≡ in_root (forest p) e
  pub node_is : met ≡ true → at ≡ deepest (forest p) e l
  pub child_is : met ≡ true → child ≡ lead (forest p) (deepest (forest p) e l) l
  pub priority_is : priority ≡ priority_after (forest p) p e l

-- the same of a meeting: where there is none, no node has e, and the priority is that of an edge in no cycle
abbrev pub Meets : Policy → ℕ → ℕ → Option Meeting → Type 0
Meets p e l (Some m) = Met p e l true m.node m.child m.priority
Meets p e l None = Met p e l false 0 0 (transient_priority p)

-- the row of e from the leaf l: the number of the state led to, and the priority met
pub record RowFrom (p : Policy) (e l target priority : ℕ) : Type 0 where
  pub target_is : target ≡ number p (target_of p e) (leaf_after (forest p) p e l)
  pub priority_is : priority ≡ priority_after (forest p) p e l

-- it is the row of e from each leaf from `from` up to `to`: they share it
abbrev pub Shares : Policy → ℕ → ℕ → ℕ → ℕ → ℕ → Type 0
Shares p e from to target priority = (l : ℕ) → from ≤ l → l < to → RowFrom p e l target priority

-- and l is one of them
pub record SharedBy (p : Policy) (e l from to target priority : ℕ) : Type 0 where
  pub low : from ≤ l
  pub high : l < to
  pub all : Shares p e from to target priority

-- a table, t₀ before, partly filled with the column l: each place of t is as in t₀, or holds what l has in it
pub record PartlyFilled (l t₀ t : List ℕ) : Type 0 where
  pub long : length t ≡ length t₀
  pub each : (i : ℕ) → (get_or t i 0 ≡ get_or t₀ i 0) ⊎ ((i < length l) × (get_or t i 0 ≡ get_or l i 0))

-- the row tables hold the row of state s and letter a
pub record HasRow (p : Policy) (targets priorities : List ℕ) (s a : ℕ) : Type 0 where
  pub target_is : get_or targets (s * p.letters + a) 0 ≡ row_target p s a
  pub priority_is : get_or priorities (s * p.letters + a) 0 ≡ row_priority p s a

-- row tables, once targets₀ and priorities₀: the rows of the edges from `from` up to `to` are written, and nothing but rows
pub record RowsWritten (p : Policy) (targets₀ priorities₀ targets priorities : List ℕ) (from to : ℕ) : Type 0 where
  pub targets_are : PartlyFilled (row_targets p) targets₀ targets
  pub priorities_are : PartlyFilled (row_priorities p) priorities₀ priorities
  pub done : (s a : ℕ) → s < length (built p) → a < p.letters → from ≤ edge_of p (state_at p s).state a → edge_of p (state_at p s).state a < to → HasRow p targets priorities s a
