-- The search for the children of a node n, colour set by colour set, by falling mask: what is found, and where the rest is looked for.
use Rattle.std.specs.Prelude.{ℕ, ◌+◌, ◌*◌, ◌≤◌, ◌<◌, ◌≡◌, ◌⊎◌, ◌≢◌, Bool, true, not, length, get_or, take, Option, None, Some}
use mathlib.Core.List.{List, Memᴰ}
use Rattle.masks.specs.Masks.{inside}
use Rattle.collections.specs.Collections.{has_set}
use Rattle.policy.specs.declared.Policy.{Policy}
use Rattle.policy.specs.Policies.{colours_of, accepting, legal}
use Rattle.policy.specs.ByColour.{edges_in}
use Rattle.components.specs.Components.{largest_in}
use Rattle.forest.specs.Forest.{children}
use Rattle.forest.specs.Laws.{Ordered}
use Rattle.full_cycles.specs.Full.{Full}
use Rattle.siblings.specs.Positions.{masks_at}
use Rattle.pool.specs.Pool.{Pool, Extends}
use Rattle.offspring.specs.Offspring.{HasAround, StatesIn}

-- a colour set of the collection has all the colours of x
abbrev pub WaitsIn : Policy → List ℕ → ℕ → Type 0
WaitsIn p todo x = (t : ℕ) × (t < 256) × (has_set todo t ≡ true) × (inside (colours_of p x) t ≡ true)

-- x lies inside one of the cycles at the positions from `from` up to `to`
abbrev pub LiesAt : List ℕ → ℕ → ℕ → ℕ → Type 0
LiesAt pool from to x = (j : ℕ) × (from ≤ j) × (j < to) × (inside x (get_or pool j 0) ≡ true)

-- the positions of those found are the first `found` of kids; `todo` has colour sets below s; a child is found, or waits in one of them, or lies inside a cycle that is still to be looked at
pub record Looking (p : Policy) (n : ℕ) (pool : List ℕ) (count s from to : ℕ) (todo kids : List ℕ) (found : ℕ) : Type 0 where
  pub four : length todo ≡ 4
  pub long : found ≤ length kids
  pub each : (j : ℕ) → j < found → get_or kids j 0 < count
  pub mine : (x : ℕ) → Memᴰ x (masks_at pool (take found kids)) → Memᴰ x (children p n)
  pub ordered : Ordered (masks_at pool (take found kids))
  pub lower : (t : ℕ) → t < 256 → has_set todo t ≡ true → (t < s) × (inside t (colours_of p n) ≡ true)
  pub waits : (x : ℕ) → Memᴰ x (children p n) → Memᴰ x (masks_at pool (take found kids)) ⊎ (WaitsIn p todo x ⊎ LiesAt pool from to x)

-- after a look: so many of them are found, or none is said where there is no place for one, which cannot be where there is a place for each cycle
pub record Looked (p : Policy) (n : ℕ) (pool : List ℕ) (count s from to : ℕ) (todo kids : List ℕ) (r : Option ℕ) : Type 0 where
  pub looking : (found : ℕ) → r ≡ Some found → Looking p n pool count s from to todo kids found
  pub fits : length pool ≤ length kids → r ≢ None

-- ---- what the search goes by
-- n is a node, its children have the verdict v, and `within` has the colour sets with a set of that verdict inside them
pub record Node (p : Policy) (family : List Bool) (within : List ℕ) (n : ℕ) (v : Bool) : Type 0 where
  pub lawful : legal p ≡ true
  pub family_is : family ≡ p.family
  pub full : Full p n
  pub verdict : v ≡ not (accepting p n)
  pub around : HasAround p v within

-- s is a set of the colours of n, and the cycles at the positions from `from` up to `to` are of the largest ones of s; their colours stand beside them
pub record Span (p : Policy) (n s : ℕ) (pool hues : List ℕ) (count from to : ℕ) : Type 0 where
  pub of_node : inside s (colours_of p n) ≡ true
  pub listed : to ≤ count
  pub long : count ≤ length pool
  pub hued : (i : ℕ) → i < count → get_or hues i 0 ≡ colours_of p (get_or pool i 0)
  pub cycles : (j : ℕ) → from ≤ j → j < to → Memᴰ (get_or pool j 0) (largest_in p (edges_in p s))

-- the search has come to s: it is the greatest set to be looked at
pub record Greatest (p : Policy) (n s : ℕ) (pool : List ℕ) (count : ℕ) (todo kids : List ℕ) (found : ℕ) : Type 0 where
  pub left : ℕ
  pub looking : Looking p n pool count left 0 0 todo kids found
  pub here : has_set todo s ≡ true
  pub last : (d : ℕ) → d < 256 → has_set todo d ≡ true → d ≤ s

-- the states of n are among those for which cycles are listed
pub record NodeAmong (p : Policy) (among : ℕ) (family : List Bool) (within : List ℕ) (n : ℕ) (v : Bool) : Type 0 where
  pub node : Node p family within n v
  pub states_in : StatesIn p among n

-- where the space did, the colour set s is listed
pub record NowListed (p : Policy) (among s : ℕ) (pool₀ : List ℕ) (count₀ : ℕ) (pool hues spans : List ℕ) (count : ℕ) (whole : Bool) : Type 0 where
  pub pool_is : Pool p among pool hues spans count
  pub extends : Extends pool₀ count₀ pool count
  pub has_span : whole ≡ true → get_or spans (2 * s + 1) 0 ≢ 0
  pub enough : 4096 ≤ length pool → whole ≡ true

-- ---- one colour set s is searched, from pool₀ with count₀ cycles: where the space did, sets below s are left
pub record SetSearched (p : Policy) (among n s : ℕ) (pool₀ : List ℕ) (count₀ : ℕ) (pool hues spans : List ℕ) (count : ℕ) (todo kids : List ℕ) (r : Option ℕ) : Type 0 where
  pub listed : Pool p among pool hues spans count
  pub extends : Extends pool₀ count₀ pool count
  pub looking : (found : ℕ) → r ≡ Some found → Looking p n pool count s 0 0 todo kids found
  pub enough : 4096 ≤ length pool → length pool ≤ length kids → r ≢ None
