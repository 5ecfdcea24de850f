-- The children of a node, found from the node itself: colours are taken away, and what is left falls into the largest cycles of a colour set, which are listed when it is first asked for.
use Rattle.std.specs.Prelude.{ℕ, ◌^◌, ◌≤◌, ◌<◌, ◌≡◌, ◌⊎◌, ◌≢◌, Bool, true, false, List, length, get_or, take, Option, None, Some}
use Rattle.masks.specs.Masks.{has, inside}
use Rattle.collections.specs.Collections.{has_set}
use Rattle.policy.specs.declared.Policy.{Policy}
use Rattle.policy.specs.Policies.{in_family}
use Rattle.graph.specs.Cycles.{contains}
use Rattle.forest.specs.Forest.{children}
use Rattle.siblings.specs.Positions.{masks_at}
use Rattle.pool.specs.Pool.{Pool, Extends}

-- t has the colour sets that have the verdict v, or a set with it inside them; the empty set counts only where some edge is quiet
abbrev pub HasAround : Policy → Bool → List ℕ → Type 0
HasAround p v t = (d s : ℕ) → s < 2 ^ p.colours → inside d s ≡ true → in_family p d ≡ v → (d ≢ 0) ⊎ (p.quiet ≢ 0) → has_set t s ≡ true

-- collections of the colour sets around accepted sets, and around rejected ones
pub record Around (p : Policy) (accepted rejected : List ℕ) : Type 0 where
  pub accepted_in : HasAround p true accepted
  pub rejected_in : HasAround p false rejected

-- each state of n is among some
abbrev pub StatesIn : Policy → ℕ → ℕ → Type 0
StatesIn p among n = (u : ℕ) → contains p u n ≡ true → has among u ≡ true

-- the first places of `kids` are the positions of the children of n, in sibling order
pub record ChildrenAt (p : Policy) (n : ℕ) (pool : List ℕ) (count : ℕ) (kids : List ℕ) (found : ℕ) : Type 0 where
  pub long : found ≤ length kids
  pub each : (j : ℕ) → j < found → get_or kids j 0 < count
  pub masks_are : masks_at pool (take found kids) ≡ children p n

-- after a search for the children of n, from pool₀ with count₀ cycles: where the space did, so many are found
pub record Offspring (p : Policy) (among n : ℕ) (pool₀ : List ℕ) (count₀ : ℕ) (pool hues spans : List ℕ) (count : ℕ) (kids : List ℕ) (r : Option ℕ) : Type 0 where
  pub listed : Pool p among pool hues spans count
  pub extends : Extends pool₀ count₀ pool count
  pub children_at : (found : ℕ) → r ≡ Some found → ChildrenAt p n pool count kids found
  pub enough : 4096 ≤ length pool → length pool ≤ length kids → r ≢ None
