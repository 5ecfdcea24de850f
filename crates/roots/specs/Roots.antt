-- The columns of masks and parents, root by root: what is written so far, what a step gives, and the space that is lent for it.
use Rattle.std.specs.Prelude.{ℕ, ◌+◌, ◌*◌, ◌≤◌, min, ◌≡◌, ◌≢◌, cond, List, length, get_or, take, Option, None, Some, Result, Ok, Err}
use Rattle.std.proofs.lemmas.List.Edits.{sets}
use Rattle.tables.specs.Tables.{zeros, places}
use Rattle.policy.specs.declared.Policy.{Policy}
use Rattle.forest.specs.Forest.{forest, forest_fits, roots, node_masks, node_parents}
use Rattle.forest.specs.Subtrees.{row_masks, row_parents}
use Rattle.siblings.specs.NextRoot.{next_in}
use Rattle.trees.specs.Growing.{RootWritten}
use Rattle.roots.specs.declared.Progress.{Progress}

-- lists of one length n for the candidates and their colours, and scratch for the records and the positions of the children: of the candidates there are at most 4,096, and a
-- tree has at most 9 levels
pub record Space (accepting accepted rejecting rejected scratch : List ℕ) : Type 0 where
  pub some : 1 ≤ length accepting
  pub accepted_long : length accepted ≡ length accepting
  pub rejecting_long : length rejecting ≡ length accepting
  pub rejected_long : length rejected ≡ length accepting
  pub scratch_long : 2 * min (2 * length accepting) 4096 + 9 * length accepting ≤ length scratch

-- of the root m: its tree is written from number n on, and g is the number after it; or the space is too short for listing its candidates, and the tables, masks₀ and parents₀
-- before, are as they were. With 4,096 places for either list it is not
pub record TreeGrown (p : Policy) (m n places : ℕ) (masks₀ parents₀ masks parents : List ℕ) (g : Option ℕ) : Type 0 where
  pub written : (next : ℕ) → g ≡ Some next → RootWritten p m n next masks₀ parents₀ masks parents
  pub masks_same : g ≡ None → masks ≡ masks₀
  pub parents_same : g ≡ None → parents ≡ parents₀
  pub enough : 4096 ≤ places → g ≢ None

-- from masks₀ and parents₀, of one length: the trees of the first roots are written, `next` comes after them, and the search for the next root goes on after `after`
pub record RootsWritten (p : Policy) (masks₀ parents₀ masks parents : List ℕ) (next after : ℕ) : Type 0 where
  pub one_length : length parents₀ ≡ length masks₀
  pub count : ℕ
  pub at_most : count ≤ length (roots p)
  pub next_is : next ≡ length (row_masks p (take count (roots p)))
  pub fits : next ≤ places masks₀
  pub masks_are : masks ≡ sets masks₀ 0 (row_masks p (take count (roots p)))
  pub parents_are : parents ≡ sets parents₀ 0 (row_parents p 65535 0 (take count (roots p)))
  pub search : next_in after (roots p) ≡ get_or (roots p) count 0

-- how many nodes there are, or one more than fit; the tables at exit, from masks₀ and parents₀: the columns of the forest where the nodes fit, and otherwise 0 in every place
pub record ForestWritten (p : Policy) (masks₀ parents₀ masks parents : List ℕ) (count : ℕ) : Type 0 where
  pub count_is : count ≡ min (length (forest p)) (min (length masks₀) 65535 + 1)
  pub masks_are : masks ≡ cond (forest_fits p masks₀) (sets masks₀ 0 (node_masks p)) (zeros masks₀)
  pub parents_are : parents ≡ cond (forest_fits p masks₀) (sets parents₀ 0 (node_parents p)) (zeros parents₀)

-- where the trees are done, the forest is written; otherwise a part of it, and with 4,096 places for either list they are done
pub record TreesGrown (p : Policy) (places : ℕ) (masks₀ parents₀ masks parents : List ℕ) (g : Result ℕ Progress) : Type 0 where
  pub finished : (count : ℕ) → g ≡ Ok count → ForestWritten p masks₀ parents₀ masks parents count
  pub unfinished : (s : Progress) → g ≡ Err s → RootsWritten p masks₀ parents₀ masks parents s.next s.after
  pub enough : 4096 ≤ places → (s : Progress) → g ≢ Err s
