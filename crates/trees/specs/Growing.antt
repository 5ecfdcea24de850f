-- Trees grown in the node tables: the nodes of a tree are written one after the other, and a tree that stands in the tables already is copied. The scratch has two
-- places for each candidate, where its tree is recorded, and past them the positions of children, level by level.
use Rattle.std.specs.Prelude.{ℕ, ◌+◌, ◌*◌, ◌≤◌, ◌<◌, min, max, ◌≡◌, ◌≢◌, Bool, cond, length, get_or}
use mathlib.Core.List.{List, [], ◌++◌, Memᴰ}
use Rattle.std.proofs.lemmas.List.Edits.{sets}
use Rattle.tables.specs.Tables.{places}
use Rattle.tables.specs.Copies.{part}
use Rattle.policy.specs.declared.Policy.{Policy}
use Rattle.forest.specs.Forest.{most_levels, levels_left}
use Rattle.forest.specs.Subtrees.{tree_masks, tree_parents, tree_size}
use Rattle.candidates.specs.Candidates.{Candidates}

-- ---- trees that stand in the tables
-- the tree of m stands at number k, before `end`
pub record StandsAt (p : Policy) (masks parents : List ℕ) (end m k : ℕ) : Type 0 where
  pub before : k + tree_size p m ≤ end
  pub masks_are : part (tree_size p m) k masks ≡ tree_masks p m
  pub parent : ℕ
  pub parent_before : parent < k
  pub parents_are : part (tree_size p m) k parents ≡ tree_parents p parent k m

-- where the tree of each mask of a list was first written: its number, and after it its size; size 0 where it does not stand yet
pub record Recorded (p : Policy) (list masks parents scratch : List ℕ) (end : ℕ) : Type 0 where
  pub size_is : (i : ℕ) → i < length list → get_or scratch (2 * i + 1) 0 ≢ 0 → get_or scratch (2 * i + 1) 0 ≡ tree_size p (get_or list i 0)
  pub stands : (i : ℕ) → i < length list → get_or scratch (2 * i + 1) 0 ≢ 0 → StandsAt p masks parents end (get_or list i 0) (get_or scratch (2 * i) 0)

-- tables with `places` places, the first n of which are written
pub record Places (p : Policy) (list masks parents scratch : List ℕ) (places n : ℕ) : Type 0 where
  pub few : places ≤ 65535
  pub at_most : n ≤ places
  pub masks_long : places ≤ length masks
  pub parents_long : places ≤ length parents
  pub recorded : Recorded p list masks parents scratch n

-- the root of a tree to be written: a candidate of that verdict. The scratch is free from place `free` on, with room for the positions of the children on each level
pub record TreeRoot (p : Policy) (accepting' rejecting' : List ℕ) (m : ℕ) (verdict : Bool) (scratch : List ℕ) (free : ℕ) : Type 0 where
  pub candidate : Memᴰ m (cond verdict accepting' rejecting')
  pub past_records : 2 * length (accepting' ++ rejecting') ≤ free
  pub room : free + levels_left p m * max (length accepting') (length rejecting') ≤ length scratch

-- ---- one tree
-- before: the lists, the tables and the root
pub record TreeToWrite (p : Policy) (accepting rejecting : List ℕ) (m : ℕ) (verdict : Bool) (places n : ℕ) (masks parents scratch : List ℕ) (free : ℕ) : Type 0 where
  pub lists : Candidates p accepting rejecting
  pub tables : Places p (accepting ++ rejecting) masks parents scratch places n
  pub root : TreeRoot p accepting rejecting m verdict scratch free

-- after, from masks₀ and parents₀: the tree of m, whose root has the parent q, is written from number n on, and `next` comes after it; or `next` is past the places, if it does not fit
pub record TreeWritten (p : Policy) (list : List ℕ) (places m q n next : ℕ) (masks₀ parents₀ masks parents scratch : List ℕ) : Type 0 where
  pub next_is : next ≡ min (n + tree_size p m) (places + 1)
  pub masks_are : next ≤ places → masks ≡ sets masks₀ n (tree_masks p m)
  pub parents_are : next ≤ places → parents ≡ sets parents₀ n (tree_parents p q n m)
  pub recorded : next ≤ places → Recorded p list masks parents scratch next

-- the places from a up to b are as they were
abbrev pub Kept : ℕ → ℕ → List ℕ → List ℕ → Type 0
Kept a b t₀ t = (j : ℕ) → a ≤ j → j < b → get_or t j 0 ≡ get_or t₀ j 0

-- ---- the tree of a root
-- before: the lists, with the root m among the masks of its verdict, tables of one length, the first n places of which are written, and scratch with room for the records and
-- for the positions of the children on each level
pub record RootToWrite (p : Policy) (accepting rejecting : List ℕ) (m : ℕ) (verdict : Bool) (n : ℕ) (masks parents scratch : List ℕ) : Type 0 where
  pub lists : Candidates p accepting rejecting
  pub candidate : Memᴰ m (cond verdict accepting rejecting)
  pub one_length : length parents ≡ length masks
  pub at_most : n ≤ places masks
  pub room : 2 * length (accepting ++ rejecting) + most_levels p * max (length accepting) (length rejecting) ≤ length scratch

-- after, from masks₀ and parents₀: its tree is written; no record of it is needed
abbrev pub RootWritten : Policy → ℕ → ℕ → ℕ → List ℕ → List ℕ → List ℕ → List ℕ → Type 0
RootWritten p m n next masks₀ parents₀ masks parents = TreeWritten p [] (places masks₀) m 65535 n next masks₀ parents₀ masks parents []
