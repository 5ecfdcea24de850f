-- The family of a text, by the formula that is read at a place of it.
use Rattle.std.specs.Prelude.{ℕ, ◌+◌, ◌*◌, ◌<◌, ◌≡◌, Bool, true, false, ◌&&◌, List, [], map, ltb, drop}
use Rattle.lists.specs.Lists.{below}
use Rattle.masks.specs.Masks.{has}
use Rattle.mark_sets.specs.MarkSets.{union_at}
use Rattle.hanoi.specs.Documents.{Formula, Document, formed}
use Rattle.hanoi.specs.Meaning.{holds}
use Rattle.hanoi.specs.Offers.{between, run}
use Rattle.hanoi.specs.Reader.{Head, fresh, operand, finished, offers}

-- a non-empty set below n, whose mark sets together make the formula hold
abbrev pub named_below : Formula → List ℕ → ℕ → ℕ → Bool
named_below f sets n s = ltb 0 s && ltb s n && holds (union_at sets s 8) f

-- whatever document the text comes to: bit s of word w says whether its formula holds of set 64 * w + s
pub record IsWord (text : List ℕ) (m marks : ℕ) (sets : List ℕ) (w r : ℕ) : Type 0 where
  pub is : (h : Head) (d : Document) (bar : Bool) → h.sets ≡ marks → run offers (between false (operand h [] fresh)) (drop m text) ≡ between bar (finished d) → formed marks d.formula ≡ true
      → (s : ℕ) → s < 64 → has r s ≡ holds (union_at sets (64 * w + s) 8) d.formula

-- the family of that document
pub record IsFamily (text : List ℕ) (m marks : ℕ) (sets : List ℕ) (n : ℕ) (family : List Bool) : Type 0 where
  pub is : (h : Head) (d : Document) (bar : Bool) → h.sets ≡ marks → run offers (between false (operand h [] fresh)) (drop m text) ≡ between bar (finished d) → formed marks d.formula ≡ true
      → family ≡ map (named_below d.formula sets n) (below 256)
