-- The row tables of a policy: how long they are, and the row of each built state and letter. Assumes nothing.
use Prim.Native.Nat.{ℕ, ◌+◌, ◌*◌, ◌<◌}
use mathlib.Core.Path.{◌≡◌, ◌∙◌}
use mathlib.Core.List.{List, map}
use lib.ListN.{length, get_or}
use Rattle.lists.specs.Lists.{flat, below}
use Rattle.lists.proofs.Lists.{length-map-below, get_or-map-below, length-pieces, get_or-pieces}
use Rattle.policy.specs.declared.Policy.{Policy}
use Rattle.automaton.specs.Automaton.{built, row_target, row_priority, row_targets, row_priorities}

module _ (p : Policy) where
  -- ---- of a number for each built state and letter
  abbrev piece : (ℕ → ℕ → ℕ) → ℕ → List ℕ
  piece f s = map (f s) (below p.letters)

  piece-long : (f : ℕ → ℕ → ℕ) (s : ℕ) → length (piece f s) ≡ p.letters
  piece-long f s = length-map-below (f s) p.letters

  place : (f : ℕ → ℕ → ℕ) (s a : ℕ) → s < length (built p) → a < p.letters → get_or (flat (map (piece f) (below (length (built p))))) (s * p.letters + a) 0 ≡ f s a
  place f s a h l = get_or-pieces (piece f) p.letters (piece-long f) (length (built p)) s a 0 h l ∙ get_or-map-below (f s) p.letters a 0 l

  long : (f : ℕ → ℕ → ℕ) → length (flat (map (piece f) (below (length (built p))))) ≡ length (built p) * p.letters
  long f = length-pieces (piece f) p.letters (piece-long f) (length (built p))

  -- ---- the two tables
  pub targets_long : length (row_targets p) ≡ length (built p) * p.letters
  unfolding row_targets
  targets_long = long (row_target p)

  pub priorities_long : length (row_priorities p) ≡ length (built p) * p.letters
  unfolding row_priorities
  priorities_long = long (row_priority p)

  pub row-target : (s a : ℕ) → s < length (built p) → a < p.letters → get_or (row_targets p) (s * p.letters + a) 0 ≡ row_target p s a
  unfolding row_targets
  row-target = place (row_target p)

  pub row-priority : (s a : ℕ) → s < length (built p) → a < p.letters → get_or (row_priorities p) (s * p.letters + a) 0 ≡ row_priority p s a
  unfolding row_priorities
  row-priority = place (row_priority p)
