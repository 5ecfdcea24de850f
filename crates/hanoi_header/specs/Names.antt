-- The names of a header, kept as places in the text, and what reading them promises.
use Rattle.std.specs.Prelude.{ℕ, ◌≤◌, ◌≡◌, false, List, [], map, length, Result, Ok, Err}
use Rattle.hanoi.specs.Offers.{between}
use Rattle.hanoi.specs.Reader.{naming}
use Rattle.hanoi_tokens.specs.declared.Stop.{Stop}
use Rattle.hanoi_tokens.specs.declared.Name.{Name}
use Rattle.hanoi_tokens.specs.Moves.{Moves, Stops}
use Rattle.hanoi_tokens.specs.Tokens.{part}

module _ (text : List ℕ) where
  -- a name stands in the text
  pub record InText (x : Name) : Type 0 where
    pub ordered : x.at ≤ x.end
    pub there : x.end ≤ length text

  -- its bytes
  abbrev pub name_in : Name → List ℕ
  name_in x = part text x.at x.end

  abbrev pub names_in : List Name → List (List ℕ)
  names_in ns = map name_in ns

  -- names are read, as many as are asked for, whatever stood before them; or the text stops
  abbrev pub ReadsNames : ℕ → ℕ → Result ℕ Stop → Type 0
  ReadsNames m count (Ok n) = (names : List (List ℕ)) × (length names ≡ count) × ((s i : ℕ) → Moves text m (between false (naming s i count [])) n (between false (naming s i 0 names)))
  ReadsNames m count (Err e) = (s i : ℕ) → Stops text m (between false (naming s i count [])) e.at
