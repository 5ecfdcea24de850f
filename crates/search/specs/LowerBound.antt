-- The lower bound of a number in an ascending run of a table, and what a search has narrowed it down to.
use Rattle.std.specs.Prelude.{ℕ, ◌≤◌, ◌<◌, List, get_or}

-- the entries from `from` up to `to` ascend
abbrev pub AscendsIn : List ℕ → ℕ → ℕ → Type 0
AscendsIn l from to = (i j : ℕ) → from ≤ i → i < j → j < to → get_or l i 0 < get_or l j 0

-- r is the first place from `from` up to `to` whose entry is x or more, and `to` where there is none
pub record LowerBound (l : List ℕ) (from to x r : ℕ) : Type 0 where
  pub low : from ≤ r
  pub high : r ≤ to
  pub before : (i : ℕ) → from ≤ i → i < r → get_or l i 0 < x
  pub after : (i : ℕ) → r ≤ i → i < to → x ≤ get_or l i 0

-- the first place from `from` up to `to` whose entry is x or more stands from low up to high
pub record Narrowed (l : List ℕ) (from to x low high : ℕ) : Type 0 where
  pub from_low : from ≤ low
  pub low_high : low ≤ high
  pub high_to : high ≤ to
  pub before : (i : ℕ) → from ≤ i → i < low → get_or l i 0 < x
  pub after : (i : ℕ) → high ≤ i → i < to → x ≤ get_or l i 0
