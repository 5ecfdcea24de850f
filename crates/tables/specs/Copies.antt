-- A part of a table, and one that is moved on.
use Rattle.std.specs.Prelude.{ℕ, ◌+◌, List, map, take, drop}

-- s places from place k on
abbrev pub part : ℕ → ℕ → List ℕ → List ℕ
part s k t = take s (drop k t)

-- every entry moved on by d
unfoldable pub moved : ℕ → List ℕ → List ℕ
moved d l = map (λ (x : ℕ). x + d) l
