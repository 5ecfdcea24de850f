-- What a table holds: a list at its beginning, 0 in every place past it, what a run of stores leaves, or what is left free; and how many of its places count.
use Rattle.std.specs.Prelude.{ℕ, ◌+◌, ◌-◌, ◌≤◌, ◌<◌, min, ◌≡◌, refl, List, ◌++◌, length, get_or, replicate}
use Rattle.std.proofs.lemmas.List.Edits.{sets}

-- l, and 0 in every place past it, n places in all
unfoldable pub padded : ℕ → List ℕ → List ℕ
padded n l = l ++ replicate (n - length l) 0

-- 0 in every place
unfoldable pub zeros : List ℕ → List ℕ
zeros t = replicate (length t) 0

-- the two definitions, opened
pub zeros-is : (t : List ℕ) → zeros t ≡ replicate (length t) 0
unfolding zeros
zeros-is t = refl

pub padded-is : (n : ℕ) (l : List ℕ) → padded n l ≡ l ++ replicate (n - length l) 0
unfolding padded
padded-is n l = refl

-- how many places of a table count: only the first 65,535
unfoldable pub places : List ℕ → ℕ
places t = min (length t) 65535

-- a table that begins with the list l
pub record Column (l t : List ℕ) : Type 0 where
  pub long : length l ≤ length t
  pub each : (i : ℕ) → i < length l → get_or t i 0 ≡ get_or l i 0

-- t is t₀ with xs stored from `at` on, as far as it has places; `next` is the place after them
pub record Stored (t₀ t : List ℕ) (at next : ℕ) (xs : List ℕ) : Type 0 where
  pub now_is : t ≡ sets t₀ at xs
  pub next_is : next ≡ at + length xs

-- scratch, t₀ before: what it holds at exit is left free, and it is as long as it was
pub record Undecided (t₀ t : List ℕ) : Type 0 where
  pub long : length t ≡ length t₀
