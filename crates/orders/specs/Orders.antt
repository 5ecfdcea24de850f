-- Sets of states as a part of a list of their numbers: the first n places list a set, in any order.
use Rattle.std.specs.Prelude.{ℕ, ◌+◌, ◌≤◌, ◌<◌, ◌≡◌, ◌⊎◌, ◌≢◌, Bool, true, false, ◌||◌, List, eqb, length, get_or}

-- s stands in one of the first n places of o
abbrev pub Among : List ℕ → ℕ → ℕ → Type 0
Among o n s = (i : ℕ) × (i < n) × (get_or o i 0 ≡ s)

-- the first n places list the set P
pub record Lists (P : ℕ → Bool) (n : ℕ) (o : List ℕ) : Type 0 where
  pub long : n ≤ length o
  pub each : (i : ℕ) → i < n → P (get_or o i 0) ≡ true
  pub all : (s : ℕ) → P s ≡ true → Among o n s

-- the first n places in another order, and the places past them as they were
pub record Rearranged (n : ℕ) (o o' : List ℕ) : Type 0 where
  pub long : length o' ≡ length o
  pub forth : (s : ℕ) → Among o n s → Among o' n s
  pub back : (s : ℕ) → Among o' n s → Among o n s
  pub rest : (i : ℕ) → n ≤ i → get_or o' i 0 ≡ get_or o i 0

-- the entries at i and j have changed places
pub record Swapped (i j : ℕ) (o o' : List ℕ) : Type 0 where
  pub long : length o' ≡ length o
  pub first : get_or o' i 0 ≡ get_or o j 0
  pub second : get_or o' j 0 ≡ get_or o i 0
  pub rest : (h : ℕ) → h ≢ i → h ≢ j → get_or o' h 0 ≡ get_or o h 0

-- one entry more in front: the one at i, if it is wanted, goes to the end w of the front
pub record Kept (wanted : Bool) (w i : ℕ) (o : List ℕ) (r : ℕ) (o' : List ℕ) : Type 0 where
  pub yes : wanted ≡ true → (r ≡ w + 1) × Swapped w i o o'
  pub no : wanted ≡ false → (r ≡ w) × (o' ≡ o)

-- ---- marks
-- the mark of s is a or b
abbrev pub marked : ℕ → ℕ → List ℕ → ℕ → Bool
marked a b m s = eqb (get_or m s 0) a || eqb (get_or m s 0) b

-- the states that are marked a or b come first, and there are r
pub record Gathered (a b n : ℕ) (m o : List ℕ) (r : ℕ) (o' : List ℕ) : Type 0 where
  pub few : r ≤ n
  pub moved : Rearranged n o o'
  pub front : (i : ℕ) → i < r → marked a b m (get_or o' i 0) ≡ true
  pub others : (i : ℕ) → r ≤ i → i < n → marked a b m (get_or o' i 0) ≡ false

-- the mark of each of the first n states is b
pub record Painted (b n : ℕ) (o m m' : List ℕ) : Type 0 where
  pub long : length m' ≡ length m
  pub each : (s : ℕ) → (get_or m' s 0 ≡ b) ⊎ (get_or m' s 0 ≡ get_or m s 0)
  pub on : (i : ℕ) → i < n → get_or m' (get_or o i 0) 0 ≡ b
  pub off : (s : ℕ) → (Among o n s → ⊥) → get_or m' s 0 ≡ get_or m s 0

-- each of the first n places holds its own number
pub record Numbered (n : ℕ) (o o' : List ℕ) : Type 0 where
  pub long : length o' ≡ length o
  pub own : (i : ℕ) → i < n → get_or o' i 0 ≡ i
