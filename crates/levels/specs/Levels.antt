-- The recursion over the priorities, by marks. A live state has mark 255; level p uses 4 p + 1 and 4 p + 2 for states that the supervisor, the plant has won, and 4 p + 3 for states attracted
-- to its rows, and later for those that are held.
use Rattle.std.specs.Prelude.{ℕ, ◌+◌, ◌*◌, ◌≤◌, ◌<◌, ◌≡◌, ◌≢◌, Bool, true, false, not, ◌&&◌, cond, List, eqb, ltb, length, get_or}
use Rattle.games.specs.Games.{serves}
use Rattle.games.proofs.Regions.{Region, WonBy}
use Rattle.orders.specs.Orders.{Among, Gathered, Painted}
use Rattle.attracting.specs.declared.Task.{Task}
use Rattle.attracting.specs.Attracting.{table_game, Attracts, Waits}
use Rattle.holding.specs.declared.Hold.{Hold}
use Rattle.holding.specs.Holding.{Released}

-- ---- marks
abbrev pub won_mark : ℕ → Bool → ℕ
won_mark p j = cond j (4 * p + 2) (4 * p + 1)

abbrev pub taken_mark : ℕ → ℕ
taken_mark p = 4 * p + 3

-- a live state
abbrev pub live : ℕ → List ℕ → ℕ → Bool
live states m s = ltb s states && eqb (get_or m s 0) 255

-- every state is live or has a mark below those of level p
pub record Headed (states p : ℕ) (m : List ℕ) : Type 0 where
  pub low : (s : ℕ) → s < states → get_or m s 0 ≢ 255 → get_or m s 0 ≤ 4 * p

-- ---- the tasks of level p
-- the attraction to the rows of the level, for the player whom it serves
abbrev pub rows_task : ℕ → Task
rows_task p = record { level = p; plant = serves p; floor = taken_mark p; live = 255; also = 255; to = taken_mark p; rows = true }

-- the attraction to what the other player has won above the level, from all that it has not
abbrev pub lost_task : ℕ → Task
lost_task p = record {
  level = p;
  plant = not (serves p);
  floor = taken_mark p;
  live = taken_mark p;
  also = won_mark (p + 1) (serves p);
  to = won_mark (p + 1) (not (serves p));
  rows = false;
}

-- what the player whom the level serves holds, and the attraction to that
abbrev pub hold_of : ℕ → Hold
hold_of p = record { level = p; plant = serves p; held = taken_mark p }

abbrev pub held_task : ℕ → Task
held_task p = record { level = p; plant = serves p; floor = taken_mark p; live = 255; also = 255; to = taken_mark p; rows = false }

module _ (owners sources targets priorities : List ℕ) (letters states : ℕ) where
  -- ---- a level is solved: what was live is marked by its winner, with letters for both players; nothing else is changed
  pub record SolvedAt (p : ℕ) (m₀ c₀ m c : List ℕ) : Type 0 where
    pub marks_long : length m ≡ length m₀
    pub choices_long : length c ≡ length c₀
    pub outside : (s : ℕ) → live states m₀ s ≡ false → (get_or m s 0 ≡ get_or m₀ s 0) × (get_or c s 0 ≡ get_or c₀ s 0)
    pub inside : (s : ℕ) → live states m₀ s ≡ true → (j : Bool) × (get_or m s 0 ≡ won_mark p j)
    pub region : (j : Bool)
        → Region (table_game owners sources targets priorities letters states) j p (live states m₀) (WonBy (live states m₀) (λ s. eqb (get_or m s 0) (won_mark p true)) j) (λ s. get_or c s 0)

  -- ---- one turn of a level, after what is left of its arena was solved one level up
  -- the first n states of the order are the arena: those with a mark of this turn. None is live
  pub record Turning (p n : ℕ) (o m : List ℕ) : Type 0 where
    pub long : n ≤ length o
    pub inside : (i : ℕ) → i < n → get_or o i 0 < states
    pub marked_in : (s : ℕ) → s < states → taken_mark p ≤ get_or m s 0 → Among o n s
    pub none_live : (s : ℕ) → s < states → get_or m s 0 ≢ 255

  -- the other player takes what it has won above, and attracts to that: it is marked as the other player's, and the rest as held
  pub record Loses (p n kept : ℕ) (o m c : List ℕ) (rest : ℕ) (o' m' c' : List ℕ) : Type 0 where
    pub m₁ : List ℕ
    pub m₂ : List ℕ
    pub attracts : Attracts owners sources targets priorities letters states (lost_task p) m c m₁ c'
    pub waits : Waits owners sources targets priorities letters states (lost_task p) kept o rest o' m₁
    pub theirs : Painted (won_mark p (not (serves p))) n o' m₁ m₂
    pub held : Painted (taken_mark p) rest o' m₂ m'

  -- what the player still holds of the rest, and attracts to that, is marked as its own; what remains is live again
  pub record Holds (p rest : ℕ) (o m c : List ℕ) (again : ℕ) (o' m' c' : List ℕ) : Type 0 where
    pub o₁ : List ℕ
    pub m₁ : List ℕ
    pub m₂ : List ℕ
    pub m₃ : List ℕ
    pub freed : ℕ
    pub released : Released owners sources targets priorities letters (hold_of p) rest o m c freed o₁ m₁
    pub attracts : Attracts owners sources targets priorities letters states (held_task p) m₁ c m₂ c'
    pub waits : Waits owners sources targets priorities letters states (held_task p) freed o₁ again o' m₂
    pub own : Painted (won_mark p (serves p)) rest o' m₂ m₃
    pub remains : Painted 255 again o' m₃ m'

  pub data Turns (p n : ℕ) (o m c : List ℕ) (again : ℕ) (o' m' c' : List ℕ) : Type 0 where
    -- the other player has won nothing above: all is the player's
    all_own : again ≡ 0 → Gathered (taken_mark p) (won_mark (p + 1) (serves p)) n m o n o' → Painted (won_mark p (serves p)) n o' m m' → c' ≡ c → Turns p n o m c again o' m' c'
    some_lost : (kept rest : ℕ) (o₁ o₂ m₁ c₁ : List ℕ) → kept < n → Gathered (taken_mark p) (won_mark (p + 1) (serves p)) n m o kept o₁ → Loses p n kept o₁ m c rest o₂ m₁ c₁
        → Holds p rest o₂ m₁ c₁ again o' m' c' → Turns p n o m c again o' m' c'
