-- The game of row tables, and sets of its states by their marks.
use Rattle.std.specs.Prelude.{ℕ, ◌+◌, ◌*◌, ◌≤◌, ◌<◌, ◌≡◌, ◌⊎◌, ◌≢◌, Bool, true, false, not, ◌&&◌, ◌||◌, List, eqb, ltb, leb, length, get_or, set}
use Rattle.games.specs.Games.{Game}
use Rattle.games.proofs.Attract.{Attracted, Complete}
use Rattle.orders.specs.Orders.{Rearranged, Lists}
use Rattle.attracting.specs.declared.Task.{Task}

-- ---- rows
-- a mark of the arena
abbrev pub is_in : Task → ℕ → Bool
is_in k m = leb k.floor m

abbrev pub opens : Task → ℕ → ℕ → Bool
opens k q m = leb k.level q && is_in k m

abbrev pub nearer : Task → ℕ → ℕ → Bool
nearer k q m = eqb m k.to || (k.rows && eqb q k.level)

unfoldable pub passing : Task → Bool → ℕ → ℕ → Bool
passing k own q m = opens k q m && ((nearer k q m && own) || (not (nearer k q m) && not own))

pub record First (k : Task) (own : Bool) (targets priorities marks : List ℕ) (row letters r : ℕ) : Type 0 where
  pub few : r ≤ letters
  pub before : (a : ℕ) → a < r → passing k own (get_or priorities (row + a) 0) (get_or marks (get_or targets (row + a) 0) 0) ≡ false
  pub found : r < letters → passing k own (get_or priorities (row + r) 0) (get_or marks (get_or targets (row + r) 0) 0) ≡ true

-- the marks of a task: all in the arena, and the goal's apart from the others
pub record Apart (k : Task) : Type 0 where
  pub not_live : k.to ≢ k.live
  pub not_also : k.to ≢ k.also
  pub live_in : k.floor ≤ k.live
  pub also_in : k.floor ≤ k.also
  pub to_in : k.floor ≤ k.to

-- the mark of a state that may be attracted
abbrev pub waiting : Task → ℕ → Bool
waiting k m = eqb m k.live || eqb m k.also

-- whether the owner, 1 for the plant, is the player that attracts
unfoldable pub owns : Bool → ℕ → Bool
owns plant o = (eqb o 1 && plant) || (not (eqb o 1) && not plant)

-- ---- the tables of a game
pub record Rows (owners sources targets priorities : List ℕ) (letters states : ℕ) : Type 0 where
  pub letters_few : letters ≤ 8
  pub states_few : states ≤ 65535
  pub sources_long : states ≤ length sources
  pub sources_few : (s : ℕ) → s < states → get_or sources s 0 < length owners
  pub targets_long : states * letters ≤ length targets
  pub priorities_long : states * letters ≤ length priorities
  pub targets_few : (s a : ℕ) → s < states → a < letters → get_or targets (s * letters + a) 0 < states

module _ (owners sources targets priorities : List ℕ) (letters states : ℕ) where
  abbrev pub table_game : Game
  table_game = record {
    states = states;
    letters = letters;
    owner = λ s. eqb (get_or owners (get_or sources s 0) 0) 1;
    target = λ s a. get_or targets (s * letters + a) 0;
    priority = λ s a. get_or priorities (s * letters + a) 0;
  }

  module _ (k : Task) where
    -- ---- one state, by the marks m
    abbrev pub owns_at : ℕ → Bool
    owns_at s = owns k.plant (get_or owners (get_or sources s 0) 0)

    abbrev pub opens_at : List ℕ → ℕ → ℕ → Bool
    opens_at m s a = opens k (get_or priorities (s * letters + a) 0) (get_or m (get_or targets (s * letters + a) 0) 0)

    abbrev pub nears_at : List ℕ → ℕ → ℕ → Bool
    nears_at m s a = nearer k (get_or priorities (s * letters + a) 0) (get_or m (get_or targets (s * letters + a) 0) 0)

    pub record StuckAt (m : List ℕ) (s : ℕ) : Type 0 where
      pub own : owns_at s ≡ true → (a : ℕ) → a < letters → opens_at m s a ≡ true → nears_at m s a ≡ false
      pub other : owns_at s ≡ false → (a : ℕ) × (a < letters) × (opens_at m s a ≡ true) × (nears_at m s a ≡ false)

    pub data AddableAt (m : List ℕ) (s : ℕ) (c c' : List ℕ) : Type 0 where
      chosen : owns_at s ≡ true → (a : ℕ) → a < letters → opens_at m s a ≡ true → nears_at m s a ≡ true → c' ≡ set c s a → AddableAt m s c c'
      forced : owns_at s ≡ false → ((a : ℕ) → a < letters → opens_at m s a ≡ true → nears_at m s a ≡ true) → c' ≡ c → AddableAt m s c c'

    -- s visited: whether it no longer waits. It did not wait, or is attracted now; else nothing is changed, and it cannot be attracted yet
    pub record Visited (s : ℕ) (m c : List ℕ) (gone : Bool) (m' c' : List ℕ) : Type 0 where
      pub stays : gone ≡ false → (m' ≡ m) × (c' ≡ c) × (waiting k (get_or m s 0) ≡ true) × StuckAt m s
      pub goes : gone ≡ true → ((waiting k (get_or m s 0) ≡ false) × (m' ≡ m) × (c' ≡ c)) ⊎ ((waiting k (get_or m s 0) ≡ true) × (m' ≡ set m s k.to) × AddableAt m s c c')

    -- ---- from the marks m₀ on
    module _ (m₀ : List ℕ) where
      abbrev pub arena_of : ℕ → Bool
      arena_of s = ltb s states && is_in k (get_or m₀ s 0)

      abbrev pub from_of : ℕ → Bool
      from_of s = ltb s states && waiting k (get_or m₀ s 0)

      abbrev pub hit_of : ℕ → ℕ → Bool
      hit_of s a = nears_at m₀ s a

      abbrev pub set_of : List ℕ → ℕ → Bool
      set_of m s = from_of s && eqb (get_or m s 0) k.to

      pub record Attracting (c₀ m c : List ℕ) : Type 0 where
        pub marks_long : length m ≡ length m₀
        pub choices_long : length c ≡ length c₀
        pub each : (s : ℕ) → (get_or m s 0 ≡ get_or m₀ s 0) ⊎ ((from_of s ≡ true) × (get_or m s 0 ≡ k.to))
        pub kept : (s : ℕ) → set_of m s ≡ false → get_or c s 0 ≡ get_or c₀ s 0
        pub attracted : Attracted table_game k.plant k.level arena_of from_of hit_of (set_of m) (λ s. get_or c s 0)

    -- ---- a sweep over the first n states of an order: r of them still wait, and stand in front; if all do, nothing is changed, and none can be attracted
    pub record Swept (n : ℕ) (o m c : List ℕ) (r : ℕ) (o' m' c' : List ℕ) : Type 0 where
      pub few : r ≤ n
      pub moved : Rearranged n o o'
      pub marks_long : length m' ≡ length m
      pub choices_long : length c' ≡ length c
      pub keeps : (m₀ c₀ : List ℕ) → Attracting m₀ c₀ m c → Attracting m₀ c₀ m' c'
      pub gone : (i : ℕ) → r ≤ i → i < n → waiting k (get_or m' (get_or o' i 0) 0) ≡ false
      pub same : r ≡ n → (m' ≡ m) × (c' ≡ c) × ((i : ℕ) → i < n → (waiting k (get_or m (get_or o' i 0) 0) ≡ true) × StuckAt m (get_or o' i 0))

    -- ---- all that can be attracted
    pub record Attracts (m₀ c₀ m c : List ℕ) : Type 0 where
      pub so_far : Attracting m₀ c₀ m c
      pub complete : Complete table_game k.plant k.level (arena_of m₀) (from_of m₀) (hit_of m₀) (set_of m₀ m)

    -- of the first n states of an order, those that still wait stand in front, and there are r
    pub record Waits (n : ℕ) (o : List ℕ) (r : ℕ) (o' m : List ℕ) : Type 0 where
      pub few : r ≤ n
      pub moved : Rearranged n o o'
      pub listed : Lists (from_of m) r o'
