-- After a call of solving that succeeded: demand 3 holds of the translation that it left; the winners are decided, one over each policy state; and whoever follows the letters wins every play
-- of calls of running. Of the calls nothing is known but what their contracts promise (Calls.antt).
use Rattle.std.specs.Prelude.{ℕ, suc, ◌≤◌, ◌<◌, ◌≡◌, get_or, take}
use Rattle.correctness.specs.Calls.{Function, Places, Call, Running, read, read_shows, wulfrenda_run, wulfrenda_run_shows}
use Rattle.correctness.specs.Demand3.{state_count, under, Beginning, Holds}
use Rattle.games.specs.Games.{Won}
use Rattle.supervision.specs.Supervision.{player_of}
use Rattle.winning.specs.Calls.{Solving, solve, solve_shows, wulfrenda_solve, wulfrenda_solve_shows, wulfrenda_solve_bytes, wulfrenda_solve_bytes_shows}

module _ (s : Solving) where
  -- how many built states there are, the winner of one, and the owner of the policy state under it
  abbrev pub states : ℕ
  states = state_count s.translating

  abbrev pub winner_at : ℕ → ℕ
  winner_at n = get_or s.winners n 0

  abbrev pub owner_at : ℕ → ℕ
  owner_at n = get_or s.owners (under s.translating n) 0

  -- ---- the winners
  pub record Winners : Type 0 where
    pub few : (n : ℕ) → n < states → winner_at n ≤ 1
    -- built states over one policy state have one
    pub one_winner : (n m : ℕ) → n < states → m < states → under s.translating n ≡ under s.translating m → winner_at n ≡ winner_at m

  -- ---- plays: calls of running, one for each letter, over any beginning of both row tables that holds every row of the built states and passes running's 8
  pub record Play (calls : ℕ → Running) : Type 0 where
    pub size : ℕ
    pub beginning : Beginning s.translating size
    pub letters_are : (i : ℕ) → (calls i).letters ≡ s.translating.policy.letters
    pub targets_are : (i : ℕ) → (calls i).targets ≡ take size s.translating.exit.targets
    pub priorities_are : (i : ℕ) → (calls i).priorities ≡ take size s.translating.exit.priorities
    -- the first begins in any built state, each later one in the state that the last one gave back; every letter is one of the policy's
    pub begins : (calls 0).state < states
    pub goes_on : (i : ℕ) → (calls (suc i)).state ≡ (calls i).next
    pub reads : (i : ℕ) → (calls i).letter < s.translating.policy.letters
    -- the winner of the first state picks the letters of the table wherever it owns the present one
    pub follows : (i : ℕ) → owner_at (calls i).state ≡ winner_at (calls 0).state → (calls i).letter ≡ get_or s.letters (calls i).state 0

  pub record Wins (calls : ℕ → Running) : Type 0 where
    -- no letter is refused, and the play stays among the winner's states
    pub read_all : (i : ℕ) → (calls i).number ≡ 0
    pub stays : (i : ℕ) → ((calls i).state < states) × (winner_at (calls i).state ≡ winner_at (calls 0).state)
    -- and there always is a letter to follow: where the winner owns the present state, the table has a letter of the policy
    pub has_letter : (i : ℕ) → owner_at (calls i).state ≡ winner_at (calls 0).state → get_or s.letters (calls i).state 0 < s.translating.policy.letters
    pub won : Won (λ i. (calls i).priority) (player_of (winner_at (calls 0).state)) states

-- ---- of a function that solves and a function that runs
-- demand 3
abbrev pub Translates : (f : Function) → (Places f → Solving) → (g : Function) → (Places g → Running) → Type 0
Translates f shows g shows' = Holds f (λ x. (shows x).translating) g shows'

abbrev pub DecidesWinners : (f : Function) → (Places f → Solving) → Type 0
DecidesWinners f shows = (c : Call f) → (shows c.at).translating.number ≡ 0 → Winners (shows c.at)

-- two calls that were given one policy and one table of owners leave the same winners, whatever their tables
abbrev pub OneAnswer : (f : Function) → (Places f → Solving) → (g : Function) → (Places g → Solving) → Type 0
OneAnswer f shows g shows' =
    (c : Call f) (d : Call g) → (shows c.at).translating.number ≡ 0 → (shows' d.at).translating.number ≡ 0
    → (shows c.at).translating.policy ≡ (shows' d.at).translating.policy → (shows c.at).owners ≡ (shows' d.at).owners
    → (n : ℕ) → n < states (shows c.at) → winner_at (shows c.at) n ≡ winner_at (shows' d.at) n

-- whoever follows the letters wins every play from there
abbrev pub LettersWin : (f : Function) → (Places f → Solving) → (g : Function) → (Places g → Running) → Type 0
LettersWin f shows g shows' =
    (c : Call f) → (shows c.at).translating.number ≡ 0 → (calls : ℕ → Call g) → Play (shows c.at) (λ i. shows' (calls i).at) → Wins (shows c.at) (λ i. shows' (calls i).at)

pub record AfterSolving (f : Function) (shows : Places f → Solving) (g : Function) (shows' : Places g → Running) : Type 0 where
  pub translates : Translates f shows g shows'
  pub winners : DecidesWinners f shows
  pub letters : LettersWin f shows g shows'

pub record Solved : Type 0 where
  pub of_the_core : AfterSolving solve solve_shows read read_shows
  pub of_the_library : AfterSolving wulfrenda_solve wulfrenda_solve_shows wulfrenda_run wulfrenda_run_shows
  pub of_the_library_from_bytes : AfterSolving wulfrenda_solve_bytes wulfrenda_solve_bytes_shows wulfrenda_run wulfrenda_run_shows
  -- the winners are decided by the policy and the owners: by whichever of the three they were found
  pub core_and_library : OneAnswer solve solve_shows wulfrenda_solve wulfrenda_solve_shows
  pub record_and_bytes : OneAnswer wulfrenda_solve wulfrenda_solve_shows wulfrenda_solve_bytes wulfrenda_solve_bytes_shows
