-- What holds of the winners of the supervisor's game beside what solving promises: one winner over each policy state; and on a stem and a loop the least recurring priority of the game,
-- which decides who wins the play, is the least recurring priority of demand 3.
use Rattle.std.specs.Prelude.{ℕ, suc, ◌≤◌, ◌<◌, ◌≡◌, ◌↔◌, Bool, true, not, List, [], ◌∷◌, length}
use Rattle.masks.specs.Masks.{has}
use Rattle.policy.specs.declared.Policy.{Policy}
use Rattle.policy.specs.Policies.{in_family}
use Rattle.forest.specs.Forest.{even}
use Rattle.automaton.specs.Automaton.{built, state_at, row_target, row_priority}
use Rattle.judging.specs.Judging.{non_empty, in_range}
use Rattle.correctness.specs.Demand3.{letter_at, Recurs, colours_met}
use Rattle.games.specs.Games.{serves, met, Least, Won, Follows, Solved}
use Rattle.supervision.specs.Supervision.{player_of, game_of}
use Rattle.solving.specs.Solving.{winner_of}

-- ---- one winner
-- built states over one policy state have one winner
abbrev pub OneWinner : Policy → List ℕ → Type 0
OneWinner p owners =
    (s t : ℕ) → s < length (built p) → t < length (built p) → (state_at p s).state ≡ (state_at p t).state → winner_of p owners s ≡ winner_of p owners t

-- ---- a stem and a loop
module _ (p : Policy) (stem loop : List ℕ) (state letter : ℕ → ℕ) where
  -- a play from a built state that reads a stem and then a loop without end, of letters of the policy: the state before letter i, and letter i
  pub record LoopPlay : Type 0 where
    pub stem_range : in_range p.letters stem ≡ true
    pub loop_range : in_range p.letters loop ≡ true
    pub loop_some : non_empty loop ≡ true
    pub begins : state 0 < length (built p)
    pub reads : (i : ℕ) → letter i ≡ letter_at stem loop i
    pub goes : (i : ℕ) → state (suc i) ≡ row_target p (state i) (letter i)

  -- the priority that letter i meets, as demand 3 writes it
  abbrev pub priorities_met : ℕ → List ℕ
  priorities_met i = row_priority p (state i) (letter i) ∷ []

  -- k is the least recurring priority in demand 3's sense
  pub record LeastRecurring (k : ℕ) : Type 0 where
    pub recurs : Recurs stem loop priorities_met k
    pub lowest : (l : ℕ) → Recurs stem loop priorities_met l → k ≤ l

  module _ (owners : List ℕ) where
    -- the priorities that the play meets, as the game has them
    abbrev pub play_met : ℕ → ℕ
    play_met = met (game_of p owners) state letter

    -- one number is the least recurring priority in both senses, and the only one in either
    pub record OneLeast : Type 0 where
      pub least : ℕ
      pub in_the_game : (k : ℕ) → Least play_met k ↔ (k ≡ least)
      pub in_demand3 : (k : ℕ) → LeastRecurring k ↔ (k ≡ least)
      -- the play is won by the player whom it serves, and by no other
      pub won : (j : Bool) → ((most : ℕ) × Won play_met j most) ↔ (serves least ≡ j)
      -- and it is even exactly if the colours that recur in the policy's run are in the family
      pub colours : ℕ
      pub colours_recur : (c : ℕ) → (has colours c ≡ true) ↔ Recurs stem loop (colours_met stem loop p (state_at p (state 0)).state) c
      pub verdict : even least ≡ in_family p colours

    -- that number serves the winner of the state in which the play begins
    pub record ServesWinner (l : OneLeast) : Type 0 where
      pub served : serves l.least ≡ player_of (winner_of p owners (state 0))
      pub parity : even l.least ≡ not (player_of (winner_of p owners (state 0)))
      pub family : in_family p l.colours ≡ not (player_of (winner_of p owners (state 0)))

-- ---- of a policy
pub record Winning (p : Policy) (owners : List ℕ) : Type 0 where
  pub one_winner : OneWinner p owners
  pub one_least : (stem loop : List ℕ) (state letter : ℕ → ℕ) → LoopPlay p stem loop state letter → OneLeast p stem loop state letter owners
  -- wherever the winner follows letters that win
  pub serves_winner : (stem loop : List ℕ) (state letter : ℕ → ℕ) (play : LoopPlay p stem loop state letter) (winner : ℕ → Bool) (choice : ℕ → ℕ) → Solved (game_of p owners) winner choice
      → Follows (game_of p owners) (winner (state 0)) choice state letter → ServesWinner p stem loop state letter owners (one_least stem loop state letter play)
