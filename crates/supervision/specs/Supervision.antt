-- The supervisor's game (document 02, S-1): a parity game as source document 001 defines it, but by rows. Its states are the built states, the owner of a built state is that of the policy
-- state under it, and a letter of the policy takes the row of the built automaton.
use Rattle.std.specs.Prelude.{ℕ, Bool, List, eqb, length, get_or}
use Rattle.policy.specs.declared.Policy.{Policy}
use Rattle.automaton.specs.Automaton.{built, state_at, row_target, row_priority}
use Rattle.games.specs.Games.{Game}

-- a byte as a player: 0 the supervisor, who wants the least recurring priority even (false), 1 the plant (true)
unfoldable pub player_of : ℕ → Bool
player_of x = eqb x 1

-- the owners' bytes stand by policy state
abbrev pub game_of : Policy → List ℕ → Game
game_of p owners = record {
  states = length (built p);
  letters = p.letters;
  owner = λ s. player_of (get_or owners (state_at p s).state 0);
  target = row_target p;
  priority = row_priority p;
}
