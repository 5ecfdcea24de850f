-- What solving the supervisor's game answers, and what each place of the nine tables holds at exit, in every case (document 02, S-1).
use Rattle.std.specs.Prelude.{ℕ, ◌≤◌, ◌<◌, ◌≡◌, ◌⊎◌, ◌≢◌, Bool, true, false, ◌&&◌, cond, List, [], ◌∷◌, map, eqb, ltb, length, get_or, Result}
use Rattle.std.proofs.Common.{inl, inr}
use Rattle.lists.specs.Lists.{all, below}
use Rattle.lists.specs.Questions.{ask}
use Rattle.lists.proofs.Bools.{test}
use Rattle.tables.specs.Tables.{padded, zeros}
use Rattle.policy.specs.declared.Policy.{Policy}
use Rattle.policy.specs.Policies.{legal}
use Rattle.forest.specs.Forest.{forest}
use Rattle.automaton.specs.Automaton.{built, start}
use Rattle.builder.specs.Tables.{Tables, Hold, lengths_fit, nodes_fit, states_fit, filled, cleared, translated, refused, number_of, counts_of}
use Rattle.refusals.specs.declared.Refusal.{Refusal}
use Rattle.builder.specs.declared.Counts.{Counts}
use Rattle.games.specs.Games.{Solved}
use Rattle.games.proofs.Plays.{determined}
use Rattle.supervision.specs.Supervision.{player_of, game_of}
use Rattle.supervision.proofs.Rows.{total}

-- a player as a byte
abbrev pub byte_of : Bool → ℕ
byte_of true = 1
byte_of false = 0

module _ (p : Policy) (owners : List ℕ) where
  -- ---- the winners
  -- the winner of a built state. Every game has a solution, and all its solutions have one winner at each state (winner-is, in proofs/Winners.antt): it is that one
  unfoldable pub winner_of : ℕ → ℕ
  winner_of s = byte_of (of (test (legal p)))
    where
      of : (legal p ≡ true) ⊎ (legal p ≡ false) → Bool
      of (inl lawful) = (determined (game_of p owners) 10 (total p lawful owners)).0 s
      of (inr unlawful) = false

  -- of each built state
  unfoldable pub state_winners : List ℕ
  state_winners = map winner_of (below (length (built p)))

  -- ---- the letters: undecided among those that win
  pub record Chosen (letters : List ℕ) : Type 0 where
    -- a letter of the policy at each state that its owner wins; the winner who follows them stays where it wins, and wins every play from there
    pub solved : Solved (game_of p owners) (λ s. player_of (winner_of s)) (λ s. get_or letters s 0)
    -- 255 at the other built states
    pub none : (s : ℕ) → s < length (built p) → (game_of p owners).owner s ≢ player_of (winner_of s) → get_or letters s 0 ≡ 255
    -- 0 past the built states
    pub past : (s : ℕ) → length (built p) ≤ s → get_or letters s 0 ≡ 0

  -- ---- the questions
  -- 16: one byte per policy state
  unfoldable pub owners_fit : Bool
  owners_fit = eqb (length owners) p.states

  -- 17: each 0 or 1
  unfoldable pub owners_legal : Bool
  owners_legal = all (λ (x : ℕ). ltb x 2) owners

  -- the tables at entry: the seven, the winners and the letters
  module _ (t : Tables) (winners letters : List ℕ) where
    -- 8: translating's, and the two new tables are as long as the state tables
    unfoldable pub solving_fits : Bool
    solving_fits = lengths_fit p t && eqb (length winners) (length t.sources) && eqb (length letters) (length t.sources)

    -- 7 and 8 are answered yes: else all nine tables are left as they are
    unfoldable pub admitted : Bool
    admitted = legal p && solving_fits

    -- 9, 10, 16 and 17 too: else all nine are 0
    unfoldable pub solvable : Bool
    solvable = nodes_fit p t && states_fit p t && owners_fit && owners_legal

    -- ---- the answer: 7, 8, 9, 10, 16, 17 in order; then both counts and the start
    unfoldable pub solving_of : Result Counts Refusal
    solving_of =
        let done = translated (length (forest p)) (length (built p)) (start p) in
        let owned = cond owners_fit (cond owners_legal done (refused 17)) (refused 16) in
        let sized = cond (nodes_fit p t) (cond (states_fit p t) owned (refused 10)) (refused 9) in
        cond (legal p) (cond solving_fits sized (refused 8)) (refused 7)

    -- the number of the first question that is answered no; 0 where there is none
    unfoldable pub refusal_of : ℕ
    refusal_of = ask (legal p) 7 (ask solving_fits 8 (ask (nodes_fit p t) 9 (ask (states_fit p t) 10 (ask owners_fit 16 (ask owners_legal 17 0)))))

    -- how many nodes, how many built states, and the start; 0 each after a refusal
    unfoldable pub counts_after : List ℕ
    counts_after = cond (eqb refusal_of 0) (length (forest p) ∷ length (built p) ∷ start p ∷ []) (0 ∷ 0 ∷ 0 ∷ [])

    -- ---- the tables at exit
    -- the seven hold the translation
    unfoldable pub seven_after : Tables
    seven_after = let asked = cond solvable (filled p t) (cleared p t) in cond admitted asked t

    unfoldable pub winners_after : List ℕ
    winners_after = let asked = cond solvable (padded (length winners) state_winners) (zeros winners) in cond admitted asked winners

    pub record LettersAfter (exit : List ℕ) : Type 0 where
      pub long : length exit ≡ length letters
      pub unchanged : admitted ≡ false → exit ≡ letters
      pub cleared_all : admitted ≡ true → solvable ≡ false → exit ≡ zeros letters
      pub chosen : admitted ≡ true → solvable ≡ true → Chosen exit

    -- ---- what solving promises: the answer and the tables at exit
    pub record Solves (answer : Result Counts Refusal) (exit : Tables) (winners_exit letters_exit : List ℕ) : Type 0 where
      pub answer_is : answer ≡ solving_of
      pub number_is : number_of answer ≡ refusal_of
      pub counts_are : counts_of answer ≡ counts_after
      pub tables_are : Hold seven_after exit.masks exit.parents exit.node_priorities exit.sources exit.leaves exit.targets exit.priorities
      pub winners_are : winners_exit ≡ winners_after
      pub letters_are : LettersAfter letters_exit
