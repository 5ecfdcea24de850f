-- The known policies of document 01, and the eleven entries of one table about them.
use Rattle.std.specs.Prelude.{ℕ, true, false, List, [], ◌∷◌, ◌++◌, map, length, replicate}
use Rattle.lists.specs.Lists.{flat, below}
use Rattle.policy.specs.declared.Policy.{Policy}
use Rattle.forest.specs.Forest.{forest, priority}
use Rattle.automaton.specs.Automaton.{built, state_at, start, row_target, row_priority, row_targets, row_priorities}
use Rattle.judging.specs.Judging.{least_recurring}

-- ---- the policies
abbrev pub A : Policy
A = record { states = 1; letters = 3; colours = 3; initial = 0; target = (0 ∷ 0 ∷ 0 ∷ []) ++ replicate 61 0; colour = (0 ∷ 1 ∷ 2 ∷ []) ++ replicate 61 0; family = (false ∷ false ∷ true ∷ true ∷ false ∷ true ∷ []) ++ replicate 250 false; quiet = 0 }

abbrev pub B : Policy
B = record { states = 2; letters = 2; colours = 2; initial = 0; target = (0 ∷ 1 ∷ 0 ∷ 1 ∷ []) ++ replicate 60 0; colour = (0 ∷ 1 ∷ 0 ∷ 1 ∷ []) ++ replicate 60 0; family = (false ∷ true ∷ true ∷ []) ++ replicate 253 false; quiet = 0 }

abbrev pub C : Policy
C = record { states = 2; letters = 1; colours = 1; initial = 0; target = (1 ∷ 1 ∷ []) ++ replicate 62 0; colour = (0 ∷ 0 ∷ []) ++ replicate 62 0; family = (false ∷ true ∷ []) ++ replicate 254 false; quiet = 0 }

-- ---- what can be asked of a policy
-- its nodes; a built state with its rows; the least priority that recurs on a loop from the start; the whole listing
pub data Question : Type 0 where
  nodes : Question
  state : ℕ → Question
  loop : List ℕ → Question
  listing : Question

module _ (p : Policy) where
  -- mask, parent, priority of each node
  abbrev pub node_lines : List (List ℕ)
  node_lines = map (λ x. x.mask ∷ x.parent ∷ priority p x ∷ []) (forest p)

  -- policy state and leaf; the targets by letter; the priorities by letter
  abbrev pub state_lines : ℕ → List (List ℕ)
  state_lines s = ((state_at p s).state ∷ (state_at p s).leaf ∷ []) ∷ map (row_target p s) (below p.letters) ∷ map (row_priority p s) (below p.letters) ∷ []

  abbrev pub answer : Question → List (List ℕ)
  answer nodes = node_lines
  answer (state s) = state_lines s
  answer (loop w) = (least_recurring p.letters (row_targets p) (row_priorities p) (record { state = start p }) [] w ∷ []) ∷ []
  answer listing = node_lines ++ flat (map state_lines (below (length (built p)))) ++ ((start p ∷ []) ∷ [])

pub record Entry : Type 0 where
  pub policy : Policy
  pub question : Question
  pub answered : List (List ℕ)

abbrev pub entry : Policy → Question → List (List ℕ) → Entry
entry p q a = record { policy = p; question = q; answered = a }

-- ---- the table
abbrev pub table : List Entry
table =
    entry A nodes ((7 ∷ 65535 ∷ 1 ∷ []) ∷ (3 ∷ 0 ∷ 2 ∷ []) ∷ (1 ∷ 1 ∷ 3 ∷ []) ∷ (5 ∷ 0 ∷ 2 ∷ []) ∷ (1 ∷ 3 ∷ 3 ∷ []) ∷ (4 ∷ 3 ∷ 3 ∷ []) ∷ [])
    ∷ entry A (state 0) ((0 ∷ 2 ∷ []) ∷ (0 ∷ 0 ∷ 1 ∷ []) ∷ (3 ∷ 2 ∷ 1 ∷ []) ∷ [])
    ∷ entry A (state 1) ((0 ∷ 4 ∷ []) ∷ (1 ∷ 0 ∷ 2 ∷ []) ∷ (3 ∷ 1 ∷ 2 ∷ []) ∷ [])
    ∷ entry A (state 2) ((0 ∷ 5 ∷ []) ∷ (1 ∷ 0 ∷ 2 ∷ []) ∷ (2 ∷ 1 ∷ 3 ∷ []) ∷ [])
    ∷ entry A (loop (0 ∷ 1 ∷ [])) ((2 ∷ []) ∷ [])
    ∷ entry A (loop (1 ∷ 2 ∷ [])) ((1 ∷ []) ∷ [])
    ∷ entry A (loop (1 ∷ [])) ((2 ∷ []) ∷ [])
    ∷ entry A (loop (2 ∷ [])) ((3 ∷ []) ∷ [])
    ∷ entry A (loop (0 ∷ 2 ∷ [])) ((2 ∷ []) ∷ [])
    ∷ entry B listing ((15 ∷ 65535 ∷ 1 ∷ []) ∷ (1 ∷ 0 ∷ 2 ∷ []) ∷ (8 ∷ 0 ∷ 2 ∷ []) ∷ (0 ∷ 1 ∷ []) ∷ (0 ∷ 1 ∷ []) ∷ (2 ∷ 1 ∷ []) ∷ (1 ∷ 2 ∷ []) ∷ (0 ∷ 1 ∷ []) ∷ (1 ∷ 2 ∷ []) ∷ (0 ∷ []) ∷ [])
    ∷ entry C listing ((2 ∷ 65535 ∷ 0 ∷ []) ∷ (0 ∷ 65535 ∷ []) ∷ (1 ∷ []) ∷ (0 ∷ []) ∷ (1 ∷ 0 ∷ []) ∷ (1 ∷ []) ∷ (0 ∷ []) ∷ (0 ∷ []) ∷ [])
    ∷ []
