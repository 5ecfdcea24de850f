-- A policy with a quiet edge (document 02, S-5): one state, on which a heartbeat has no colour and an event has colour 0. The family has the empty set alone: heartbeats without
-- end are good, events without end are not. One colour, and a tree of two levels.
use Rattle.std.specs.Prelude.{true, false, List, [], ◌∷◌, ◌++◌, replicate}
use Rattle.policy.specs.declared.Policy.{Policy}
use Rattle.correctness.specs.Known.{Entry, entry, loop, listing}

abbrev pub heartbeat : Policy
heartbeat = record { states = 1; letters = 2; colours = 1; initial = 0; target = replicate 64 0; colour = replicate 64 0; family = (true ∷ []) ++ replicate 255 false; quiet = 1 }

-- nodes; the built state with its targets and its priorities; the start. Then the least recurring priority of three loops
abbrev pub heartbeats : List Entry
heartbeats =
    entry heartbeat listing ((3 ∷ 65535 ∷ 1 ∷ []) ∷ (1 ∷ 0 ∷ 2 ∷ []) ∷ (0 ∷ 1 ∷ []) ∷ (0 ∷ 0 ∷ []) ∷ (2 ∷ 1 ∷ []) ∷ (0 ∷ []) ∷ [])
    ∷ entry heartbeat (loop (0 ∷ [])) ((2 ∷ []) ∷ [])
    ∷ entry heartbeat (loop (1 ∷ [])) ((1 ∷ []) ∷ [])
    ∷ entry heartbeat (loop (0 ∷ 1 ∷ [])) ((1 ∷ []) ∷ [])
    ∷ []
