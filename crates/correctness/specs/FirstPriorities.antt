-- Where priorities begin (document 02, S-2): one graph under four families. State 0 has a loop of colour 0 and an edge to state 1, which has loops of colours 1 and 2: a tree over each state,
-- and an edge in no cycle. README, "Where priorities begin", works the numbers out.
use Rattle.std.specs.Prelude.{Bool, true, false, List, [], ◌∷◌, ◌++◌, replicate}
use Rattle.policy.specs.declared.Policy.{Policy}
use Rattle.correctness.specs.Known.{Entry, entry, listing}

abbrev two_trees : List Bool → Policy
two_trees family = record { states = 2; letters = 2; colours = 3; initial = 0; target = (0 ∷ 1 ∷ 1 ∷ 1 ∷ []) ++ replicate 60 0; colour = (0 ∷ 1 ∷ 1 ∷ 2 ∷ []) ++ replicate 60 0; family = family; quiet = 0 }

-- {0} and {1}: an accepting tree of one level, a rejecting one of two
abbrev pub negative : Policy
negative = two_trees ((false ∷ true ∷ true ∷ []) ++ replicate 253 false)

-- {0}: one level each
abbrev pub equidistant : Policy
equidistant = two_trees ((false ∷ true ∷ []) ++ replicate 254 false)

-- {1, 2}: a rejecting tree of one level, an accepting one of two
abbrev pub positive : Policy
positive = two_trees ((false ∷ false ∷ false ∷ false ∷ false ∷ false ∷ true ∷ []) ++ replicate 249 false)

-- {1}: rejecting trees alone, of one level and of two
abbrev pub rejecting : Policy
rejecting = two_trees ((false ∷ false ∷ true ∷ []) ++ replicate 253 false)

-- ---- the table
-- nodes; each built state with its targets and its priorities; the start
abbrev pub kinds : List Entry
kinds =
    entry negative listing
    ((1 ∷ 65535 ∷ 2 ∷ []) ∷ (12 ∷ 65535 ∷ 1 ∷ []) ∷ (4 ∷ 1 ∷ 2 ∷ []) ∷ (0 ∷ 0 ∷ []) ∷ (0 ∷ 1 ∷ []) ∷ (2 ∷ 1 ∷ []) ∷ (1 ∷ 2 ∷ []) ∷ (1 ∷ 1 ∷ []) ∷ (2 ∷ 1 ∷ []) ∷ (0 ∷ []) ∷ [])
    ∷ entry equidistant listing
    ((1 ∷ 65535 ∷ 0 ∷ []) ∷ (12 ∷ 65535 ∷ 1 ∷ []) ∷ (0 ∷ 0 ∷ []) ∷ (0 ∷ 1 ∷ []) ∷ (0 ∷ 0 ∷ []) ∷ (1 ∷ 1 ∷ []) ∷ (1 ∷ 1 ∷ []) ∷ (1 ∷ 1 ∷ []) ∷ (0 ∷ []) ∷ [])
    ∷ entry positive listing
    ((1 ∷ 65535 ∷ 1 ∷ []) ∷ (12 ∷ 65535 ∷ 0 ∷ []) ∷ (4 ∷ 1 ∷ 1 ∷ []) ∷ (8 ∷ 1 ∷ 1 ∷ []) ∷ (0 ∷ 0 ∷ []) ∷ (0 ∷ 1 ∷ []) ∷ (1 ∷ 0 ∷ []) ∷ (1 ∷ 2 ∷ []) ∷ (1 ∷ 2 ∷ []) ∷ (1 ∷ 0 ∷ []) ∷ (1 ∷ 3 ∷ []) ∷ (1 ∷ 2 ∷ []) ∷ (0 ∷ 1 ∷ []) ∷ (0 ∷ []) ∷ [])
    ∷ entry rejecting listing
    ((1 ∷ 65535 ∷ 1 ∷ []) ∷ (12 ∷ 65535 ∷ 1 ∷ []) ∷ (4 ∷ 1 ∷ 2 ∷ []) ∷ (0 ∷ 0 ∷ []) ∷ (0 ∷ 1 ∷ []) ∷ (1 ∷ 1 ∷ []) ∷ (1 ∷ 2 ∷ []) ∷ (1 ∷ 1 ∷ []) ∷ (2 ∷ 1 ∷ []) ∷ (0 ∷ []) ∷ [])
    ∷ []
