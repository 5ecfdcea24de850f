-- A policy (document 01, "A policy"): its edges, the colours and the verdict of an edge set, and which records are legal.
use Rattle.std.specs.Prelude.{ℕ, ◌+◌, ◌-◌, ◌*◌, ◌/◌, ◌^◌, Bool, false, not, ◌&&◌, ◌||◌, cond, List, [], ◌∷◌, map, eqb, ltb, leb, get_or}
use Rattle.lists.specs.Lists.{all, flat, below}
use Rattle.masks.specs.Masks.{has, inside, members, set_of}
use Rattle.policy.specs.declared.Policy.{Policy}

-- states 1 to 16, letters 1 to 8, colours 1 to 8, states times letters at most 64, one initial state
unfoldable pub counts_fit : ℕ → ℕ → ℕ → ℕ → Bool
counts_fit states letters colours initial =
    leb 1 states && leb states 16 && leb 1 letters && leb letters 8 && leb 1 colours && leb colours 8 && leb (states * letters) 64 && ltb initial states

module _ (p : Policy) where
  -- ---- edges
  unfoldable pub edges : ℕ
  edges = p.states * p.letters

  -- the edge of a state and a letter
  unfoldable pub edge_of : ℕ → ℕ → ℕ
  edge_of v a = v * p.letters + a

  unfoldable pub source : ℕ → ℕ
  source e = e / p.letters

  unfoldable pub target_of : ℕ → ℕ
  target_of e = get_or p.target e 0

  unfoldable pub colour_of : ℕ → ℕ
  colour_of e = get_or p.colour e 0

  -- a quiet edge has no colour
  unfoldable pub is_quiet : ℕ → Bool
  is_quiet e = has p.quiet e

  -- the colours that reading an edge meets
  unfoldable pub edge_colours : ℕ → List ℕ
  edge_colours e = cond (is_quiet e) [] (colour_of e ∷ [])

  -- ---- edge sets
  -- all edges
  unfoldable pub full : ℕ
  full = 2 ^ edges - 1

  -- the set of the colours of an edge set
  unfoldable pub colours_of : ℕ → ℕ
  colours_of m = set_of (flat (map edge_colours (members edges m)))

  -- a colour set is in the family
  unfoldable pub in_family : ℕ → Bool
  in_family s = get_or p.family s false

  -- the verdict of an edge set
  unfoldable pub accepting : ℕ → Bool
  accepting m = in_family (colours_of m)

  -- ---- limits
  unfoldable pub legal_counts : Bool
  legal_counts = counts_fit p.states p.letters p.colours p.initial

  -- an edge leads to a state and has a recorded colour; past the last edge both are 0
  unfoldable pub legal_edge : ℕ → Bool
  legal_edge e = cond (ltb e edges) (ltb (target_of e) p.states && ltb (colour_of e) p.colours) (eqb (target_of e) 0 && eqb (colour_of e) 0)

  unfoldable pub legal_edges : Bool
  legal_edges = all legal_edge (below 64)

  -- the recorded colour of a quiet edge is 0
  unfoldable pub uncoloured : ℕ → Bool
  uncoloured e = not (is_quiet e) || eqb (colour_of e) 0

  -- nothing past the last edge is quiet
  unfoldable pub legal_quiet : Bool
  legal_quiet = inside p.quiet full && all uncoloured (below 64)

  -- no member of the family is outside the colours
  unfoldable pub legal_set : ℕ → Bool
  legal_set s = not (in_family s) || ltb s (2 ^ p.colours)

  unfoldable pub legal_family : Bool
  legal_family = all legal_set (below 256)

  -- all but the family
  unfoldable pub legal_graph : Bool
  legal_graph = legal_counts && legal_edges && legal_quiet

  unfoldable pub legal : Bool
  legal = legal_graph && legal_family
