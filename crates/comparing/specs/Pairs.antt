-- How two policies over one graph are compared: by pairs of colour sets, c of p's colours and d of q's. The cycles with exactly these colours have one verdict in p and
-- one in q; where the two differ, there must be no such cycle, and the largest ones among the edges with these colours tell whether there is one.
use Rattle.std.specs.Prelude.{ℕ, ◌^◌, ◌≡◌, Bool, true, false, not, ◌&&◌, ◌||◌, List, eqb, get_or}
use Rattle.std.specs.Int.Bits.{bit_and}
use Rattle.lists.specs.Lists.{all, below}
use Rattle.lists.specs.Bools.{differs}
use Rattle.policy.specs.declared.Policy.{Policy}
use Rattle.policy.specs.Policies.{colours_of, in_family, legal}
use Rattle.policy.specs.ByColour.{by_colour, table_edges, table_colours, edges_in}
use Rattle.graph.specs.Through.{cycle_through}
use Rattle.graph.specs.SameGraph.{same_graph}

module _ (p q : Policy) where
  -- questions 7 and 15 are answered yes
  pub record Comparable : Type 0 where
    pub legal_p : legal p ≡ true
    pub legal_q : legal q ≡ true
    pub same-graph : same_graph p q ≡ true

  -- and t and u are the edges of the two by colour
  pub record ColourTables (t u : List ℕ) : Type 0 where
    pub comparable : Comparable
    pub of_p : t ≡ by_colour p
    pub of_q : u ≡ by_colour q

  -- ---- one pair of colour sets
  -- the edges with colours in c, in p, and in d, in q
  unfoldable pub pair_edges : ℕ → ℕ → ℕ
  pair_edges c d = bit_and (edges_in p c) (edges_in q d)

  -- m has exactly the colours c in p, and exactly d in q
  unfoldable pub exactly : ℕ → ℕ → ℕ → Bool
  exactly c d m = eqb (colours_of p m) c && eqb (colours_of q m) d

  -- no cycle through v has exactly these colours: the largest one of the edges with these colours is none, or has not all of them
  unfoldable pub no_cycle_at : ℕ → ℕ → ℕ → Bool
  no_cycle_at c d v = let x = cycle_through p (pair_edges c d) v in eqb x 0 || not (exactly c d x)

  unfoldable pub no_cycle : ℕ → ℕ → Bool
  no_cycle c d = all (no_cycle_at c d) (below p.states)

  -- the cycles with exactly these colours have the same verdict in both, or there is none
  unfoldable pub pair_agrees : ℕ → ℕ → Bool
  pair_agrees c d = not (differs (in_family p c) (in_family q d)) || no_cycle c d

  -- a cycle has to be searched for: the verdicts differ, and the edges with these colours have all of them
  unfoldable pub needs_search : ℕ → ℕ → Bool
  needs_search c d = differs (in_family p c) (in_family q d) && exactly c d (pair_edges c d)

  -- ---- all pairs
  unfoldable pub set_agrees : ℕ → Bool
  set_agrees c = all (pair_agrees c) (below (2 ^ q.colours))

  unfoldable pub pairs_agree : Bool
  pairs_agree = all set_agrees (below (2 ^ p.colours))

-- ---- by the targets of the edges, t for p and u for q
unfoldable pub same_head : List ℕ → List ℕ → ℕ → Bool
same_head t u e = eqb (get_or t e 0) (get_or u e 0)

-- ---- by tables of the edges by colour, t for p and u for q
unfoldable pub exactly_by : List ℕ → List ℕ → ℕ → ℕ → ℕ → Bool
exactly_by t u c d m = eqb (table_colours t m) c && eqb (table_colours u m) d

-- b is the verdict of c in p, f the family of q, and m the edges of p in the colours c
unfoldable pub needs_search_by : List ℕ → List ℕ → List Bool → Bool → ℕ → ℕ → ℕ → Bool
needs_search_by t u f b m c d = differs b (get_or f d false) && exactly_by t u c d (bit_and m (table_edges u d))
