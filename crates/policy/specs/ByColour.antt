-- The edges of a policy by colour: a table of 9 edge sets, the quiet edges last, by which the edges of a colour set and the colours of an edge set are found without a
-- look at each edge.
use Rattle.std.specs.Prelude.{ℕ, zero, suc, Bool, cond, List, map, eqb, get_or}
use Rattle.std.specs.Int.Bits.{bit_and, bit_or}
use Rattle.lists.specs.Lists.{all, below}
use Rattle.masks.specs.Masks.{has, insert, mask_of}
use Rattle.policy.specs.declared.Policy.{Policy}
use Rattle.policy.specs.Policies.{edges, colour_of, is_quiet, edge_colours}

-- ---- of the colours of the edges, in a list
-- e has colour c
unfoldable pub has_colour : List ℕ → ℕ → ℕ → Bool
has_colour colours c e = eqb (get_or colours e 0) c

-- entry c: the edges below n with colour c
unfoldable pub by_colour_to : List ℕ → ℕ → List ℕ
by_colour_to colours n = map (λ c. mask_of (has_colour colours c) n) (below 9)

module _ (p : Policy) where
  -- the edges whose colours lie in the colour set c
  unfoldable pub edges_in : ℕ → ℕ
  edges_in c = mask_of (λ e. all (has c) (edge_colours p e)) (edges p)

  -- the entry of the table in which an edge stands: its colour; 8 for a quiet one
  unfoldable pub entry_of : ℕ → ℕ
  entry_of e = cond (is_quiet p e) 8 (colour_of p e)

  unfoldable pub by_colour : List ℕ
  by_colour = map (λ c. mask_of (λ e. eqb (entry_of e) c) (edges p)) (below 9)

-- ---- of a table t of edge sets
-- the quiet edges, and those of the entries of the colour set c, below entry n
unfoldable pub table_edges_to : List ℕ → ℕ → ℕ → ℕ
table_edges_to t zero c = get_or t 8 0
table_edges_to t (suc n) c = let r = table_edges_to t n c in cond (has c n) (bit_or r (get_or t n 0)) r

unfoldable pub table_edges : List ℕ → ℕ → ℕ
table_edges t c = table_edges_to t 8 c

-- the entries that have an edge of m, below entry n
unfoldable pub table_colours_to : List ℕ → ℕ → ℕ → ℕ
table_colours_to t zero m = 0
table_colours_to t (suc n) m = let r = table_colours_to t n m in cond (eqb (bit_and m (get_or t n 0)) 0) r (insert r n)

unfoldable pub table_colours : List ℕ → ℕ → ℕ
table_colours t m = table_colours_to t 8 m
