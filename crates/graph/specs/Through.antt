-- The largest cycle through a state inside an edge set (document 01, "Cycles and the forest"), and the table of what each state reaches:
-- the targets of its edges, then, for each state k in turn, each row that has k with the row of k.
use Rattle.std.specs.Prelude.{ℕ, zero, suc, ◌+◌, ◌-◌, ◌*◌, ◌^◌, ◌<◌, ◌≡◌, true, ◌&&◌, cond, List, map, get_or, set, eqb, ltb}
use Rattle.std.specs.Int.Bits.{bit_and, bit_or}
use Rattle.lists.specs.Lists.{any, below}
use Rattle.masks.specs.Masks.{has, insert, minus, mask_of, members}
use Rattle.policy.specs.declared.Policy.{Policy}
use Rattle.policy.specs.Policies.{edges, source, target_of, legal}
use Rattle.graph.specs.Cycles.{reach}

module _ (p : Policy) where
  -- the edges of m whose source v reaches inside m, and whose target reaches v inside m; none where v is on no cycle inside m
  unfoldable pub cycle_through : ℕ → ℕ → ℕ
  cycle_through m v = let es = members (edges p) m in let r = reach p es v in
      mask_of (λ e. has m e && has r (source p e) && has (reach p es (target_of p e)) v) (edges p)

  -- the states that v reaches inside m by one edge or more
  unfoldable pub onward : ℕ → ℕ → ℕ
  onward m v = let es = members (edges p) m in mask_of (λ w. any (λ e. eqb (source p e) v && has (reach p es (target_of p e)) w) es) p.states

  -- row v is the set of these
  pub record Rows (m : ℕ) (rows : List ℕ) : Type 0 where
    pub row_is : (v : ℕ) → v < p.states → get_or rows v 0 ≡ onward m v

  -- the graph of a legal policy: its states, its letters and the targets of its edges
  pub record GraphOf (states letters : ℕ) (heads : List ℕ) : Type 0 where
    pub lawful : legal p ≡ true
    pub states_are : states ≡ p.states
    pub letters_are : letters ≡ p.letters
    pub heads_are : heads ≡ p.target

-- ---- the first rows: t has the targets of the edges, l is the number of letters
-- a row, with the target of e where e is in m
unfoldable pub with_target : List ℕ → ℕ → ℕ → ℕ → ℕ
with_target t m row e = cond (has m e) (insert row (get_or t e 0)) row

-- the targets of the first a edges of v that are in m
unfoldable pub edge_row : List ℕ → ℕ → ℕ → ℕ → ℕ → ℕ
edge_row t l m v zero = 0
edge_row t l m v (suc a) = with_target t m (edge_row t l m v a) (v * l + a)

-- the rows, with these for the states below n
unfoldable pub edge_rows : List ℕ → List ℕ → ℕ → ℕ → ℕ → List ℕ
edge_rows rows t l m zero = rows
edge_rows rows t l m (suc n) = set (edge_rows rows t l m n) n (edge_row t l m n l)

-- the first n entries of a list are states
abbrev pub AreStates : List ℕ → ℕ → Type 0
AreStates t n = (e : ℕ) → e < n → get_or t e 0 < 16

-- ---- the rows joined at a state
-- a row that has k, with the row of k
unfoldable pub join_row : ℕ → ℕ → ℕ → ℕ
join_row row k pivot = cond (has row k) (bit_or row pivot) row

-- the rows below n, each so joined
unfoldable pub join_rows : List ℕ → ℕ → ℕ → ℕ → List ℕ
join_rows rows k pivot zero = rows
join_rows rows k pivot (suc n) = let r = join_rows rows k pivot n in set r n (join_row (get_or r n 0) k pivot)

-- the rows below n, joined at each state below k
unfoldable pub joined_rows : List ℕ → ℕ → ℕ → List ℕ
joined_rows rows n zero = rows
joined_rows rows n (suc k) = let r = joined_rows rows n k in join_rows r k (get_or r k 0) n

-- ---- the largest cycle through a state: its states, and the edges between them
-- the states below n that are in their own rows
unfoldable pub states_on_cycles : List ℕ → ℕ → ℕ
states_on_cycles rows n = mask_of (λ w. has (get_or rows w 0) w) n

-- the states of v's row that have the same row
unfoldable pub cycle_states : List ℕ → ℕ → ℕ
cycle_states rows v = bit_and (mask_of (λ w. eqb (get_or rows w 0) (get_or rows v 0)) 16) (get_or rows v 0)

-- the sets that a table has at the members of s below n, as one
unfoldable pub union : List ℕ → ℕ → ℕ → ℕ
union t s zero = 0
union t s (suc n) = let r = union t s n in cond (has s n) (bit_or r (get_or t n 0)) r

-- the edges of m that leave a state of s below n and enter one
unfoldable pub between : List ℕ → List ℕ → ℕ → ℕ → ℕ → ℕ
between out into m s n = bit_and (bit_and (union out s n) (union into s n)) m

-- ---- the tables of edges
-- of l letters: the edges that leave state v
unfoldable pub own_edges : ℕ → ℕ → ℕ
own_edges l v = minus (2 ^ (v * l + l) - 1) (2 ^ (v * l) - 1)

-- those that leave each state below n
unfoldable pub leaving : ℕ → ℕ → List ℕ
leaving l n = map (λ v. cond (ltb v n) (own_edges l v) 0) (below 16)

-- the edges below n that enter each state: t has the targets
unfoldable pub entering : List ℕ → ℕ → List ℕ
entering t n = map (λ v. mask_of (λ e. eqb (get_or t e 0) v) n) (below 16)

-- both tables, for a policy
pub record EndsOf (p : Policy) (out into : List ℕ) : Type 0 where
  pub out_are : out ≡ leaving p.letters p.states
  pub into_are : into ≡ entering p.target (edges p)
