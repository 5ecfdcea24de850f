-- The states that each state leads to by one edge, as rows of 16 bits: four rows in a word, four words for 16 states. A table has such words for each colour, and for the quiet edges.
use Rattle.std.specs.Prelude.{ℕ, zero, suc, ◌+◌, ◌*◌, ◌/◌, ◌%◌, ◌^◌, ◌<◌, ◌≡◌, Bool, true, ◌&&◌, cond, List, eqb, ltb, get_or}
use Rattle.lists.specs.Lists.{any, below}
use Rattle.masks.specs.Masks.{has}
use Rattle.policy.specs.declared.Policy.{Policy}
use Rattle.policy.specs.Policies.{edges, source, target_of, legal}
use Rattle.policy.specs.ByColour.{entry_of}
use Rattle.graph.specs.Through.{join_row}

-- row i of a word
unfoldable pub word_row : ℕ → ℕ → ℕ
word_row w i = w / 2 ^ (16 * i) % 2 ^ 16

-- row v of four words
unfoldable pub row_at : ℕ → ℕ → ℕ → ℕ → ℕ → ℕ
row_at a b c d v = word_row (cond (ltb v 4) a (cond (ltb v 8) b (cond (ltb v 12) c d))) (v % 4)

-- row u of the rows f, after they are joined at each of the first k states
unfoldable pub turned : (ℕ → ℕ) → ℕ → ℕ → ℕ
turned f zero u = f u
turned f (suc k) u = join_row (turned f k u) k (turned f k k)

-- e is a state of word j, and its row in w has f e
unfoldable pub word_bit : (ℕ → ℕ) → ℕ → ℕ → ℕ → Bool
word_bit f w j e = eqb (e / 4) j && has (word_row w (e % 4)) (f e)

-- of the places e, e + by, e + 2 by and e + 3 by, the one that the row of state e in its word picks has the bit t e, and the others are free
pub record Placed (by : ℕ) (t : ℕ → Bool) (x : ℕ) : Type 0 where
  pub bit_is : (i e : ℕ) → i < 4 → e < 16 → has x (by * i + e) ≡ (eqb (e % 4) i && t e)

module _ (p : Policy) where
  -- the parts of a legal policy that say what its edges are
  pub record EdgesOf (letters quiet : ℕ) (heads colours : List ℕ) : Type 0 where
    pub lawful : legal p ≡ true
    pub letters_are : letters ≡ p.letters
    pub quiet_is : quiet ≡ p.quiet
    pub heads_are : heads ≡ p.target
    pub colours_are : colours ≡ p.colour

  -- e leads from v to w, and stands in entry c of the edges by colour
  unfoldable pub leads_by : ℕ → ℕ → ℕ → ℕ → Bool
  leads_by c v w e = eqb (entry_of p e) c && (eqb (source p e) v && eqb (target_of p e) w)

  -- for the states from 4 j on, word 9 j + c of the table has the rows of the edges of entry c below n
  abbrev pub StepsTo : List ℕ → ℕ → Type 0
  StepsTo t n = (j c i w : ℕ) → j < 4 → c < 9 → i < 4 → w < 16 → has (get_or t (9 * j + c) 0) (16 * i + w) ≡ any (leads_by c (4 * j + i) w) (below n)

  -- all edges
  pub record StepsOf (t : List ℕ) : Type 0 where
    pub step_is : StepsTo t (edges p)

-- the graph of a legal policy: its states, and the steps by colour
pub record SteppedGraph (p : Policy) (states : ℕ) (steps : List ℕ) : Type 0 where
  pub lawful : legal p ≡ true
  pub states_are : states ≡ p.states
  pub steps_are : StepsOf p steps
