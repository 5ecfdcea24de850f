-- What a document means (document 02, S-4): the formula on a set of marks, the colours of its mark sets, its policy, and its own runs.
use Rattle.std.specs.Prelude.{ℕ, ◌+◌, ◌-◌, ◌*◌, ◌^◌, Bool, not, ◌&&◌, ◌||◌, cond, List, [], ◌++◌, map, ltb, length, get_or, replicate}
use Rattle.lists.specs.Lists.{flat, below}
use Rattle.masks.specs.Masks.{has, set_of}
use Rattle.policy.specs.declared.Policy.{Policy}
use Rattle.policy.specs.Making.{from_parts}
use Rattle.mark_sets.specs.MarkSets.{firsts, colour_in, union_at}
use Rattle.hanoi.specs.Documents.{Formula, truth, inf, fin, group, both, either, Edge, plain, Document, target_of, marks_of, letters}

-- ---- formulas
-- the formula holds if the marks of u recur and no others
unfoldable pub holds : ℕ → Formula → Bool
holds u (truth b) = b
holds u (inf m) = has u m
holds u (fin m) = not (has u m)
holds u (group f) = holds u f
holds u (both f g) = holds u f && holds u g
holds u (either f g) = holds u f || holds u g

-- n numbers, and 0 past them
abbrev pub filled : ℕ → List ℕ → List ℕ
filled n l = l ++ replicate (n - length l) 0

-- the mark set of an edge
unfoldable pub mark_set : Edge → ℕ
mark_set e = set_of (marks_of e)

module _ (d : Document) where
  -- ---- the policy
  -- all edges, by number
  unfoldable pub edges_of : List Edge
  edges_of = flat d.rows

  -- the different mark sets on edges, by first appearance: colour c has the one at place c
  unfoldable pub mark_sets : List ℕ
  mark_sets = firsts (map mark_set edges_of)

  unfoldable pub colour_of : Edge → ℕ
  colour_of e = colour_in (map mark_set edges_of) (mark_set e)

  -- a non-empty colour set is in the family exactly if the formula holds of the union of its mark sets
  unfoldable pub named : ℕ → Bool
  named s = ltb 0 s && ltb s (2 ^ length mark_sets) && holds (union_at mark_sets s (length mark_sets)) d.formula

  -- no edge is quiet: one without marks has the colour of the empty mark set
  unfoldable pub policy_of : Policy
  policy_of = from_parts (record { states = d.states; letters = letters d; colours = length mark_sets; initial = d.start }) 0 (filled 64 (map target_of edges_of)) (filled 64 (map colour_of edges_of)) (map named (below 256))

  -- ---- its own runs: a letter takes the edge of the state and the valuation, and meets the edge's marks; another letter is refused
  unfoldable pub edge_at : ℕ → ℕ → Edge
  edge_at v a = get_or edges_of (v * letters d + a) (plain 0)

  unfoldable pub step : ℕ → ℕ → ℕ
  step v a = cond (ltb a (letters d)) (target_of (edge_at v a)) v

  unfoldable pub meets : ℕ → ℕ → List ℕ
  meets v a = cond (ltb a (letters d)) (marks_of (edge_at v a)) []
