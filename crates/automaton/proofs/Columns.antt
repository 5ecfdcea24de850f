-- Tables that begin with the ends of the nodes or a column of the built states: how long they are, and what stands in each place. Assumes nothing.
use Prim.Native.Nat.{ℕ, ◌+◌, ◌≤◌, ◌<◌}
use native.Mathlib.Omega.{arith}
use mathlib.Core.Path.{◌≡◌, ◌∙◌}
use mathlib.Core.List.{List}
use lib.ListN.{length, get_or, length-map}
use Rattle.lists.proofs.Lists.{length-map-below, get_or-map-below}
use Rattle.tables.specs.Tables.{Column}
use Rattle.tables.proofs.Columns.{column-at}
use Rattle.policy.specs.declared.Policy.{Policy}
use Rattle.forest.specs.Forest.{forest}
use Rattle.automaton.specs.Automaton.{Built, built, state_at, state_sources, state_leaves}
use Rattle.automaton.specs.Stages.{end_of, first_over, node_ends, state_starts}

module _ (p : Policy) where
  -- ---- the columns
  pub length-ends : length (node_ends p) ≡ length (forest p)
  unfolding node_ends
  length-ends = length-map-below (end_of (forest p)) (length (forest p))

  pub length-sources : length (state_sources p) ≡ length (built p)
  unfolding state_sources
  length-sources = length-map (built p) (λ (b : Built). b.state)

  pub length-leaves : length (state_leaves p) ≡ length (built p)
  unfolding state_leaves
  length-leaves = length-map (built p) (λ (b : Built). b.leaf)

  pub length-starts : length (state_starts p) ≡ p.states + 1
  unfolding state_starts
  length-starts = length-map-below (first_over p) (p.states + 1)

  module _ {t : List ℕ} where
    -- ---- the ends of the nodes
    pub ends-long : Column (node_ends p) t → length (forest p) ≤ length t
    ends-long c = omega (arith, c.long, length-ends)

    pub end-at : (n : ℕ) → n < length (forest p) → Column (node_ends p) t → get_or t n 0 ≡ end_of (forest p) n
    unfolding node_ends
    end-at n h c = c.each n (omega (arith, length-ends)) ∙ get_or-map-below (end_of (forest p)) (length (forest p)) n 0 h

    -- ---- the built states
    pub sources_long : Column (state_sources p) t → length (built p) ≤ length t
    sources_long c = omega (arith, c.long, length-sources)

    pub source-at : (s : ℕ) → s < length (built p) → Column (state_sources p) t → get_or t s 0 ≡ (state_at p s).state
    unfolding state_sources state_at
    source-at s h c = column-at (λ (b : Built). b.state) (built p) c (record { state = 0; leaf = 0 }) s h

    pub leaves_long : Column (state_leaves p) t → length (built p) ≤ length t
    leaves_long c = omega (arith, c.long, length-leaves)

    pub leaf-at : (s : ℕ) → s < length (built p) → Column (state_leaves p) t → get_or t s 0 ≡ (state_at p s).leaf
    unfolding state_leaves state_at
    leaf-at s h c = column-at (λ (b : Built). b.leaf) (built p) c (record { state = 0; leaf = 0 }) s h

    pub start-at : (v : ℕ) → v ≤ p.states → Column (state_starts p) t → get_or t v 0 ≡ first_over p v
    unfolding state_starts
    start-at v h c = c.each v (omega (arith, length-starts)) ∙ get_or-map-below (first_over p) (p.states + 1) v 0 (omega arith)
