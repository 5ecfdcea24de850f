-- What the stage that writes the built states promises: whether they fit, and the tables at its end; and the states over the first policy states, the leaves of one state.
use Rattle.std.specs.Prelude.{ℕ, ◌<◌, ◌≡◌, cond, List, map, length, get_or, Option, Some, None}
use Rattle.std.proofs.lemmas.List.Edits.{sets}
use Rattle.lists.specs.Lists.{filter, flat, below}
use Rattle.tables.specs.Tables.{padded, zeros}
use Rattle.policy.specs.declared.Policy.{Policy}
use Rattle.forest.specs.Forest.{forest}
use Rattle.automaton.specs.Automaton.{Built, or_else, is_leaf, leaves, states_over, built, state_sources, state_leaves, built_fit}
use Rattle.automaton.specs.Stages.{state_starts}

module _ (p : Policy) where
  -- the states over policy states below v
  unfoldable pub built_below : ℕ → List Built
  built_below v = flat (map (states_over (forest p) p) (below v))

  -- the leaves of v among the nodes below n
  unfoldable pub leaves_below : ℕ → ℕ → List ℕ
  leaves_below v n = filter (is_leaf (forest p) p v) (below n)

  -- the leaves of the states over v
  unfoldable pub leaves_over : ℕ → List ℕ
  leaves_over v = or_else 65535 (leaves (forest p) p v)

-- what writing the built states answers and leaves: how many there are, or none where they do not fit; the state tables hold them, or 0 in every place where they do not
-- fit; and where those over each policy state begin: the last of these is how many there are, also where they do not fit
pub record StatesFilled (p : Policy) (sources₀ leaves₀ starts₀ : List ℕ) (answer : Option ℕ) (sources leaves starts : List ℕ) : Type 0 where
  pub answer_is : answer ≡ cond (built_fit p sources₀) (Some (length (built p))) None
  pub sources_are : sources ≡ cond (built_fit p sources₀) (padded (length sources₀) (state_sources p)) (zeros sources₀)
  pub leaves_are : leaves ≡ cond (built_fit p sources₀) (padded (length leaves₀) (state_leaves p)) (zeros leaves₀)
  pub starts_are : starts ≡ sets starts₀ 0 (state_starts p)
  pub count_is : p.states < length starts₀ → get_or starts p.states 0 ≡ length (built p)
