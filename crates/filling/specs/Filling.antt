-- What filling in the automaton's tables asks of their lengths, and what it answers and leaves in the four tables of states and rows.
use Rattle.std.specs.Prelude.{ℕ, ◌*◌, ◌≡◌, cond, List, [], ◌∷◌, length, Option, Some, None}
use Rattle.lists.specs.Questions.{ask}
use Rattle.tables.specs.Tables.{padded, zeros}
use Rattle.policy.specs.declared.Policy.{Policy}
use Rattle.automaton.specs.Automaton.{built, start, row_targets, row_priorities, state_sources, state_leaves, built_fit}
use Rattle.filling.specs.declared.Building.{Building}

-- state tables of one length, and row tables of letters times that
pub record Sized (p : Policy) (sources leaves targets priorities : List ℕ) : Type 0 where
  pub leaves_long : length leaves ≡ length sources
  pub targets_long : length targets ≡ p.letters * length sources
  pub priorities_long : length priorities ≡ p.letters * length sources

-- ---- document 01's number and values for each answer
-- the number of the refusal; 0 where the states fit
abbrev pub number_of : Option Building → ℕ
number_of (Some b) = 0
number_of None = 10

-- how many built states there are, and the start; 0 each after a refusal
abbrev pub counts_of : Option Building → List ℕ
counts_of (Some b) = b.states ∷ b.start ∷ []
counts_of None = 0 ∷ 0 ∷ []

-- how many built states there are, and the start; or none where they do not fit the state table
unfoldable pub building_of : Policy → List ℕ → Option Building
building_of p sources = cond (built_fit p sources) (Some (record { states = length (built p); start = start p })) None

-- the answer, and the four tables at the end, from what they were: their columns where the states fit, and otherwise 0 in every place
pub record Builds (p : Policy) (sources₀ leaves₀ targets₀ priorities₀ : List ℕ) (answer : Option Building) (sources leaves targets priorities : List ℕ) : Type 0 where
  pub answer_is : answer ≡ building_of p sources₀
  pub number_is : number_of answer ≡ ask (built_fit p sources₀) 10 0
  pub counts_are : counts_of answer ≡ cond (built_fit p sources₀) (length (built p) ∷ start p ∷ []) (0 ∷ 0 ∷ [])
  pub sources_are : sources ≡ cond (built_fit p sources₀) (padded (length sources₀) (state_sources p)) (zeros sources₀)
  pub leaves_are : leaves ≡ cond (built_fit p sources₀) (padded (length leaves₀) (state_leaves p)) (zeros leaves₀)
  pub targets_are : targets ≡ cond (built_fit p sources₀) (padded (length targets₀) (row_targets p)) (zeros targets₀)
  pub priorities_are : priorities ≡ cond (built_fit p sources₀) (padded (length priorities₀) (row_priorities p)) (zeros priorities₀)
