-- What translating answers, and what each place of the seven tables holds at exit, in every case (document 01, "The built automaton" and the questions of
-- translating).
use Rattle.std.specs.Prelude.{ℕ, ◌*◌, ◌≡◌, Bool, ◌&&◌, cond, List, [], ◌∷◌, eqb, length, Result, Ok, Err}
use Rattle.lists.specs.Questions.{ask}
use Rattle.tables.specs.Tables.{padded, zeros}
use Rattle.policy.specs.declared.Policy.{Policy}
use Rattle.policy.specs.Policies.{legal}
use Rattle.forest.specs.Forest.{forest, node_masks, node_parents, node_priorities_of, forest_fits}
use Rattle.automaton.specs.Automaton.{state_sources, state_leaves, built, start, row_targets, row_priorities, built_fit}
use Rattle.refusals.specs.declared.Refusal.{Refusal}
use Rattle.refusals.specs.Refusals.{number, refusal}
use Rattle.builder.specs.declared.Counts.{Counts}

-- the seven tables: mask, parent and priority of each node; policy state and leaf of each built state; target and priority of each row
pub record Tables : Type 0 where
  pub masks : List ℕ
  pub parents : List ℕ
  pub node_priorities : List ℕ
  pub sources : List ℕ
  pub leaves : List ℕ
  pub targets : List ℕ
  pub priorities : List ℕ

-- ---- the two answers: how many nodes, how many built states, and the start; or the refusal with a number
abbrev pub translated : ℕ → ℕ → ℕ → Result Counts Refusal
translated nodes states start = Ok (record { nodes = nodes; states = states; start = start })

abbrev pub refused : ℕ → Result Counts Refusal
refused n = Err (refusal n)

-- ---- document 01's number and values for each answer
-- the number of the refusal; 0 where the policy was translated
abbrev pub number_of : Result Counts Refusal → ℕ
number_of (Ok counts) = 0
number_of (Err e) = number e

-- how many nodes, how many built states, and the start; 0 each after a refusal
abbrev pub counts_of : Result Counts Refusal → List ℕ
counts_of (Ok counts) = counts.nodes ∷ counts.states ∷ counts.start ∷ []
counts_of (Err e) = 0 ∷ 0 ∷ 0 ∷ []

-- ---- the tables
-- lengths that belong together: the node tables of one length, the state tables of one length, each row table letters times the latter
unfoldable pub sizes_fit : ℕ → ℕ → ℕ → ℕ → ℕ → ℕ → ℕ → ℕ → Bool
sizes_fit letters masks parents node_priorities sources leaves targets priorities =
    eqb masks parents && eqb masks node_priorities && eqb sources leaves && eqb targets (letters * sources) && eqb priorities (letters * sources)

module _ (p : Policy) where
  -- ---- the questions of translating
  module _ (t : Tables) where
    -- question 8
    unfoldable pub lengths_fit : Bool
    lengths_fit =
        sizes_fit p.letters (length t.masks) (length t.parents) (length t.node_priorities) (length t.sources) (length t.leaves) (length t.targets) (length t.priorities)

    -- questions 9 and 10
    unfoldable pub nodes_fit : Bool
    nodes_fit = forest_fits p t.masks

    unfoldable pub states_fit : Bool
    states_fit = built_fit p t.sources

    -- ---- the tables at exit
    unfoldable pub filled : Tables
    filled = record {
      masks = padded (length t.masks) (node_masks p);
      parents = padded (length t.parents) (node_parents p);
      node_priorities = padded (length t.node_priorities) (node_priorities_of p);
      sources = padded (length t.sources) (state_sources p);
      leaves = padded (length t.leaves) (state_leaves p);
      targets = padded (length t.targets) (row_targets p);
      priorities = padded (length t.priorities) (row_priorities p);
    }

    unfoldable pub cleared : Tables
    cleared = record {
      masks = zeros t.masks;
      parents = zeros t.parents;
      node_priorities = zeros t.node_priorities;
      sources = zeros t.sources;
      leaves = zeros t.leaves;
      targets = zeros t.targets;
      priorities = zeros t.priorities;
    }

    -- ---- translating: 7, 8, 9, 10 in order; then both counts and the start
    unfoldable pub translation_of : Result Counts Refusal
    translation_of =
        let done = translated (length (forest p)) (length (built p)) (start p) in
        let sized = cond nodes_fit (cond states_fit done (refused 10)) (refused 9) in
        cond (legal p) (cond lengths_fit sized (refused 8)) (refused 7)

    -- the number of the first question that is answered no; 0 where there is none
    unfoldable pub refusal_of : ℕ
    refusal_of = ask (legal p) 7 (ask lengths_fit 8 (ask nodes_fit 9 (ask states_fit 10 0)))

    -- how many nodes, how many built states, and the start; 0 each after a refusal
    unfoldable pub counts_after : List ℕ
    counts_after = cond (eqb refusal_of 0) (length (forest p) ∷ length (built p) ∷ start p ∷ []) (0 ∷ 0 ∷ 0 ∷ [])

    -- the result and 0 past it; unchanged after 7 and 8; all 0 after 9 and 10
    unfoldable pub tables_after : Tables
    tables_after = let sized = cond (nodes_fit && states_fit) filled cleared in cond (legal p && lengths_fit) sized t

-- what each of seven lists is, table by table
pub record Hold (t : Tables) (masks parents node_priorities sources leaves targets priorities : List ℕ) : Type 0 where
  pub masks_are : masks ≡ t.masks
  pub parents_are : parents ≡ t.parents
  pub node_priorities_are : node_priorities ≡ t.node_priorities
  pub sources_are : sources ≡ t.sources
  pub leaves_are : leaves ≡ t.leaves
  pub targets_are : targets ≡ t.targets
  pub priorities_are : priorities ≡ t.priorities

abbrev pub tables : List ℕ → List ℕ → List ℕ → List ℕ → List ℕ → List ℕ → List ℕ → Tables
tables masks parents node_priorities sources leaves targets priorities = record {
  masks = masks;
  parents = parents;
  node_priorities = node_priorities;
  sources = sources;
  leaves = leaves;
  targets = targets;
  priorities = priorities;
}

-- ---- what translating promises: the tables at entry, the answer, the tables at exit
pub record Translates (p : Policy) (entry : Tables) (answer : Result Counts Refusal) (exit : Tables) : Type 0 where
  pub answer_is : answer ≡ translation_of p entry
  pub number_is : number_of answer ≡ refusal_of p entry
  pub counts_are : counts_of answer ≡ counts_after p entry
  pub tables_are : Hold (tables_after p entry) exit.masks exit.parents exit.node_priorities exit.sources exit.leaves exit.targets exit.priorities
