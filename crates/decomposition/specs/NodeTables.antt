-- The node tables (document 01, "Cycles and the forest"): what filling them answers, and what each place holds at exit.
use Rattle.std.specs.Prelude.{ℕ, ◌≤◌, ◌≡◌, cond, List, length, Option, Some, None}
use Rattle.lists.specs.Questions.{ask}
use Rattle.tables.specs.Tables.{padded, zeros, Column}
use Rattle.policy.specs.declared.Policy.{Policy}
use Rattle.forest.specs.Forest.{forest, transient_priority, forest_fits, node_masks, node_parents, node_priorities_of}
use Rattle.decomposition.specs.declared.Filled.{Filled}

pub record NodeTables : Type 0 where
  pub masks : List ℕ
  pub parents : List ℕ
  pub node_priorities : List ℕ

abbrev pub node_tables : List ℕ → List ℕ → List ℕ → NodeTables
node_tables m q r = record { masks = m; parents = q; node_priorities = r }

-- the n nodes of the forest: their masks and parents, before their priorities are written
pub record NodeColumns (p : Policy) (masks parents : List ℕ) (n : ℕ) : Type 0 where
  pub all : n ≡ length (forest p)
  pub few : n ≤ 65535
  pub masks_are : Column (node_masks p) masks
  pub parents_are : Column (node_parents p) parents

-- ---- document 01's number and value for each answer
-- the number of the refusal; 0 where the nodes fit
abbrev pub number_of : Option Filled → ℕ
number_of (Some f) = 0
number_of None = 9

-- how many nodes there are; 0 after a refusal
abbrev pub count_of : Option Filled → ℕ
count_of (Some f) = f.count
count_of None = 0

-- the lowest priority of a node; 0 after a refusal
abbrev pub lowest_of : Option Filled → ℕ
lowest_of (Some f) = f.transient
lowest_of None = 0

module _ (p : Policy) (t : NodeTables) where
  -- how many nodes there are, and the lowest priority of them; none where they do not fit
  unfoldable pub filling_of : Option Filled
  filling_of = cond (forest_fits p t.masks) (Some (record { count = length (forest p); transient = transient_priority p })) None

  unfoldable pub refusal_of : ℕ
  refusal_of = ask (forest_fits p t.masks) 9 0

  unfoldable pub count_after : ℕ
  count_after = cond (forest_fits p t.masks) (length (forest p)) 0

  unfoldable pub lowest_after : ℕ
  lowest_after = cond (forest_fits p t.masks) (transient_priority p) 0

  -- the tables at exit: the columns of the forest where the nodes fit, and otherwise 0 in every place
  unfoldable pub filled_of : NodeTables
  filled_of =
      cond (forest_fits p t.masks) (node_tables (padded (length t.masks) (node_masks p)) (padded (length t.parents) (node_parents p)) (padded (length t.node_priorities) (node_priorities_of p)))
      (node_tables (zeros t.masks) (zeros t.parents) (zeros t.node_priorities))

-- ---- what filling promises: the tables at entry, the answer, the tables at exit
pub record Fills (p : Policy) (entry : NodeTables) (answer : Option Filled) (exit : NodeTables) : Type 0 where
  pub answer_is : answer ≡ filling_of p entry
  pub number_is : number_of answer ≡ refusal_of p entry
  pub count_is : count_of answer ≡ count_after p entry
  pub lowest-is : lowest_of answer ≡ lowest_after p entry
  pub tables_are : exit ≡ filled_of p entry
