-- What the stages of translating answered and left: the node tables, and whether nodes and states fit. Assumes nothing.
use Prim.Native.Nat.{ℕ, ◌≤◌, min}
use native.Mathlib.Omega.{arith}
use mathlib.Core.Path.{◌≡◌, refl, sym, ap, ◌∙◌, subst}
use mathlib.Core.Bool.{Bool, true, false, cond}
use mathlib.Core.List.{List}
use lib.ListN.{length}
use Rattle.lists.proofs.Bools.{le-true}
use Rattle.tables.specs.Tables.{padded, zeros, Column, places}
use Rattle.tables.proofs.Columns.{column-padded}
use Rattle.policy.specs.declared.Policy.{Policy}
use Rattle.std.proofs.Common.{Option, Some, None}
use Rattle.decomposition.specs.declared.Filled.{Filled}
use Rattle.forest.specs.Forest.{forest, transient_priority, node_masks, node_parents, node_priorities_of, forest_fits}
use Rattle.decomposition.specs.NodeTables.{NodeTables, node_tables, filling_of, filled_of}
use Rattle.automaton.specs.Automaton.{built, start, built_fit}
use Rattle.automaton.specs.Stages.{Nodes}
use Rattle.forest.proofs.Columns.{length-masks, length-parents, length-node-priorities}
use Rattle.filling.specs.declared.Building.{Building}
use Rattle.filling.specs.Filling.{building_of}

pub fits-few : (p : Policy) (s₀ : List ℕ) → built_fit p s₀ ≡ true → length (built p) ≤ 65535
unfolding built_fit places
fits-few p s₀ f = let h : length (built p) ≤ min (length s₀) 65535 = le-true (length (built p)) (places s₀) f in omega arith

pub nodes-few : (p : Policy) (m₀ : List ℕ) → forest_fits p m₀ ≡ true → length (forest p) ≤ 65535
unfolding forest_fits places
nodes-few p m₀ f = let h : length (forest p) ≤ min (length m₀) 65535 = le-true (length (forest p)) (min (length m₀) 65535) f in omega arith

-- ---- what each stage answered
-- an answer by cases, where it is there and where it is not
some-by : {A : Type 0} {r : Option A} {x y : A} (b : Bool) → r ≡ cond b (Some y) None → r ≡ Some x → (b ≡ true) × (x ≡ y)
some-by true e d = let q : Some _ ≡ Some _ = sym d ∙ e in (refl, cc)
some-by false e d = let q : Some _ ≡ None = sym d ∙ e in absurd cc

none-by : {A : Type 0} {r : Option A} (y : A) (b : Bool) → r ≡ cond b (Some y) None → r ≡ None → b ≡ false
none-by y true e d = let q : Some _ ≡ None = sym e ∙ d in absurd cc
none-by y false e d = refl

module _ (p : Policy) (s₀ : List ℕ) {r : Option Building} (e : r ≡ building_of p s₀) where
  pub whole-fits : {b : Building} → r ≡ Some b → (built_fit p s₀ ≡ true) × (b.states ≡ length (built p)) × (b.start ≡ start p)
  unfolding building_of
  whole-fits d = let s = some-by (built_fit p s₀) e d in (s.0, ap (λ (b : Building). b.states) s.1, ap (λ (b : Building). b.start) s.1)

  pub none-fits : r ≡ None → built_fit p s₀ ≡ false
  unfolding building_of
  none-fits d = none-by _ (built_fit p s₀) e d

module _ (p : Policy) (m₀ q₀ r₀ : List ℕ) {r : Option Filled} (e : r ≡ filling_of p (node_tables m₀ q₀ r₀)) where
  pub nodes-fits : {f : Filled} → r ≡ Some f → (forest_fits p m₀ ≡ true) × (f.count ≡ length (forest p)) × (f.transient ≡ transient_priority p)
  unfolding filling_of
  nodes-fits d = let s = some-by (forest_fits p m₀) e d in (s.0, ap (λ (f : Filled). f.count) s.1, ap (λ (f : Filled). f.transient) s.1)

  pub nodes-none : r ≡ None → forest_fits p m₀ ≡ false
  unfolding filling_of
  nodes-none d = none-by _ (forest_fits p m₀) e d

-- ---- the node tables
module _ (p : Policy) (m₀ q₀ r₀ m q r : List ℕ) (e : node_tables m q r ≡ filled_of p (node_tables m₀ q₀ r₀)) where
  pub nodes-filled : forest_fits p m₀ ≡ true → (m ≡ padded (length m₀) (node_masks p)) × (q ≡ padded (length q₀) (node_parents p)) × (r ≡ padded (length r₀) (node_priorities_of p))
  unfolding filled_of
  nodes-filled t =
      let d : node_tables m q r ≡ node_tables (padded (length m₀) (node_masks p)) (padded (length q₀) (node_parents p)) (padded (length r₀) (node_priorities_of p)) = e ∙ rw t refl in
      (ap (λ (x : NodeTables). x.masks) d, ap (λ (x : NodeTables). x.parents) d, ap (λ (x : NodeTables). x.node_priorities) d)

  pub nodes-cleared : forest_fits p m₀ ≡ false → (m ≡ zeros m₀) × (q ≡ zeros q₀) × (r ≡ zeros r₀)
  unfolding filled_of
  nodes-cleared f =
      let d : node_tables m q r ≡ node_tables (zeros m₀) (zeros q₀) (zeros r₀) = e ∙ rw f refl in
      (ap (λ (x : NodeTables). x.masks) d, ap (λ (x : NodeTables). x.parents) d, ap (λ (x : NodeTables). x.node_priorities) d)

  pub nodes-are : forest_fits p m₀ ≡ true → length q₀ ≡ length m₀ → length r₀ ≡ length m₀ → Nodes p m q r
  unfolding forest_fits places
  nodes-are t lq lr = record {
    few = omega (arith, few);
    masks_are = subst (Column (node_masks p)) (sym f.0) (column-padded (length m₀) (node_masks p) (omega (arith, few, length-masks p)));
    parents_are = subst (Column (node_parents p)) (sym f.1) (column-padded (length q₀) (node_parents p) (omega (arith, few, length-parents p)));
    node_priorities_are = subst (Column (node_priorities_of p)) (sym f.2) (column-padded (length r₀) (node_priorities_of p) (omega (arith, few, length-node-priorities p)));
  }
    where
      few : length (forest p) ≤ min (length m₀) 65535
      few = le-true (length (forest p)) (min (length m₀) 65535) t

      f : (m ≡ padded (length m₀) (node_masks p)) × (q ≡ padded (length q₀) (node_parents p)) × (r ≡ padded (length r₀) (node_priorities_of p))
      f = nodes-filled t
