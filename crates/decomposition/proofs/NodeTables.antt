-- Node tables that hold the columns of the forest, and 0 past them: masks and parents as they are grown, what clearing past them leaves, and what filling the tables gives.
-- Assumes nothing.
use Prim.Native.Nat.{ℕ, ◌≤◌, ◌<◌, min}
use native.Mathlib.Omega.{arith}
use mathlib.Core.Path.{◌≡◌, refl, sym, ap, ap₂, ◌∙◌, subst}
use mathlib.Core.Bool.{Bool, cond}
use mathlib.Core.List.{List}
use lib.ListN.{length, take, length-take}
use lib.Seq.{sets}
use borrow.Author.Tests.{le-leb, lt-leb}
use Rattle.tables.specs.Tables.{padded, zeros, places, Column}
use Rattle.tables.proofs.Tables.{length-padded, take-padded}
use Rattle.tables.proofs.Columns.{column-padded, sets-cleared}
use Rattle.policy.specs.declared.Policy.{Policy}
use Rattle.forest.specs.Forest.{forest, transient_priority, node_masks, node_parents, node_priorities_of, forest_fits}
use Rattle.forest.proofs.Columns.{length-masks, length-parents}
use Rattle.roots.specs.Roots.{ForestWritten}
use Rattle.std.proofs.Common.{Some, None}
use Rattle.decomposition.specs.declared.Filled.{Filled}
use Rattle.decomposition.specs.NodeTables.{NodeColumns, node_tables, filling_of, refusal_of, count_after, lowest_after, filled_of, Fills}

abbrev filled : ℕ → ℕ → Filled
filled n k = record { count = n; transient = k }

-- ---- masks and parents as they are grown
-- in tables that were m₀ and q₀; beside them stands r₀
module _ {p : Policy} (m₀ q₀ r₀ : List ℕ) {m q : List ℕ} {n : ℕ} (lq : length q₀ ≡ length m₀) (lr : length r₀ ≡ length m₀) (g : ForestWritten p m₀ q₀ m q n) where
  -- the nodes fit
  module _ (h : n ≤ min (length m₀) 65535) where
    fits : length (forest p) ≤ min (length m₀) 65535
    fits = omega (arith, g.count_is)

    all-nodes : n ≡ length (forest p)
    all-nodes = omega (arith, g.count_is)

    grown-masks : m ≡ sets m₀ 0 (node_masks p)
    unfolding forest_fits places
    grown-masks = g.masks_are ∙ ap (λ (b : Bool). cond b (sets m₀ 0 (node_masks p)) (zeros m₀)) (le-leb (length (forest p)) (min (length m₀) 65535) fits)

    grown-parents : q ≡ sets q₀ 0 (node_parents p)
    unfolding forest_fits places
    grown-parents = g.parents_are ∙ ap (λ (b : Bool). cond b (sets q₀ 0 (node_parents p)) (zeros q₀)) (le-leb (length (forest p)) (min (length m₀) 65535) fits)

    -- each table was then cleared past the nodes
    module _ {m₁ q₁ r₁ : List ℕ} (em : m₁ ≡ padded (length m) (take n m)) (eq : q₁ ≡ padded (length q) (take n q)) (er : r₁ ≡ padded (length r₀) (take n r₀)) where
      padded-masks : m₁ ≡ padded (length m₀) (node_masks p)
      padded-masks = sets-cleared m₀ (node_masks p) grown-masks (length-masks p ∙ sym all-nodes) (omega (arith, fits, length-masks p)) em

      padded-parents : q₁ ≡ padded (length q₀) (node_parents p)
      padded-parents = sets-cleared q₀ (node_parents p) grown-parents (length-parents p ∙ sym all-nodes) (omega (arith, fits, length-parents p)) eq

      pub grown-columns : NodeColumns p m₁ q₁ n
      grown-columns = record {
        all = all-nodes;
        few = omega arith;
        masks_are = subst (Column (node_masks p)) (sym padded-masks) (column-padded (length m₀) (node_masks p) (omega (arith, fits, length-masks p)));
        parents_are = subst (Column (node_parents p)) (sym padded-parents) (column-padded (length q₀) (node_parents p) (omega (arith, fits, length-parents p)));
      }

      -- there are places for the priorities
      long-priorities : length r₁ ≡ length r₀
      long-priorities = ap length er ∙ length-padded (length r₀) (take n r₀) (omega (arith, length-take n r₀))

      pub grown-room : (n ≤ length r₁) × (r₁ ≡ padded (length r₁) (take n r₁))
      grown-room =
          let room : n ≤ length r₀ = omega arith in
          (omega (arith, room, long-priorities), er ∙ ap₂ padded (sym long-priorities) (sym (ap (take n) er ∙ take-padded (length r₀) n r₀ room)))

      pub filled-whole : {r : List ℕ} {k : ℕ} → k ≡ transient_priority p → r ≡ padded (length r₁) (node_priorities_of p) → Fills p (node_tables m₀ q₀ r₀) (Some (filled n k)) (node_tables m₁ q₁ r)
      unfolding filling_of refusal_of count_after lowest_after filled_of forest_fits places
      filled-whole {r} {k} ek e =
          let b = le-leb (length (forest p)) (min (length m₀) 65535) fits in
          let e' = e ∙ ap (λ (k : ℕ). padded k (node_priorities_of p)) long-priorities in
          record { answer_is = rw b (ap₂ (λ (n k : ℕ). Some (filled n k)) all-nodes ek); number_is = rw b refl; count_is = rw b all-nodes; lowest-is = rw b ek; tables_are = rw b (λ i. node_tables (padded-masks i) (padded-parents i) (e' i)) }

  -- there are more nodes than places
  pub filled_none : {r₁ : List ℕ} → r₁ ≡ zeros r₀ → min (length m₀) 65535 < n → Fills p (node_tables m₀ q₀ r₀) None (node_tables m q r₁)
  unfolding filling_of refusal_of count_after lowest_after filled_of forest_fits places
  filled_none er h =
      let b = lt-leb (length (forest p)) (min (length m₀) 65535) (omega (arith, g.count_is)) in
      let em = g.masks_are ∙ ap (λ (b : Bool). cond b (sets m₀ 0 (node_masks p)) (zeros m₀)) b in
      let eq = g.parents_are ∙ ap (λ (b : Bool). cond b (sets q₀ 0 (node_parents p)) (zeros q₀)) b in
      record { answer_is = rw b refl; number_is = rw b refl; count_is = rw b refl; lowest-is = rw b refl; tables_are = rw b (λ i. node_tables (em i) (eq i) (er i)) }
