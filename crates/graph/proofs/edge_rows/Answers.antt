use mathlib.Core.Path.{sym}
use Prim.Native.Nat.{ℕ}
use native.Mathlib.Nat.{le_antisymm}
use native.Mathlib.Omega.{arith}
use Rattle.graph.proofs.CodeLaws.{row_within, row-states, edge-rows-none, edge-rows-more}
use mathlib.Core.Path.{◌∙◌, ap₂}
use mathlib.Core.List.{List}
use lib.ListN.{set}
use Rattle.graph.proofs.edge_rows.Goals as goal

pub loop-v-init : goal.loop-v-init
loop-v-init c = (omega arith, sym (edge-rows-none _ _ _ _))

pub edge_row-requires : goal.edge_row-requires
edge_row-requires c =
    let a = c.args in
    let v = c.loop-v.v in
    let lv = c.loop-v-test.true in
    (omega (arith, c.requires.1, row_within v a.states a.letters lv), row-states v a.states a.letters a.heads.now lv c.requires.2)

pub offset_bounds-rows-v : goal.offset_bounds-rows-v
offset_bounds-rows-v c = omega (arith, c.requires.0)

pub bounds-rows-v : goal.bounds-rows-v
bounds-rows-v c = omega (arith, c.requires.0)

pub loop-v-preserved : goal.loop-v-preserved
loop-v-preserved c =
    let a = c.args in
    let at = c.loop-v in (
      omega arith,
      ap₂ (λ (rows : List ℕ) (r : ℕ). set rows at.v r) at.invariant.1 c.edge_row.ensures
          ∙ sym (edge-rows-more a.rows.now a.heads.now a.letters a.m at.v),
    )

pub returns : goal.returns
returns c = cc (le_antisymm c.loop-v.invariant.0 c.loop-v-test.false)
