-- `turn` meets its contract, word by word. Assumes nothing.
use native.Mathlib.Omega.{arith}
use mathlib.Core.Path.{ap, ◌∙◌}
use Prim.Native.Nat.{◌<◌}
use Rattle.graph.specs.Through.{join_row}
use Rattle.steps.specs.Steps.{row_at}
use Rattle.steps.proofs.WordRows.{row-few, rows-joined}
use Rattle.steps.proofs.turn.Goals as goal

pub joined-requires : goal.joined-requires
joined-requires c =
    let pivot-few : c.row_at-pivot.result < 65536 =
    let w = c.args.w in omega (arith, c.row_at-pivot.ensures, row-few w.a w.b w.c w.d c.args.k) in
    (c.requires, pivot-few)

pub joined-requires-2 : goal.joined-requires-2
joined-requires-2 c =
    let pivot-few : c.row_at-pivot.result < 65536 =
    let w = c.args.w in omega (arith, c.row_at-pivot.ensures, row-few w.a w.b w.c w.d c.args.k) in
    (c.requires, pivot-few)

pub joined-requires-3 : goal.joined-requires-3
joined-requires-3 c =
    let pivot-few : c.row_at-pivot.result < 65536 =
    let w = c.args.w in omega (arith, c.row_at-pivot.ensures, row-few w.a w.b w.c w.d c.args.k) in
    (c.requires, pivot-few)

pub joined-requires-4 : goal.joined-requires-4
joined-requires-4 c =
    let pivot-few : c.row_at-pivot.result < 65536 =
    let w = c.args.w in omega (arith, c.row_at-pivot.ensures, row-few w.a w.b w.c w.d c.args.k) in
    (c.requires, pivot-few)

pub returns : goal.returns
returns c =
    let w = c.args.w in
    let k = c.args.k in
    λ v l.
    rows-joined w.a w.b w.c w.d c.joined.result c.joined-2.result c.joined-3.result c.joined-4.result k c.row_at-pivot.result
    c.joined.ensures c.joined-2.ensures c.joined-3.ensures c.joined-4.ensures v
    ∙ ap (join_row (row_at w.a w.b w.c w.d v) k) c.row_at-pivot.ensures
