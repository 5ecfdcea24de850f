-- `collections::over` meets its contract: the words closed, joined and cut. Assumes nothing.
use Rattle.collections.proofs.Upward.{closed-first, over-one, over-four}
use Rattle.collections.proofs.over.Goals as goal

pub returns-then-sets-le64 : goal.returns-then-sets-le64
returns-then-sets-le64 c =
    over-one c.args.t.now c.args.quiet c.args.sets c.closed-a.result (closed-first c.args.t.now c.args.quiet c.first_if.result c.closed-a.result c.first_if.ensures c.closed-a.ensures) c.cut.result c.if-sets-le64.true c.cut.ensures

pub returns : goal.returns
returns c =
    let q = c.closed-b in
    let r = c.closed-c in
    let t = c.closed-d in
    let y₁ = c.cut-2 in
    let y₂ = c.cut-3 in
    let y₃ = c.cut-4 in
    over-four c.args.t.now c.args.quiet c.args.sets c.closed-a.result (closed-first c.args.t.now c.args.quiet c.first_if.result c.closed-a.result c.first_if.ensures c.closed-a.ensures) q.result r.result t.result (λ a b l k _. q.ensures a b l k) (λ a b l k _. r.ensures a b l k) (λ a b l k _. t.ensures a b l k) c.requires y₁.result y₂.result y₃.result y₁.ensures y₂.ensures y₃.ensures
