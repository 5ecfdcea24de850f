-- `collections::closed` meets its contract: six steps. Assumes nothing.
use Rattle.collections.proofs.Upward.{closed}
use Rattle.collections.proofs.closed.Goals as goal

pub returns : goal.returns
returns c =
    let r₁ = c.raised-w1 in
    let r₂ = c.raised-w2 in
    let r₃ = c.raised-w3 in
    let r₄ = c.raised-w4 in
    let r₅ = c.raised-w5 in
    let r₆ = c.raised in
    closed c.args.w r₁.result r₂.result r₃.result r₄.result r₅.result r₆.result r₁.ensures r₂.ensures r₃.ensures r₄.ensures r₅.ensures r₆.ensures
