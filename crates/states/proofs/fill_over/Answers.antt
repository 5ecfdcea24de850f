-- `states::fill_over` meets its contract. Assumes nothing.
use native.Mathlib.Omega.{arith}
use Rattle.states.proofs.StatesBelow.{over_none, over-some}
use Rattle.states.proofs.fill_over.Goals as goal

pub returns-then-next-at : goal.returns-then-next-at
returns-then-next-at c =
    (over_none c.args.nodes.now.policy.now c.args.v c.args.leaves.now _ c.args.at c.fill_leaves-next.result c.args.nodes.now.count c.args.nodes.now.counted c.fill_leaves-next.ensures.0 (omega (arith, c.if-next-at.true, c.fill_leaves-next.ensures.0.next_is)) c.put.new.t c.put.ensures, omega arith)

pub returns : goal.returns
returns c =
    (over-some c.args.nodes.now.policy.now c.args.v c.args.leaves.now _ c.args.at c.fill_leaves-next.result c.args.nodes.now.count c.args.nodes.now.counted c.fill_leaves-next.ensures.0 (λ e. omega (arith, e, c.if-next-at.false)), omega (arith, c.fill_leaves-next.ensures.1))
