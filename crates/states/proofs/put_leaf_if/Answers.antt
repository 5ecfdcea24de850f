-- `states::put_leaf_if` meets its contract. Assumes nothing.
use Rattle.tables.proofs.Stores.{stored-none, stored_one}
use Rattle.states.proofs.put_leaf_if.Goals as goal

pub returns-then-b : goal.returns-then-b
returns-then-b c =
    rw (c.if-b.true, c.put.ensures) (stored_one c.args.t.now c.args.at c.args.x)

pub returns : goal.returns
returns c = rw c.if-b.false (stored-none c.args.t.now c.args.at)
