-- `trees::find_children` meets its contract: the list that is searched is that of the other verdict. Assumes nothing.
use Rattle.trees.proofs.find_children.Goals as goal

pub returns-then-verdict : goal.returns-then-verdict
returns-then-verdict c = rw c.if-verdict.true c.fill_children.ensures

pub returns : goal.returns
returns c = rw c.if-verdict.false c.fill_children-2.ensures
