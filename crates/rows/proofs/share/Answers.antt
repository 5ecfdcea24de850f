-- `share` meets its contract. Assumes nothing.
use lib.Dec.{ltb, leb}
use Rattle.lists.proofs.Bools.{and_l, and_r, lt-true, le-true}
use Rattle.rows.proofs.share.Goals as goal

pub returns-then-last-leaf : goal.returns-then-last-leaf
returns-then-last-leaf c =
    let t = c.if-last-leaf.true in
    record {
      low = le-true c.args.last.from c.args.leaf (and_l (leb c.args.last.from c.args.leaf) (ltb c.args.leaf c.args.last.to) t);
      high = lt-true c.args.leaf c.args.last.to (and_r (leb c.args.last.from c.args.leaf) (ltb c.args.leaf c.args.last.to) t);
      all = c.requires.shared;
    }
