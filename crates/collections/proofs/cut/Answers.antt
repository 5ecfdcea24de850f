-- `collections::cut` meets its contract: the places below the bound are in the full set of so many. Assumes nothing.
use Rattle.collections.proofs.Upward.{cut-full}
use Rattle.collections.proofs.cut.Goals as goal

pub returns : goal.returns
returns c =
    let a = c.args in
    let n = c.part in
    let f = c.full in
    cut-full a.w a.sets a.k n.result f.result c.both.result n.ensures f.ensures c.both.ensures
