-- `collections::others` meets its contract, word by word. Assumes nothing.
use Rattle.collections.proofs.Upward.{lacked-words}
use Rattle.collections.proofs.others.Goals as goal

pub returns : goal.returns
returns c =
    let t = c.args.t.now in
    let a = c.lacked in
    let b = c.lacked-2 in
    let d = c.lacked-3 in
    let e = c.lacked-4 in
    lacked-words t a.result b.result d.result e.result a.ensures b.ensures d.ensures e.ensures
