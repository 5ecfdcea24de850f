use Rattle.std.proofs.Common.{◌∙◌, sym, arith, replicate}
use Rattle.std.proofs.lemmas.List.Edits.{paste_none}
use Rattle.tables.proofs.Clearing.{filling_more, filled}
use Rattle.tables.proofs.clear.Goals as goal

pub loop-x-init : goal.loop-x-init
loop-x-init g c = (omega arith, paste_none c.args.t.now 0 (replicate 0 g.T.Entry.ZERO))

pub loop-x-preserved : goal.loop-x-preserved
loop-x-preserved g c = (omega arith, filling_more c.args.t.now _ _ _ _ (omega arith) c.ZERO.ensures c.loop-x.invariant.1)

pub returns : goal.returns
returns g c = filled c.args.t.now c.loop-x.t c.loop-x.x-index g.T.Entry.ZERO (omega arith) (omega arith) c.loop-x.invariant.1 ∙ sym (g.T.Entry.zeros_is c.args.t.now)
