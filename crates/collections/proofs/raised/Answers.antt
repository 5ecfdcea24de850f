-- `collections::raised` meets its contract: a bit that stays in the word is moved. Assumes nothing.
use Rattle.collections.proofs.Upward.{raised}
use Rattle.collections.proofs.raised.Goals as goal

pub returns : goal.returns
returns c = raised c.args.w c.args.m c.args.by
