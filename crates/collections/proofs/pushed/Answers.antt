-- `collections::pushed` meets its contract: a bit that stays in the word is one place higher. Assumes nothing.
use Rattle.collections.proofs.Upward.{pushed}
use Rattle.collections.proofs.pushed.Goals as goal

pub returns : goal.returns
returns c = pushed c.args.w c.args.b
