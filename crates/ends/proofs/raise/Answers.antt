-- `raise` meets its contract. Assumes nothing.
use borrow.Author.Tests.{lt-ltb, le-ltb}
use Rattle.ends.specs.Raising.{raised_to}
use Rattle.ends.proofs.raise.Goals as goal

pub returns-then-ends-up : goal.returns-then-ends-up
unfolding raised_to
returns-then-ends-up c = simp (lt-ltb _ _ c.if-ends-up.true)

pub returns-else-ends-up : goal.returns-else-ends-up
unfolding raised_to
returns-else-ends-up c = simp (le-ltb _ _ c.if-ends-up.false)
