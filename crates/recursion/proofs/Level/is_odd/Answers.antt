-- `recursion::Level::is_odd` meets its contract: an odd priority serves the plant. Assumes nothing.
use Rattle.games.specs.Games.{serves}
use borrow.Author.Rules.{rules}
use Rattle.recursion.proofs.Level.is_odd.Goals as goal

pub returns : goal.returns
unfolding serves
returns c = search rules
