use borrow.Author.Rules.{rules}
use Rattle.masks.specs.Masks.{minus}
use Rattle.masks.proofs.without.Goals as goal

pub returns : goal.returns
unfolding minus
returns c = search rules
