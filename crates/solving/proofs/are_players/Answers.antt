-- `are_players` meets its contract. Assumes nothing.
use Prim.Native.Nat.{◌≤◌, ◌<◌}
use borrow.Author.Rules.{rules}
use borrow.Author.Tests.{tests}
use Rattle.std.proofs.lemmas.Iterator.{cases_from_all, YieldsList-from_slice}
use Rattle.solving.proofs.OwnersLaws.{players-searched}
use Rattle.solving.proofs.are_players.Goals as goal

pub returns : goal.returns
returns c =
    players-searched c.args.owners.now c.all.result
    (cases_from_all _ _ _ (λ x. x ≤ 1) (λ x. 1 < x) c.all.ensures.ran (YieldsList-from_slice c.args.owners.now cc) (λ x q k. search (rules, tests)) (λ x q k. search (rules, tests)))
