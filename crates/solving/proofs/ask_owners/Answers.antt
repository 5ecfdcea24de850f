-- `ask_owners` meets its contract: the first no decides. Assumes nothing.
use mathlib.Core.Path.{sym, ◌∙◌}
use borrow.Author.Tests.{eq-eqb, ne_eqb}
use Rattle.solving.proofs.OwnersLaws.{refused-sixteen, refused-seventeen, refused-neither}
use Rattle.solving.proofs.ask_owners.Goals as goal

pub returns-then-owners-states : goal.returns-then-owners-states
returns-then-owners-states c = let a = c.args in refused-sixteen a.states a.owners.now (ne_eqb _ _ c.if-owners-states.true)

pub returns-then-not-are_players : goal.returns-then-not-are_players
returns-then-not-are_players c =
    let a = c.args in
    refused-seventeen a.states a.owners.now (eq-eqb _ _ c.if-owners-states.false) (sym c.are_players.ensures ∙ c.if-not-are_players.true)

pub returns : goal.returns
returns c =
    let a = c.args in
    refused-neither a.states a.owners.now (eq-eqb _ _ c.if-owners-states.false) (sym c.are_players.ensures ∙ c.if-not-are_players.false)
