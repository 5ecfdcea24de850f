-- `begin` meets its contract. Assumes nothing.
use mathlib.Core.Path.{sym, ap, ◌∙◌}
use mathlib.Core.Bool.{Bool, false}
use mathlib.Core.List.{List}
use lib.ListN.{get_or}
use Rattle.policy.specs.Policies.{in_family}
use Rattle.listing.proofs.Turns.{begun-accepting, begun-rejecting}
use Rattle.listing.proofs.begin.Goals as goal

pub returns-then-g-used : goal.returns-then-g-used
unfolding in_family
returns-then-g-used c =
    let a = c.args in
    λ p lawful e f live are.
    begun-accepting p lawful a.g.now.by e a.root c.colours_in-used.result c.colours_in-used.ensures live are a.accepting.now a.accepted.now a.rejecting.now a.rejected.now c.requires.0 c.requires.1
    (ap (λ (l : List Bool). get_or l c.colours_in-used.result false) (sym f) ∙ c.if-g-used.true)

pub returns : goal.returns
unfolding in_family
returns c =
    let a = c.args in
    λ p lawful e f live are.
    begun-rejecting p lawful a.g.now.by e a.root c.colours_in-used.result c.colours_in-used.ensures live are a.accepting.now a.accepted.now a.rejecting.now a.rejected.now c.requires.2 c.requires.3
    (ap (λ (l : List Bool). get_or l c.colours_in-used.result false) (sym f) ∙ c.if-g-used.false)
