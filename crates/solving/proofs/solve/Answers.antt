use mathlib.Core.Path.{sym, ◌∙◌}
use Rattle.builder.specs.Tables.{tables}
use Rattle.solving.proofs.SolveLaws.{refused-seven}
use Rattle.solving.proofs.solve.Goals as goal

pub returns-then-not-is_legal : goal.returns-then-not-is_legal
returns-then-not-is_legal c =
    let a = c.args in
    let t = tables a.masks.now a.parents.now a.node_priorities.now a.sources.now a.leaves.now a.targets.now a.priorities.now in
    refused-seven a.p.now a.owners.now t a.winners.now a.letters.now (sym c.is_legal.ensures ∙ c.if-not-is_legal.true)
