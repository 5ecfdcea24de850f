-- `translate` meets its contract. Assumes nothing.
use mathlib.Core.Path.{sym, ◌∙◌}
use Rattle.builder.proofs.TranslateLaws.{refused-seven}
use Rattle.builder.proofs.translate.Goals as goal

pub returns-then-not-is_legal : goal.returns-then-not-is_legal
returns-then-not-is_legal c =
    refused-seven c.args.p.now c.args.masks.now c.args.parents.now c.args.node_priorities.now c.args.sources.now c.args.leaves.now c.args.targets.now c.args.priorities.now (sym c.is_legal.ensures ∙ c.if-not-is_legal.true)
