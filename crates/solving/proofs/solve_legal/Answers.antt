-- `solve_legal` meets its contract: where the two new tables have other lengths, where the answer is translating's, and where the owners are refused. Assumes nothing.
use mathlib.Core.Path.{sym, ap₂, ◌∙◌}
use mathlib.Core.Bool.{◌||◌}
use Rattle.builder.specs.Tables.{tables}
use Rattle.solving.proofs.SolveLaws.{SameLengths, refused-eight, is-ready, answered, refused-owners, held-cleared}
use Rattle.solving.proofs.solve_legal.Goals as goal

pub returns-then-not-lengths_fit : goal.returns-then-not-lengths_fit
returns-then-not-lengths_fit c =
    let a = c.args in
    let t = tables a.masks.now a.parents.now a.node_priorities.now a.sources.now a.leaves.now a.targets.now a.priorities.now in
    refused-eight c.args.p.now a.owners.now t a.winners.now a.letters.now c.requires c.if-not-lengths_fit.true

pub decide-decision-requires : goal.decide-decision-requires
decide-decision-requires c =
    let a = c.args in
    let t = tables a.masks.now a.parents.now a.node_priorities.now a.sources.now a.leaves.now a.targets.now a.priorities.now in
    let u = c.translate_legal-answer.new in
    let after = tables u.masks u.parents u.node_priorities u.sources u.leaves u.targets u.priorities in
    let k = c.translate_legal-answer.auto in
    let kept : SameLengths t after = record {
      masks_long = k.masks;
      parents_long = k.parents;
      node_priorities_long = k.node_priorities;
      sources_long = k.sources;
      leaves_long = k.leaves;
      targets_long = k.targets;
      priorities_long = k.priorities;
    } in
    let r = is-ready c.args.p.now a.owners.now t a.winners.now a.letters.now c.requires c.if-not-lengths_fit.false after c.translate_legal-answer.ensures kept in
    record { policy = c.requires; tables = r }

pub returns-then-is_err-is_ok : goal.returns-then-is_err-is_ok
returns-then-is_err-is_ok c =
    let a = c.args in
    let t = tables a.masks.now a.parents.now a.node_priorities.now a.sources.now a.leaves.now a.targets.now a.priorities.now in
    let u = c.translate_legal-answer.new in
    let after = tables u.masks u.parents u.node_priorities u.sources u.leaves u.targets u.priorities in
    answered c.args.p.now a.owners.now t a.winners.now a.letters.now c.requires c.if-not-lengths_fit.false after c.translate_legal-answer.ensures c.decide-decision.ensures (ap₂ ◌||◌ (sym c.is_err.ensures.value) (sym c.is_ok.ensures.value) ∙ c.if-is_err-is_ok.true)

pub returns : goal.returns
returns c =
    let a = c.args in
    let t = tables a.masks.now a.parents.now a.node_priorities.now a.sources.now a.leaves.now a.targets.now a.priorities.now in
    let u = c.translate_legal-answer.new in
    let after = tables u.masks u.parents u.node_priorities u.sources u.leaves u.targets u.priorities in
    let k = c.translate_legal-answer.auto in
    let kept : SameLengths t after = record {
      masks_long = k.masks;
      parents_long = k.parents;
      node_priorities_long = k.node_priorities;
      sources_long = k.sources;
      leaves_long = k.leaves;
      targets_long = k.targets;
      priorities_long = k.priorities;
    } in
    let seven = held-cleared c.args.p.now after c.clear.ensures c.clear-2.ensures c.clear-3.ensures c.clear_built.ensures in
    refused-owners c.args.p.now a.owners.now t a.winners.now a.letters.now c.requires c.if-not-lengths_fit.false after c.translate_legal-answer.ensures c.decide-decision.ensures (ap₂ ◌||◌ (sym c.is_err.ensures.value) (sym c.is_ok.ensures.value) ∙ c.if-is_err-is_ok.false) kept seven
