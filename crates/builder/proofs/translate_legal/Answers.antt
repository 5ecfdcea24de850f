-- `translate_legal` meets its contract: where the lengths do not belong together, where the nodes do not fit, where the states do not, and where all fits.
-- Assumes nothing.
use native.Mathlib.Omega.{arith}
use mathlib.Core.Path.{◌≡◌, sym, ◌∙◌}
use mathlib.Core.Bool.{Bool}
use mathlib.Core.List.{List}
use Prim.Native.Nat.{ℕ}
use lib.ListN.{length}
use Rattle.tables.proofs.Tables.{zeros-same}
use Rattle.policy.specs.declared.Policy.{Policy}
use Rattle.policy.proofs.Laws.{legal-counts}
use Rattle.builder.specs.Tables.{sizes_fit, lengths_fit, tables}
use Rattle.builder.proofs.StageLaws.{fits-few, nodes-few, whole-fits, none-fits, nodes-fits, nodes-none, nodes-are}
use Rattle.builder.proofs.TranslateLaws.{fit-lengths, refused-eight, refused-nine, refused-ten, all-translated}
use Rattle.builder.proofs.translate_legal.Goals as goal

-- what the test of the lengths tells of the tables
fit-by : (p : Policy) (m q r s l t k : List ℕ) {b w : Bool} → b ≡ sizes_fit p.letters (length m) (length q) (length r) (length s) (length l) (length t) (length k) → b ≡ w
    → lengths_fit p (tables m q r s l t k) ≡ w
unfolding lengths_fit
fit-by p m q r s l t k e f = sym e ∙ f

pub has_fitting_lengths-requires : goal.has_fitting_lengths-requires
has_fitting_lengths-requires c =
    let a = c.args in
    let m = c.args.p.now in
    let lawful = c.requires in
    (legal-counts m lawful).letters_some

pub returns-then-not-has_fitting_lengths : goal.returns-then-not-has_fitting_lengths
returns-then-not-has_fitting_lengths c =
    let a = c.args in
    let m = c.args.p.now in
    let lawful = c.requires in
    (refused-eight m a.masks.now a.parents.now a.node_priorities.now a.sources.now a.leaves.now a.targets.now a.priorities.now lawful (fit-by m a.masks.now a.parents.now a.node_priorities.now a.sources.now a.leaves.now a.targets.now a.priorities.now c.has_fitting_lengths.ensures c.if-not-has_fitting_lengths.true))

pub fill_nodes-requires : goal.fill_nodes-requires
fill_nodes-requires c =
    let a = c.args in
    let m = c.args.p.now in
    let lawful = c.requires in
    let fit = fit-by m a.masks.now a.parents.now a.node_priorities.now a.sources.now a.leaves.now a.targets.now a.priorities.now c.has_fitting_lengths.ensures c.if-not-has_fitting_lengths.false in
    let z = fit-lengths m a.masks.now a.parents.now a.node_priorities.now a.sources.now a.leaves.now a.targets.now a.priorities.now fit in
    (lawful, z.0, z.1)

pub returns-in_default : goal.returns-in_default
returns-in_default c =
    let a = c.args in
    let m = c.args.p.now in
    let lawful = c.requires in
    let fit = fit-by m a.masks.now a.parents.now a.node_priorities.now a.sources.now a.leaves.now a.targets.now a.priorities.now c.has_fitting_lengths.ensures c.if-not-has_fitting_lengths.false in
    let f = nodes-none m a.masks.now a.parents.now a.node_priorities.now c.fill_nodes.ensures.answer_is c.in_default.is in
    (refused-nine m a.masks.now a.parents.now a.node_priorities.now a.sources.now a.leaves.now a.targets.now a.priorities.now lawful fit _ _ _ _ _ _ _ f c.fill_nodes.ensures.tables_are c.clear_built.ensures)

pub build-requires : goal.build-requires
build-requires c =
    let a = c.args in
    let m = c.args.p.now in
    let lawful = c.requires in
    let fit = fit-by m a.masks.now a.parents.now a.node_priorities.now a.sources.now a.leaves.now a.targets.now a.priorities.now c.has_fitting_lengths.ensures c.if-not-has_fitting_lengths.false in
    let z = fit-lengths m a.masks.now a.parents.now a.node_priorities.now a.sources.now a.leaves.now a.targets.now a.priorities.now fit in
    let f = nodes-fits m a.masks.now a.parents.now a.node_priorities.now c.fill_nodes.ensures.answer_is c.in-Some.is in
    record { nodes = f.1; room = z.2 }

pub invariant_of-nodes : goal.invariant_of-nodes
invariant_of-nodes c =
    let a = c.args in
    let m = c.args.p.now in
    let lawful = c.requires in
    let fit = fit-by m a.masks.now a.parents.now a.node_priorities.now a.sources.now a.leaves.now a.targets.now a.priorities.now c.has_fitting_lengths.ensures c.if-not-has_fitting_lengths.false in
    let z = fit-lengths m a.masks.now a.parents.now a.node_priorities.now a.sources.now a.leaves.now a.targets.now a.priorities.now fit in
    let f = nodes-fits m a.masks.now a.parents.now a.node_priorities.now c.fill_nodes.ensures.answer_is c.in-Some.is in
    record { lawful = lawful; nodes = nodes-are m a.masks.now a.parents.now a.node_priorities.now _ _ _ c.fill_nodes.ensures.tables_are f.0 z.0 z.1; lowest = f.2 }

pub returns-in_default-build : goal.returns-in_default-build
returns-in_default-build c =
    let a = c.args in
    let m = c.args.p.now in
    let lawful = c.requires in
    let fit = fit-by m a.masks.now a.parents.now a.node_priorities.now a.sources.now a.leaves.now a.targets.now a.priorities.now c.has_fitting_lengths.ensures c.if-not-has_fitting_lengths.false in
    let f = nodes-fits m a.masks.now a.parents.now a.node_priorities.now c.fill_nodes.ensures.answer_is c.in-Some.is in
    let none = none-fits m a.sources.now c.build.ensures.answer_is c.in_default-build.is in
    (refused-ten m a.masks.now a.parents.now a.node_priorities.now a.sources.now a.leaves.now a.targets.now a.priorities.now lawful fit _ _ _ _ _ _ _ f.0 none (
      c.clear.ensures ∙ zeros-same _ a.masks.now c.fill_nodes.auto.masks,
      c.clear-in_default-build.ensures ∙ zeros-same _ a.parents.now c.fill_nodes.auto.parents,
      c.clear-in_default-build-2.ensures ∙ zeros-same _ a.node_priorities.now c.fill_nodes.auto.node_priorities,
    ) c.build.ensures)

pub overflow_cast-result : goal.overflow_cast-result
overflow_cast-result c =
    let a = c.args in
    let m = c.args.p.now in
    let lawful = c.requires in
    let f = nodes-fits m a.masks.now a.parents.now a.node_priorities.now c.fill_nodes.ensures.answer_is c.in-Some.is in
    omega (arith, f.1, nodes-few m a.masks.now f.0)

pub overflow_cast-result-2 : goal.overflow_cast-result-2
overflow_cast-result-2 c =
    let a = c.args in
    let m = c.args.p.now in
    let lawful = c.requires in
    let w = whole-fits m a.sources.now c.build.ensures.answer_is c.in-Some-build.is in
    omega (arith, w.1, fits-few m a.sources.now w.0)

pub returns : goal.returns
returns c =
    let a = c.args in
    let m = c.args.p.now in
    let lawful = c.requires in
    let fit = fit-by m a.masks.now a.parents.now a.node_priorities.now a.sources.now a.leaves.now a.targets.now a.priorities.now c.has_fitting_lengths.ensures c.if-not-has_fitting_lengths.false in
    let f = nodes-fits m a.masks.now a.parents.now a.node_priorities.now c.fill_nodes.ensures.answer_is c.in-Some.is in
    let w = whole-fits m a.sources.now c.build.ensures.answer_is c.in-Some-build.is in
    (all-translated m a.masks.now a.parents.now a.node_priorities.now a.sources.now a.leaves.now a.targets.now a.priorities.now lawful fit _ _ _ _ _ _ _ f.0 f.1 w.0 w.1 w.2 c.fill_nodes.ensures.tables_are c.build.ensures)
