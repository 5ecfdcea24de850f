use native.Mathlib.Omega.{arith}
use mathlib.Core.Path.{◌∙◌}
use Rattle.policy.proofs.Laws.{legal-counts}
use Rattle.tables.proofs.Stores.{stored-length}
use Rattle.states.proofs.StatesBelow.{written_none, written-more, filled-fit, filled-not}
use Rattle.states.proofs.fill_states.Goals as goal

pub loop-v-init : goal.loop-v-init
loop-v-init c = written_none c.args.nodes.now.policy.now c.args.sources.now c.args.leaves.now c.args.starts.now

pub fill_over-next-requires : goal.fill_over-next-requires
fill_over-next-requires c = (c.loop-v-test.true, omega (arith, c.loop-v.invariant.few, (legal-counts c.args.nodes.now.policy.now c.args.nodes.now.lawful).states_few))

pub fill_sources-requires : goal.fill_sources-requires
fill_sources-requires c = (omega (arith, c.fill_over-next.ensures.0.next_is), omega (arith, (legal-counts c.args.nodes.now.policy.now c.args.nodes.now.lawful).states_few))

pub overflow_add-starts : goal.overflow_add-starts
overflow_add-starts c = omega (arith, (legal-counts c.args.nodes.now.policy.now c.args.nodes.now.lawful).states_few)

pub offset_bounds-starts-v : goal.offset_bounds-starts-v
offset_bounds-starts-v c = omega (arith, (legal-counts c.args.nodes.now.policy.now c.args.nodes.now.lawful).states_few)

pub bounds-starts-v : goal.bounds-starts-v
bounds-starts-v c = omega (arith, (legal-counts c.args.nodes.now.policy.now c.args.nodes.now.lawful).states_few)

pub overflow_step-v : goal.overflow_step-v
overflow_step-v c = omega (arith, (legal-counts c.args.nodes.now.policy.now c.args.nodes.now.lawful).states_few)

pub loop-v-preserved : goal.loop-v-preserved
loop-v-preserved c =
    let l = c.loop-v in
    let o = c.fill_over-next in
    written-more c.args.nodes.now.policy.now _ _ _ l.sources l.leaves l.starts l.v l.at l.invariant c.loop-v-test.true _ _ o.result o.ensures.0 o.ensures.1 c.fill_sources.ensures

pub shape_of-sources-then-at-sources : goal.shape_of-sources-then-at-sources
shape_of-sources-then-at-sources c = c.clear_past.auto.t ∙ stored-length c.loop-v.invariant.sources_are

pub shape_of-leaves-then-at-sources : goal.shape_of-leaves-then-at-sources
shape_of-leaves-then-at-sources c = c.clear_past-then-at-sources.auto.t ∙ stored-length c.loop-v.invariant.leaves_are

pub returns-then-at-sources : goal.returns-then-at-sources
returns-then-at-sources c =
    let a = c.args in
    filled-fit a.nodes.now.policy.now a.sources.now a.leaves.now a.starts.now _ _ _ _ _ c.loop-v.invariant c.loop-v-test.false c.requires c.if-at-sources.true c.clear_past.ensures c.clear_past-then-at-sources.ensures

pub shape_of-sources : goal.shape_of-sources
shape_of-sources c = c.clear.auto.t ∙ stored-length c.loop-v.invariant.sources_are

pub shape_of-leaves : goal.shape_of-leaves
shape_of-leaves c = c.clear-2.auto.t ∙ stored-length c.loop-v.invariant.leaves_are

pub returns : goal.returns
returns c =
    let a = c.args in
    filled-not a.nodes.now.policy.now a.sources.now a.leaves.now a.starts.now _ _ _ _ _ c.loop-v.invariant c.loop-v-test.false c.requires c.if-at-sources.false c.clear.ensures c.clear-2.ensures
