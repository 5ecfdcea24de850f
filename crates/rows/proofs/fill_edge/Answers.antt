use Rattle.rows.specs.declared.States.{States}
use Prim.Native.Nat.{◌+◌, ◌<◌}
use native.Mathlib.Omega.{arith}
use Rattle.automaton.specs.Stages.{first_over}
use Rattle.rows.proofs.RowTables.{EdgeGiven, edge_in, edge-place, source-small, source-low, source-high, head_small, target-low, target-high, edge-rows-none, edge-rows-small, edge-rows-leaf, edge-rows-in, edge-rows-more, edge-rows-all}
use Rattle.std.proofs.Common.{ℕ, refl, ◌*◌, ◌≤◌, List, length}
use Rattle.policy.specs.declared.Policy.{Policy}
use Rattle.automaton.specs.Automaton.{built}
use Rattle.rows.proofs.fill_edge.Goals as goal

given : (s : States) (v a : ℕ) (targets priorities : List ℕ) → let p : Policy = s.forest.now.policy.now in (v < p.states) × (a < p.letters)
    → (p.letters * length (built p) ≤ length targets) × (p.letters * length (built p) ≤ length priorities)
    → EdgeGiven p v a p.target s.leaves.now s.starts.now targets priorities
given s v a targets priorities edge room = record {
  lawful = s.forest.now.lawful;
  state_in = edge.0;
  letter_in = edge.1;
  heads_are = refl;
  few = s.few;
  leaves_are = s.leaved;
  starts_are = s.started;
  targets_long = room.0;
  priorities_long = room.1;
}

pub overflow_mul-e : goal.overflow_mul-e
overflow_mul-e c =
    let g = given c.args.states.now c.args.v c.args.letter c.args.targets.now c.args.priorities.now c.requires.edge c.requires.room in
    omega (arith, edge-place g)

pub overflow_add-e : goal.overflow_add-e
overflow_add-e c =
    let g = given c.args.states.now c.args.v c.args.letter c.args.targets.now c.args.priorities.now c.requires.edge c.requires.room in
    omega (arith, edge-place g)

pub bounds-p-e : goal.bounds-p-e
bounds-p-e c =
    let g = given c.args.states.now c.args.v c.args.letter c.args.targets.now c.args.priorities.now c.requires.edge c.requires.room in
    edge-place g

pub states_over-over-requires : goal.states_over-over-requires
states_over-over-requires c =
    let g = given c.args.states.now c.args.v c.args.letter c.args.targets.now c.args.priorities.now c.requires.edge c.requires.room in
    head_small g refl

pub states_over-own-requires : goal.states_over-own-requires
states_over-own-requires c =
    let g = given c.args.states.now c.args.v c.args.letter c.args.targets.now c.args.priorities.now c.requires.edge c.requires.room in
    source-small g

pub loop-s-init : goal.loop-s-init
loop-s-init c =
    let g = given c.args.states.now c.args.v c.args.letter c.args.targets.now c.args.priorities.now c.requires.edge c.requires.room in
    (edge-rows-none g (source-low g c.states_over-own.ensures.0 c.states_over-own.ensures.1), λ l x y. absurd (omega arith))

pub offset_bounds-states-s : goal.offset_bounds-states-s
offset_bounds-states-s c =
    let g = given c.args.states.now c.args.v c.args.letter c.args.targets.now c.args.priorities.now c.requires.edge c.requires.room in
    let stands : c.loop-s.s < first_over c.args.states.now.forest.now.policy.now (c.args.v + 1) = omega (arith, c.loop-s-test.true, source-high g c.states_over-own.ensures.0 c.states_over-own.ensures.1) in
    omega (arith, edge-rows-small g c.loop-s.invariant.0 stands)

pub bounds-states-s : goal.bounds-states-s
bounds-states-s c =
    let g = given c.args.states.now c.args.v c.args.letter c.args.targets.now c.args.priorities.now c.requires.edge c.requires.room in
    let stands : c.loop-s.s < first_over c.args.states.now.forest.now.policy.now (c.args.v + 1) = omega (arith, c.loop-s-test.true, source-high g c.states_over-own.ensures.0 c.states_over-own.ensures.1) in
    (edge-rows-small g c.loop-s.invariant.0 stands).0

pub share-row-requires : goal.share-row-requires
share-row-requires c =
    let g = given c.args.states.now c.args.v c.args.letter c.args.targets.now c.args.priorities.now c.requires.edge c.requires.room in
    let stands : c.loop-s.s < first_over c.args.states.now.forest.now.policy.now (c.args.v + 1) = omega (arith, c.loop-s-test.true, source-high g c.states_over-own.ensures.0 c.states_over-own.ensures.1) in
    let o = c.states_over-over.ensures in
    record { place = (edge_in g, edge-rows-leaf g c.loop-s.invariant.0 stands refl); over = (target-low g refl o.0, target-high g refl o.1); shared = c.loop-s.invariant.1 }

pub overflow_mul-i : goal.overflow_mul-i
overflow_mul-i c =
    let g = given c.args.states.now c.args.v c.args.letter c.args.targets.now c.args.priorities.now c.requires.edge c.requires.room in
    let stands : c.loop-s.s < first_over c.args.states.now.forest.now.policy.now (c.args.v + 1) = omega (arith, c.loop-s-test.true, source-high g c.states_over-own.ensures.0 c.states_over-own.ensures.1) in
    omega (arith, (edge-rows-in g c.loop-s.invariant.0 stands).2)

pub overflow_add-i : goal.overflow_add-i
overflow_add-i c =
    let g = given c.args.states.now c.args.v c.args.letter c.args.targets.now c.args.priorities.now c.requires.edge c.requires.room in
    let stands : c.loop-s.s < first_over c.args.states.now.forest.now.policy.now (c.args.v + 1) = omega (arith, c.loop-s-test.true, source-high g c.states_over-own.ensures.0 c.states_over-own.ensures.1) in
    omega (arith, (edge-rows-in g c.loop-s.invariant.0 stands).2)

pub offset_bounds-targets-i : goal.offset_bounds-targets-i
offset_bounds-targets-i c =
    let g = given c.args.states.now c.args.v c.args.letter c.args.targets.now c.args.priorities.now c.requires.edge c.requires.room in
    let stands : c.loop-s.s < first_over c.args.states.now.forest.now.policy.now (c.args.v + 1) = omega (arith, c.loop-s-test.true, source-high g c.states_over-own.ensures.0 c.states_over-own.ensures.1) in
    omega (arith, (edge-rows-in g c.loop-s.invariant.0 stands).2)

pub bounds-targets-i : goal.bounds-targets-i
bounds-targets-i c =
    let g = given c.args.states.now c.args.v c.args.letter c.args.targets.now c.args.priorities.now c.requires.edge c.requires.room in
    let stands : c.loop-s.s < first_over c.args.states.now.forest.now.policy.now (c.args.v + 1) = omega (arith, c.loop-s-test.true, source-high g c.states_over-own.ensures.0 c.states_over-own.ensures.1) in
    (edge-rows-in g c.loop-s.invariant.0 stands).0

pub bounds-priorities-i : goal.bounds-priorities-i
bounds-priorities-i c =
    let g = given c.args.states.now c.args.v c.args.letter c.args.targets.now c.args.priorities.now c.requires.edge c.requires.room in
    let stands : c.loop-s.s < first_over c.args.states.now.forest.now.policy.now (c.args.v + 1) = omega (arith, c.loop-s-test.true, source-high g c.states_over-own.ensures.0 c.states_over-own.ensures.1) in
    (edge-rows-in g c.loop-s.invariant.0 stands).1

pub overflow_step-s : goal.overflow_step-s
overflow_step-s c =
    let g = given c.args.states.now c.args.v c.args.letter c.args.targets.now c.args.priorities.now c.requires.edge c.requires.room in
    let stands : c.loop-s.s < first_over c.args.states.now.forest.now.policy.now (c.args.v + 1) = omega (arith, c.loop-s-test.true, source-high g c.states_over-own.ensures.0 c.states_over-own.ensures.1) in
    omega (arith, (edge-rows-small g c.loop-s.invariant.0 stands).1)

pub loop-s-smaller : goal.loop-s-smaller
loop-s-smaller c = omega (arith, c.loop-s-test.true)

pub loop-s-preserved : goal.loop-s-preserved
loop-s-preserved c =
    let g = given c.args.states.now c.args.v c.args.letter c.args.targets.now c.args.priorities.now c.requires.edge c.requires.room in
    let stands : c.loop-s.s < first_over c.args.states.now.forest.now.policy.now (c.args.v + 1) = omega (arith, c.loop-s-test.true, source-high g c.states_over-own.ensures.0 c.states_over-own.ensures.1) in
    let r = c.share-row.ensures in
    (edge-rows-more g c.loop-s.invariant.0 stands refl (r.all _ r.low r.high), r.all)

pub shape_of-targets : goal.shape_of-targets
shape_of-targets c = c.loop-s.invariant.0.targets_are.long

pub shape_of-priorities : goal.shape_of-priorities
shape_of-priorities c = c.loop-s.invariant.0.priorities_are.long

pub returns : goal.returns
returns c =
    let g = given c.args.states.now c.args.v c.args.letter c.args.targets.now c.args.priorities.now c.requires.edge c.requires.room in
    edge-rows-all g c.loop-s.invariant.0 (omega (arith, c.loop-s-test.false, source-high g c.states_over-own.ensures.0 c.states_over-own.ensures.1))
