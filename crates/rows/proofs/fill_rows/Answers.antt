use native.Mathlib.Omega.{arith}
use Prim.Native.Nat.{ℕ, ◌*◌, ◌≤◌}
use native.Mathlib.Nat.{le_antisymm, mul-le-mul_right}
use mathlib.Core.Path.{sym, ap, ◌∙◌}
use Rattle.policy.proofs.Laws.{legal-counts}
use Rattle.rows.proofs.RowTables.{written_none, written-first, written-letter, written-state, all_edges, written_all}
use Rattle.rows.proofs.fill_rows.Goals as goal

pub loop-v-init : goal.loop-v-init
loop-v-init c = written-first _ _ _

pub loop-letter-init : goal.loop-letter-init
loop-letter-init c = written_none _ _ _ _

pub fill_edge-requires : goal.fill_edge-requires
fill_edge-requires c =
    let w = c.loop-v.invariant in
    let u = c.loop-letter.invariant in
    record {
      edge = (c.loop-v-test.true, c.loop-letter-test.true);
      room = (omega (arith, c.requires.0, w.targets_are.long, u.targets_are.long), omega (arith, c.requires.1, w.priorities_are.long, u.priorities_are.long));
    }

pub loop-letter-preserved : goal.loop-letter-preserved
loop-letter-preserved c = written-letter _ _ _ c.loop-letter.invariant c.fill_edge.ensures

pub loop-v-preserved : goal.loop-v-preserved
loop-v-preserved c = written-state _ _ _ c.loop-v.invariant c.loop-letter.invariant (le_antisymm c.loop-letter.auto.letter-end c.loop-letter-test.false)

pub overflow_mul-rows : goal.overflow_mul-rows
overflow_mul-rows c =
    let few : c.args.states.now.count ≤ 65535 = omega (arith, c.args.states.now.counted, c.args.states.now.few) in
    omega (arith, mul-le-mul_right c.args.states.now.forest.now.policy.now.letters few, (legal-counts c.args.states.now.forest.now.policy.now c.args.states.now.forest.now.lawful).letters_few)

pub shape_of-targets : goal.shape_of-targets
shape_of-targets c = c.clear_past.auto.t ∙ c.loop-v.invariant.targets_are.long

pub shape_of-priorities : goal.shape_of-priorities
shape_of-priorities c = c.clear_past-2.auto.t ∙ c.loop-v.invariant.priorities_are.long

pub returns : goal.returns
returns c =
    let states = c.args.states.now in
    let p = states.forest.now.policy.now in
    let all = written_all p states.forest.now.lawful c.loop-v.invariant (all_edges p _ c.loop-v-test.false) c.requires.0 c.requires.1 (ap (λ (n : ℕ). n * p.letters) (sym states.counted)) c.clear_past.ensures c.clear_past-2.ensures in
    record { targets = all.0; priorities = all.1 }
