use Prim.Native.Nat.{◌<◌}
use native.Mathlib.Nat.{le_antisymm}
use native.Mathlib.Omega.{arith}
use lib.ListN.{get_or}
use Rattle.graph.proofs.OnCycle.{entering-none, entering-more}
use Rattle.graph.proofs.edges_into.Goals as goal

pub loop-e-init : goal.loop-e-init
loop-e-init c = (omega arith, entering-none c.args.heads.now)

pub bounds-heads-e : goal.bounds-heads-e
bounds-heads-e c = omega (arith, c.requires.0)

pub overflow_cast-v : goal.overflow_cast-v
overflow_cast-v c =
    let few : get_or c.args.heads.now c.loop-e.e 0 < 16 =
    c.requires.1 c.loop-e.e c.loop-e-test.true in
    omega (arith, few)

pub offset_bounds-t-v : goal.offset_bounds-t-v
offset_bounds-t-v c =
    let few : get_or c.args.heads.now c.loop-e.e 0 < 16 =
    c.requires.1 c.loop-e.e c.loop-e-test.true in
    omega (arith, few)

pub bounds-t-v : goal.bounds-t-v
bounds-t-v c =
    let few : get_or c.args.heads.now c.loop-e.e 0 < 16 =
    c.requires.1 c.loop-e.e c.loop-e-test.true in
    omega (arith, few)

pub with-requires : goal.with-requires
with-requires c = omega (arith, c.requires.0)

pub offset_bounds-t-v-in-loop-e : goal.offset_bounds-t-v-in-loop-e
offset_bounds-t-v-in-loop-e c =
    let few : get_or c.args.heads.now c.loop-e.e 0 < 16 =
    c.requires.1 c.loop-e.e c.loop-e-test.true in
    omega (arith, few)

pub bounds-t-v-in-loop-e : goal.bounds-t-v-in-loop-e
bounds-t-v-in-loop-e c =
    let few : get_or c.args.heads.now c.loop-e.e 0 < 16 =
    c.requires.1 c.loop-e.e c.loop-e-test.true in
    omega (arith, few)

pub loop-e-preserved : goal.loop-e-preserved
loop-e-preserved c =
    let few : get_or c.args.heads.now c.loop-e.e 0 < 16 =
    c.requires.1 c.loop-e.e c.loop-e-test.true in
    (omega arith, cc (entering-more c.args.heads.now c.loop-e.e (few)))

pub returns : goal.returns
returns c = cc (le_antisymm c.loop-e.invariant.0 c.loop-e-test.false)
