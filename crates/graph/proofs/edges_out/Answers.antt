use native.Mathlib.Nat.{le_antisymm}
use native.Mathlib.Omega.{arith}
use Rattle.graph.proofs.CodeLaws.{row_within}
use Rattle.graph.proofs.OnCycle.{leaving-none, leaving-more}
use Rattle.graph.proofs.edges_out.Goals as goal

pub loop-v-init : goal.loop-v-init
loop-v-init c = (omega arith, leaving-none c.args.letters)

pub own_edges-requires : goal.own_edges-requires
own_edges-requires c = omega (arith, c.requires.1, row_within c.loop-v.v c.args.states c.args.letters c.loop-v-test.true)

pub offset_bounds-t-v : goal.offset_bounds-t-v
offset_bounds-t-v c = omega (arith, c.requires.0)

pub bounds-t-v : goal.bounds-t-v
bounds-t-v c = omega (arith, c.requires.0)

pub loop-v-preserved : goal.loop-v-preserved
loop-v-preserved c = (omega arith, cc (leaving-more c.args.letters c.loop-v.v (omega (arith, c.requires.0))))

pub returns : goal.returns
returns c = cc (le_antisymm c.loop-v.invariant.0 c.loop-v-test.false)
