use native.Mathlib.Omega.{arith}
use native.Mathlib.Nat.{le_antisymm}
use mathlib.Core.Path.{sym}
use Rattle.policy.specs.ByColour.{table_edges}
use Rattle.policy.proofs.ByColour.{edges_none, edges-next}
use Rattle.policy.proofs.edges_in.Goals as goal

pub loop-k-init : goal.loop-k-init
loop-k-init c = (omega arith, sym (edges_none c.args.t.now c.args.c))

pub loop-k-preserved : goal.loop-k-preserved
loop-k-preserved c = let a = c.args in (omega arith, cc (edges-next a.t.now c.loop-k.k a.c))

pub returns : goal.returns
unfolding table_edges
returns c = cc (le_antisymm c.loop-k.invariant.0 c.loop-k-test.false)
