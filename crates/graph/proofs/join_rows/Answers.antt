use mathlib.Core.Path.{sym}
use native.Mathlib.Nat.{le_antisymm}
use native.Mathlib.Omega.{arith}
use Rattle.graph.proofs.CodeLaws.{join-none, join_more}
use Rattle.graph.proofs.join_rows.Goals as goal

pub loop-u-init : goal.loop-u-init
loop-u-init c = (omega arith, sym (join-none _ _ _))

pub loop-u-preserved : goal.loop-u-preserved
loop-u-preserved c = (omega arith, cc (join_more _ _ _ _))

pub returns : goal.returns
returns c = cc (le_antisymm c.loop-u.invariant.0 c.loop-u-test.false)
