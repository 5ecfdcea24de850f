use mathlib.Core.Path.{ap, ◌∙◌}
use Prim.Native.Nat.{◌-◌}
use native.Mathlib.Nat.{le_antisymm}
use native.Mathlib.Omega.{arith}
use lib.ListN.{length, replicate}
use lib.Seq.{length-sets}
use Rattle.tables.proofs.Stores.{replicate-none, replicate_more}
use Rattle.states.proofs.fill_sources.Goals as goal

pub loop-i-init : goal.loop-i-init
loop-i-init c = let a = c.args in (omega arith, omega arith, replicate-none a.sources.now a.from a.v)

pub loop-i-preserved : goal.loop-i-preserved
loop-i-preserved c =
    let a = c.args in
    (omega arith, omega arith, c.put.ensures ∙ replicate_more a.sources.now c.loop-i.sources a.from c.loop-i.i a.v (omega arith) c.loop-i.invariant.2)

pub shape_of-sources : goal.shape_of-sources
shape_of-sources c = let a = c.args in ap length c.loop-i.invariant.2 ∙ length-sets a.sources.now a.from (replicate (c.loop-i.i - a.from) a.v)

pub returns : goal.returns
returns c = cc (le_antisymm c.loop-i.invariant.1 c.loop-i-test.false)
