use native.Mathlib.Omega.{arith}
use mathlib.Core.Path.{refl, ◌∙◌}
use lib.ListN.{length-set}
use Rattle.hanoi_family.proofs.Words.{filled_none, filled_more, filled-all}
use Rattle.hanoi_family.proofs.lanes_of.Goals as goal

pub loop-m-init : goal.loop-m-init
loop-m-init c = record { long = refl; filled = filled_none _ _ _ }

pub loop-m-preserved : goal.loop-m-preserved
loop-m-preserved c = record {
  long = length-set c.loop-m.lanes c.loop-m.m c.sets_with.result ∙ c.loop-m.invariant.long;
  filled = filled_more _ _ _ _ _ c.loop-m.invariant.filled (omega (arith, c.requires.1)) c.sets_with.ensures;
}

pub returns : goal.returns
returns c = filled-all _ _ _ _ _ c.loop-m.invariant.filled (omega (arith, c.loop-m-test.false))
