use native.Mathlib.Omega.{arith}
use mathlib.Core.Path.{refl, ap}
use Rattle.records.specs.Records.{is_set, flags_at}
use Rattle.records.proofs.Copies.{part-at, copied_none, copied_more, copied_all}
use Rattle.records.proofs.flags_at.Goals as goal

pub loop-i-init : goal.loop-i-init
loop-i-init c = copied_none _ _ _ _ refl

pub loop-i-preserved : goal.loop-i-preserved
loop-i-preserved c = copied_more _ _ _ _ _ _ (omega arith) (ap is_set (part-at c.args.packed.now 132 256 c.loop-i.i (omega arith))) c.loop-i.invariant

pub returns : goal.returns
unfolding flags_at
returns c = copied_all _ _ _ _ _ (omega arith) c.loop-i.invariant
