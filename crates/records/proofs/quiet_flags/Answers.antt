use native.Mathlib.Omega.{arith}
use mathlib.Core.Path.{refl, sym, ap}
use Rattle.masks.specs.Masks.{has}
use Rattle.records.specs.Records.{quiet_flags}
use Rattle.records.proofs.Copies.{copied_none, copied_more, copied_all}
use Rattle.records.proofs.quiet_flags.Goals as goal

pub returns-then-m-eq0 : goal.returns-then-m-eq0
unfolding quiet_flags has
returns-then-m-eq0 c = ap quiet_flags (sym c.if-m-eq0.true)

pub loop-i-init : goal.loop-i-init
loop-i-init c = copied_none _ _ _ _ refl

pub loop-i-preserved : goal.loop-i-preserved
loop-i-preserved c = copied_more _ _ _ _ _ _ (omega arith) c.has.ensures c.loop-i.invariant

pub returns : goal.returns
unfolding quiet_flags
returns c = copied_all _ _ _ _ _ (omega arith) c.loop-i.invariant
