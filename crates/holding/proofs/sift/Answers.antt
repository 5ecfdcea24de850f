use Rattle.holding.proofs.Sifting.{sifting-more, set-yes, set-no}
use native.Mathlib.Omega.{arith}
use Rattle.holding.proofs.sift.Goals as goal
use Rattle.holding.proofs.sift.Goals.{then-out, else-out}

pub loop-i-preserved : goal.loop-i-preserved
loop-i-preserved c = sifting-more _ _ _ _ _ _ _ _ _ _ _ _ _ _ _ _ _ _ _ _ c.loop-i.invariant c.loop-i-test.true c.from-s.ensures (omega (arith, c.from-s.ensures, c.loop-i.invariant.parted.unseen c.loop-i.i (omega arith), c.requires.order.2 c.loop-i.i c.loop-i-test.true, c.requires.long.0)) c.escapes-out.ensures (elim c.if-out.branch [ then-out w ↦ set-yes _ _ _ _ _ w.if-out.true w.marks-is | else-out w ↦ set-no _ _ _ _ _ w.if-out.false w.marks-is ]) c.keep-w.ensures
