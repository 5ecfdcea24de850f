use Rattle.solver.proofs.Answering.{finished-more, letter-own, letter-other}
use mathlib.Core.Path.{refl}
use native.Mathlib.Omega.{arith}
use Rattle.solver.proofs.finish.Goals as goal
use Rattle.solver.proofs.finish.Goals.{then-own, else-own}

pub loop-s-preserved : goal.loop-s-preserved
loop-s-preserved c = finished-more _ _ _ _ _ _ _ _ _ _ (omega (arith, c.loop-s-test.true, c.requires.0)) (omega (arith, c.loop-s-test.true, c.requires.1)) c.loop-s.invariant refl c.is_owned-own.ensures (elim c.if-own.branch [ then-own w ↦ letter-own _ _ _ w.if-own.true w.letter-is | else-own w ↦ letter-other _ _ _ w.if-own.false w.letter-is ])
