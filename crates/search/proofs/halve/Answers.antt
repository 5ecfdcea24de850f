use native.Mathlib.Omega.{arith}
use Rattle.search.proofs.Narrowing.{narrowed-up, narrowed-down, narrowed-done}
use Rattle.search.proofs.halve.Goals as goal

pub loop-from-preserved-then-entries-middle : goal.loop-from-preserved-then-entries-middle
loop-from-preserved-then-entries-middle c = narrowed-up _ _ _ _ _ _ _ c.requires.2 c.loop-from.invariant (omega arith) (omega arith) (omega arith)

pub loop-from-preserved : goal.loop-from-preserved
loop-from-preserved c = narrowed-down _ _ _ _ _ _ _ c.requires.2 c.loop-from.invariant (omega arith) (omega arith) (omega arith)

pub returns : goal.returns
returns c = narrowed-done _ _ _ _ _ _ c.loop-from.invariant (omega arith)
