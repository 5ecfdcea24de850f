use native.Mathlib.Omega.{arith}
use lib.ListN.{take}
use Rattle.mark_sets.proofs.Turns.{coloured-none, coloured-many}
use Rattle.mark_sets.proofs.colours_of.Goals as goal

pub loop-e-init : goal.loop-e-init
loop-e-init c = record { few = omega arith; coloured = coloured-none }

pub returns-in_err-seen : goal.returns-in_err-seen
returns-in_err-seen c = rw c.from_residual.ensures (coloured-many (take c.args.edges c.args.marks.now) c.loop-e.e c.loop-e.seen c.loop-e-test.true c.in_err-seen.ensures c.loop-e.invariant.coloured)
