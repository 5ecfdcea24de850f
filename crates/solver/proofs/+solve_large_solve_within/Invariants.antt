-- `solver::solve_within` and `solver::solve_large` meet their contracts: each answer is that of `solve_all` with an order that is long enough.
-- The measure is what the order lacks of 65,535 places, which a longer order lessens. Assumes nothing.
use Prim.Native.Nat.{◌-◌, ◌*◌}
use lib.ListN.{length}
use Rattle.solver.proofs.+solve_large_solve_within.Given as goal

abbrev pub decreases-solve_large : goal.decreases-solve_large
decreases-solve_large l = 1

abbrev pub decreases-solve_within : goal.decreases-solve_within
decreases-solve_within l = 2 * (65535 - length l.order.now)
