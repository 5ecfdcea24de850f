-- `build_large` and `build_within` meet their contracts. The measure falls as the lent table grows; a table of 65,535 places serves, since
-- there are at most so many nodes. Assumes nothing.
use Prim.Native.Nat.{◌-◌, ◌*◌}
use lib.ListN.{length}
use Rattle.filling.proofs.+build_large_build_within.Given as goal

abbrev pub decreases-build_large : goal.decreases-build_large
decreases-build_large l = 1

abbrev pub decreases-build_within : goal.decreases-build_within
decreases-build_within l = 2 * (65535 - length l.ends.now)
