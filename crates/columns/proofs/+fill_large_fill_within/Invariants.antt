-- `fill_large` and `fill_within` meet their contracts. The measure falls as the lent space grows: twice what it lacks to 4,096 places, and 1 for `fill_large`. Assumes nothing.
use Prim.Native.Nat.{◌*◌, ◌-◌}
use lib.ListN.{length}
use Rattle.columns.proofs.+fill_large_fill_within.Given as goal

abbrev pub decreases-fill_large : goal.decreases-fill_large
decreases-fill_large l = 1

abbrev pub decreases-fill_within : goal.decreases-fill_within
decreases-fill_within l = 2 * (4096 - length l.accepting.now)
