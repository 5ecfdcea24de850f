-- `reading::read` meets its contract: the loop is on the way: what is left to read makes the whole reading. The measure is the bytes left.
-- Assumes nothing.
use Prim.Native.Nat.{◌-◌}
use lib.ListN.{length}
use Rattle.reading.proofs.Commands.{Onway}
use Rattle.reading.proofs.read.Given as goal

abbrev pub invariant-loop-c : goal.invariant-loop-c
invariant-loop-c l = Onway l.bytes l.at (record { policy = l.p; given = l.given })

abbrev pub decreases-loop-c : goal.decreases-loop-c
decreases-loop-c l = length l.bytes - l.at
