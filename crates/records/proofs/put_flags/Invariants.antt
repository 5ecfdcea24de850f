-- `records::put_flags` meets its contract: the bytes of the first i are stored. Assumes nothing.
use Prim.Native.Nat.{◌-◌}
use mathlib.Core.Path.{◌≡◌}
use mathlib.Core.List.{map}
use lib.ListN.{length}
use Rattle.records.specs.Records.{flag}
use Rattle.records.proofs.Copies.{Storing}
use Rattle.records.proofs.put_flags.Given as goal

abbrev pub invariant-loop-i : goal.invariant-loop-i
invariant-loop-i l = (l.i-end ≡ length l.flags) × (length (map flag l.flags) ≡ length l.flags) × Storing (map flag l.flags) l.initial.packed l.at l.packed l.i

abbrev pub decreases-loop-i : goal.decreases-loop-i
decreases-loop-i l = length l.flags - l.i
