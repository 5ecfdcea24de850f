-- `records::quiet_flags` meets its contract: the first i edges are told. Assumes nothing.
use Prim.Native.Nat.{◌-◌}
use mathlib.Core.Bool.{false}
use Rattle.masks.specs.Masks.{has}
use Rattle.records.proofs.Copies.{Copied}
use Rattle.records.proofs.quiet_flags.Given as goal

abbrev pub invariant-loop-i : goal.invariant-loop-i
invariant-loop-i l = Copied false (has l.m) 64 l.flag-items l.i

abbrev pub decreases-loop-i : goal.decreases-loop-i
decreases-loop-i l = 64 - l.i
