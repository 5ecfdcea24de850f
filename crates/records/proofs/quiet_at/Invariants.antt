-- `records::quiet_at` meets its contract: m has the quiet ones of the first i edges. Assumes nothing.
use Prim.Native.Nat.{◌-◌, ◌≤◌}
use mathlib.Core.Path.{◌≡◌}
use Rattle.masks.specs.Masks.{mask_of}
use Rattle.records.specs.Records.{quiet_byte}
use Rattle.records.proofs.quiet_at.Given as goal

abbrev pub invariant-loop-i : goal.invariant-loop-i
invariant-loop-i l = (l.i ≤ 64) × (l.m ≡ mask_of (quiet_byte l.packed) l.i)

abbrev pub decreases-loop-i : goal.decreases-loop-i
decreases-loop-i l = 64 - l.i
