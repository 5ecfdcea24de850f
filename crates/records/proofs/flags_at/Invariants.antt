-- `records::flags_at` meets its contract: the first i bytes are copied, each as yes or no. Assumes nothing.
use Prim.Native.Nat.{ℕ, ◌+◌, ◌-◌}
use mathlib.Core.Bool.{false}
use lib.ListN.{get_or}
use Rattle.records.specs.Records.{is_set}
use Rattle.records.proofs.Copies.{Copied}
use Rattle.records.proofs.flags_at.Given as goal

abbrev pub invariant-loop-i : goal.invariant-loop-i
invariant-loop-i l = Copied false (λ (j : ℕ). is_set (get_or l.packed (132 + j) 0)) 256 l.flags l.i

abbrev pub decreases-loop-i : goal.decreases-loop-i
decreases-loop-i l = 256 - l.i
