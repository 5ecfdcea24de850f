use Rattle.listing.specs.Listing.{Hued}
use Rattle.candidates.specs.Candidates.{with_cycles}
use Rattle.policy.specs.ByColour.{table_colours}
use lib.ListN.{length, take}
use mathlib.Core.Path.{◌≡◌}
use Prim.Native.Nat.{◌+◌, ◌≤◌}
use Rattle.listing.proofs.append_cycles.Given as goal

abbrev pub invariant-loop-x : goal.invariant-loop-x
invariant-loop-x l = (l.next ≤ l.count + l.x-index) × (length l.same ≡ length l.initial.same) × (length l.own ≡ length l.initial.own) × (take l.next l.same ≡ with_cycles (table_colours l.by) l.c l.other (take l.count l.initial.same) (take l.x-index l.cycles)) × Hued (table_colours l.by) l.same l.own l.next
