-- `colours_of` meets its contract: the edges passed are coloured, with no more than 8 mark sets. Assumes nothing.
use Prim.Native.Nat.{◌≤◌}
use lib.ListN.{take}
use Rattle.mark_sets.specs.MarkSets.{Coloured}
use Rattle.mark_sets.proofs.colours_of.Given as goal

abbrev pub invariant-loop-e : goal.invariant-loop-e
invariant-loop-e l = record {
  few : l.seen.count ≤ 8;
  coloured : Coloured (take l.e l.x-items) l.seen;
}
