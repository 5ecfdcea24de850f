-- `family_of` meets its contract: the sets below s are filled in, and `word` is that of s unless s begins a word. Assumes nothing.
use Prim.Native.Nat.{◌/◌, ◌%◌}
use mathlib.Core.Logic.{◌≢◌}
use Rattle.hanoi_family.specs.Family.{IsFamily, IsWord}
use Rattle.hanoi_family.proofs.family_of.Given as goal

abbrev pub invariant-loop-s : goal.invariant-loop-s
invariant-loop-s l = record {
  filled : IsFamily l.text l.at l.marks l.sets l.s l.family;
  current : l.s % 64 ≢ 0 → IsWord l.text l.at l.marks l.sets (l.s / 64) l.word;
}
