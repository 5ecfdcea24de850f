-- `lanes_of` meets its contract: the marks below m are filled in. Assumes nothing.
use mathlib.Core.Path.{◌≡◌}
use lib.ListN.{length}
use Rattle.hanoi_family.proofs.Words.{Filled}
use Rattle.hanoi_family.proofs.lanes_of.Given as goal

abbrev pub invariant-loop-m : goal.invariant-loop-m
invariant-loop-m l = record { long : length l.lanes ≡ 32; filled : Filled l.sets l.w l.m l.lanes }
