-- `sets_with` meets its contract: the colours below c are collected. Assumes nothing.
use Prim.Native.Nat.{◌-◌, ◌≤◌}
use Rattle.hanoi_family.proofs.Words.{Collected}
use Rattle.hanoi_family.proofs.sets_with.Given as goal

abbrev pub invariant-loop-c : goal.invariant-loop-c
invariant-loop-c l = (l.c ≤ 8) × Collected l.sets l.w l.mark l.c l.r

abbrev pub decreases-loop-c : goal.decreases-loop-c
decreases-loop-c l = 8 - l.c
