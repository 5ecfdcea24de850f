use Rattle.attracting.proofs.Laws.{Passed}
use Prim.Native.Nat.{◌*◌}
use Rattle.attracting.proofs.Game.first_letter.Given as goal

abbrev pub invariant-loop-a : goal.invariant-loop-a
invariant-loop-a l = Passed l.k l.own l.self.targets.now l.self.priorities.now l.marks (l.s * l.self.letters) l.a
