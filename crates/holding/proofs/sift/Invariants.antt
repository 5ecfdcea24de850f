use Rattle.holding.proofs.Sifting.{Sifting}
use Rattle.holding.proofs.sift.Given as goal

abbrev pub invariant-loop-i : goal.invariant-loop-i
invariant-loop-i l = Sifting l.g.owners.now l.g.sources.now l.g.targets.now l.g.priorities.now l.g.letters l.k l.freed l.n l.initial.order l.initial.marks l.choices l.w l.i l.order l.marks
