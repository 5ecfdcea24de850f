use Rattle.attracting.proofs.Sweeping.{Sweeping}
use lib.ListN.{length}
use Rattle.attracting.proofs.sweep.Given as goal

abbrev pub invariant-loop-i : goal.invariant-loop-i
invariant-loop-i l = Sweeping l.g.owners.now l.g.sources.now l.g.targets.now l.g.priorities.now l.g.letters (length l.g.sources.now) l.k l.n l.initial.order l.initial.marks l.initial.choices l.w l.i l.order l.marks l.choices
