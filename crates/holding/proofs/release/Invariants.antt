use Rattle.holding.proofs.Sifting.{Releasing, sifts_left}
use Rattle.holding.proofs.release.Given as goal

abbrev pub invariant-loop-again : goal.invariant-loop-again
invariant-loop-again l = Releasing l.g.owners.now l.g.sources.now l.g.targets.now l.g.priorities.now l.g.letters l.k l.n l.initial.order l.initial.marks l.choices l.freed l.order l.marks l.again

abbrev pub decreases-loop-again : goal.decreases-loop-again
decreases-loop-again l = sifts_left l.n l.freed l.again
