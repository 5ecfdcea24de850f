use Rattle.attracting.proofs.Sweeping.{Attraction, sweeps_left}
use lib.ListN.{length}
use Rattle.attracting.proofs.attract.Given as goal

abbrev pub invariant-loop-again : goal.invariant-loop-again
invariant-loop-again l = Attraction l.g.owners.now l.g.sources.now l.g.targets.now l.g.priorities.now l.g.letters (length l.g.sources.now) l.k l.initial.marks l.initial.choices l.n l.initial.order l.left l.order l.marks l.choices l.again

abbrev pub decreases-loop-again : goal.decreases-loop-again
decreases-loop-again l = sweeps_left l.left l.again
