-- `solver::finish` meets its contract: the first s states are finished. Assumes nothing.
use Rattle.solver.specs.Answers.{Finished}
use Rattle.solver.proofs.finish.Given as goal

abbrev pub invariant-loop-s : goal.invariant-loop-s
invariant-loop-s l = Finished l.g.owners.now l.g.sources.now l.s l.initial.marks l.initial.choices l.marks l.choices
