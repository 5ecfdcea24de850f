-- `recursion::solve` meets its contract: each turn leaves the game going, and the levels above 10 are never reached.
-- Assumes nothing.
use Prim.Native.Nat.{◌-◌}
use lib.ListN.{length}
use Rattle.recursion.proofs.Going.{Going}
use Rattle.recursion.proofs.+solve.Given as goal

abbrev pub decreases-solve : goal.decreases-solve
decreases-solve l = 10 - l.l.at

abbrev pub invariant-loop-left : goal.invariant-loop-left
invariant-loop-left l =
    let i = l.initial in
    Going l.g.owners.now l.g.sources.now l.g.targets.now l.g.priorities.now l.g.letters (length l.g.sources.now) l.l.at i.marks i.choices l.n i.order l.left l.order l.marks l.choices

abbrev pub decreases-loop-left : goal.decreases-loop-left
decreases-loop-left l = l.left
