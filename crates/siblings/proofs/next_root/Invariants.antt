-- `next_root` meets its contract: `best` is the least of the entries seen that pass. Assumes nothing.
use lib.ListN.{take}
use Rattle.siblings.specs.NextRoot.{stands_after}
use Rattle.siblings.proofs.NextRoot.{Least}
use Rattle.siblings.proofs.next_root.Given as goal

abbrev pub invariant-loop-m : goal.invariant-loop-m
invariant-loop-m l = Least (stands_after l.after) (take l.m-index l.list) l.best
