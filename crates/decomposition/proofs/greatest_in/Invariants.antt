-- `decomposition::greatest_in` meets its contract: the greatest of the entries passed. Assumes nothing.
use mathlib.Core.Path.{◌≡◌}
use lib.ListN.{take}
use Rattle.lists.specs.Lists.{greatest}
use Rattle.decomposition.proofs.greatest_in.Given as goal

abbrev pub invariant-loop-x : goal.invariant-loop-x
invariant-loop-x l = l.most ≡ greatest (take l.x-index l.x-items)
