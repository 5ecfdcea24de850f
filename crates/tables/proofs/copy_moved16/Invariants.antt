-- `tables::copy_moved16` meets its contract: the first j places are copied, and moved. Assumes nothing.
use Prim.Native.Nat.{◌-◌}
use Rattle.tables.specs.Copies.{part, moved}
use Rattle.tables.proofs.Copies.{Copying}
use Rattle.tables.proofs.copy_moved16.Given as goal

abbrev pub invariant-loop-j : goal.invariant-loop-j
invariant-loop-j l = Copying (moved (l.at - l.from) (part l.size l.from l.initial.t)) l.initial.t l.at l.t l.j

abbrev pub decreases-loop-j : goal.decreases-loop-j
decreases-loop-j l = l.size - l.j
