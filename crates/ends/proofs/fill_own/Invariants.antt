-- `fill_own` meets its contract. The invariant: the successors of the places below n are stored. Assumes nothing.
use Rattle.tables.specs.Tables.{Stored}
use Rattle.ends.specs.Raising.{successors}
use Rattle.ends.proofs.fill_own.Given as goal

abbrev pub invariant-loop-n : goal.invariant-loop-n
invariant-loop-n l = Stored l.initial.ends l.ends 0 l.n (successors l.n)
