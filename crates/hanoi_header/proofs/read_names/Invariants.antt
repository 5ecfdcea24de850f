-- `read_names` meets its contract: the names read so far are new and stand in the text. Assumes nothing.
use Rattle.hanoi_header.proofs.Names.{Naming}
use Rattle.hanoi_header.proofs.read_names.Given as goal

abbrev pub invariant-loop-n : goal.invariant-loop-n
invariant-loop-n l = Naming l.text l.at l.count l.i l.n l.names
