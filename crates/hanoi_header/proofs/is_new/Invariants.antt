-- `is_new` meets its contract: none of the names so far has the bytes of this one. Assumes nothing.
use lib.ListN.{take}
use Rattle.hanoi_header.proofs.Names.{New}
use Rattle.hanoi_header.proofs.is_new.Given as goal

abbrev pub invariant-loop-old : goal.invariant-loop-old
invariant-loop-old l = New l.text l.name (take l.old-index l.names)
