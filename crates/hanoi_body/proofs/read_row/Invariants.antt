-- `read_row` meets its contract: the edges of the letters before a are read. Assumes nothing.
use Rattle.hanoi_body.proofs.Rows.{Rowing}
use Rattle.hanoi_body.proofs.read_row.Given as goal

abbrev pub invariant-loop-a : goal.invariant-loop-a
invariant-loop-a l = Rowing l.text l.states l.letters l.sets l.fits l.row l.initial.b l.a l.at l.b
