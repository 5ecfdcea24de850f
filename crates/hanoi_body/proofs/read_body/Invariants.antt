-- `read_body` meets its contract: the states before i are read. Assumes nothing.
use Rattle.hanoi_body.proofs.States.{Reading}
use Rattle.hanoi_body.proofs.read_body.Given as goal

abbrev pub invariant-loop-i : goal.invariant-loop-i
invariant-loop-i l = Reading l.text l.at l.states l.letters l.sets l.fits l.i l.body
