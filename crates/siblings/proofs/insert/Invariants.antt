-- `insert` meets its contract: the places before j are done, and what stands after is carried on. Assumes nothing.
use Prim.Native.Nat.{◌<◌}
use lib.ListN.{length}
use Rattle.siblings.proofs.Carrying.{Carrying}
use Rattle.siblings.proofs.insert.Given as goal

abbrev pub invariant-loop-j : goal.invariant-loop-j
invariant-loop-j l = (l.count < length l.initial.kids) × Carrying l.list l.count l.i l.initial.kids l.kids l.carry l.j
