-- `fill_children` meets its contract: the masks seen that are largest are kept, in sibling order. Assumes nothing.
use Rattle.siblings.proofs.Passing.{Passing}
use Rattle.siblings.proofs.fill_children.Given as goal

abbrev pub invariant-loop-i : goal.invariant-loop-i
invariant-loop-i l = Passing l.list l.n l.initial.kids l.kids l.count l.i
