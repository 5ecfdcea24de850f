use Rattle.orders.proofs.Walks.{Gathering}
use Rattle.orders.proofs.gather.Given as goal

abbrev pub invariant-loop-i : goal.invariant-loop-i
invariant-loop-i l = Gathering l.a l.b l.n l.marks l.initial.order l.order l.w l.i
