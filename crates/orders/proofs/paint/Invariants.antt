use Rattle.orders.specs.Orders.{Painted}
use Prim.Native.Nat.{◌≤◌}
use Rattle.orders.proofs.paint.Given as goal

abbrev pub invariant-loop-s : goal.invariant-loop-s
invariant-loop-s l = (l.s-index ≤ l.n) × Painted l.b l.s-index l.order l.initial.marks l.marks
