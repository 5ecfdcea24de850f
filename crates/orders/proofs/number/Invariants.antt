use Rattle.orders.specs.Orders.{Numbered}
use Prim.Native.Nat.{◌≤◌}
use Rattle.orders.proofs.number.Given as goal

abbrev pub invariant-loop-i : goal.invariant-loop-i
invariant-loop-i l = (l.i ≤ l.n) × Numbered l.i l.initial.order l.order
