-- `halve` meets its contract. The invariant: what is sought lies from `from` up to `to`. Assumes nothing.
use Prim.Native.Nat.{◌-◌}
use Rattle.search.specs.LowerBound.{Narrowed}
use Rattle.search.proofs.halve.Given as goal

abbrev pub invariant-loop-from : goal.invariant-loop-from
invariant-loop-from l = Narrowed l.entries l.low l.high l.x l.from l.to

abbrev pub decreases-loop-from : goal.decreases-loop-from
decreases-loop-from l = l.to - l.from
