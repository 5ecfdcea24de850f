-- `stride` meets its contract. The invariant: what is sought lies from `from` up to `to`. Assumes nothing.
use Prim.Native.Nat.{◌-◌, ◌≤◌}
use Rattle.search.specs.LowerBound.{Narrowed}
use Rattle.search.proofs.stride.Given as goal

abbrev pub invariant-loop-step : goal.invariant-loop-step
invariant-loop-step g l = (1 ≤ l.step) × Narrowed l.entries l.low l.high l.x l.from l.to

abbrev pub decreases-loop-step : goal.decreases-loop-step
decreases-loop-step g l = l.to - l.from
