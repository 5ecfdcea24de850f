-- `states::fill_sources` meets its contract. The invariant: v stands from `from` up to i. Assumes nothing.
use mathlib.Core.Path.{◌≡◌}
use Prim.Native.Nat.{◌-◌, ◌≤◌}
use lib.ListN.{replicate}
use lib.Seq.{sets}
use Rattle.states.proofs.fill_sources.Given as goal

abbrev pub invariant-loop-i : goal.invariant-loop-i
invariant-loop-i l = (l.from ≤ l.i) × (l.i ≤ l.to) × (l.sources ≡ sets l.initial.sources l.from (replicate (l.i - l.from) l.v))
