-- `tables::clear` meets its contract: the places before x-index hold 0, and the others what they held. Assumes nothing.
use Rattle.std.proofs.Common.{◌≡◌, ◌≤◌, length, replicate}
use Rattle.std.proofs.Math.Seq.{paste}
use Rattle.tables.proofs.clear.Given as goal

abbrev pub invariant-loop-x : goal.invariant-loop-x
invariant-loop-x g l = (l.x-index ≤ length l.initial.t) × (l.t ≡ paste l.initial.t 0 (replicate l.x-index g.T.Entry.ZERO) l.x-index)
