-- `records::has_quiet` meets its contract: b is whether one of the edges passed is quiet. Assumes nothing.
use Rattle.std.proofs.Common.{◌≡◌, ◌≤◌}
use Rattle.lists.specs.Lists.{any, below}
use Rattle.records.specs.Records.{quiet_byte}
use Rattle.records.proofs.has_quiet.Given as goal

abbrev pub invariant-loop-byte : goal.invariant-loop-byte
invariant-loop-byte l = (l.byte-index ≤ 64) × (l.b ≡ any (quiet_byte l.packed) (below l.byte-index))
