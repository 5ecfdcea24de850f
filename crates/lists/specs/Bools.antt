-- Two answers that differ.
use Rattle.std.specs.Prelude.{Bool, true, false, not}

abbrev pub differs : Bool → Bool → Bool
differs true b = not b
differs false b = b
