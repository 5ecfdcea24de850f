-- The library's version.
use Rattle.std.specs.Prelude.{ℕ, ◌+◌, ◌*◌}

-- major, minor, patch; another length of the record, other arguments of a call and other tables for a policy are another major version
abbrev pub version : ℕ
version = 4 * 1000000 + 0 * 1000 + 0
