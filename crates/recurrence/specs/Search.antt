-- The search for a repeat in the states in which rounds end (Brent's cycle finding).
use Rattle.std.specs.Prelude.{ℕ, ◌+◌, ◌*◌, true, false, cond, eqb}
use Rattle.recurrence.specs.declared.Search.{Search}

-- before the first round
abbrev pub search_from : ℕ → ℕ → Search
search_from state none = record { state = state; value = none; kept = state; since = 0; limit = 1; found = false }

-- a state was seen again
abbrev found_with : Search → ℕ → ℕ → Search
found_with s ended value = record { state = ended; value = value; kept = s.kept; since = s.since; limit = s.limit; found = true }

-- after a round that ended in `ended` and met `one`; with it, the rounds since the kept state met `all`
unfoldable pub search_next : Search → ℕ → ℕ → ℕ → ℕ → Search
search_next s ended one all none =
    cond (eqb ended s.state) (found_with s ended one)
    (cond (eqb ended s.kept) (found_with s ended all)
    (cond (eqb (s.since + 1) s.limit)
    (record { state = ended; value = none; kept = ended; since = 0; limit = s.limit * 2; found = s.found })
    (record { state = ended; value = all; kept = s.kept; since = s.since + 1; limit = s.limit; found = s.found })))
