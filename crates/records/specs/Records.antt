-- A policy as a record of 452 bytes: states, letters, colours, initial state; the targets of 64 edges; their colours; for each of the 256 colour sets a byte that is not 0
-- exactly if the set is in the family; and in bytes 388 to 451, for each of 64 edges, a byte that is not 0 exactly if the edge is quiet.
use Rattle.std.specs.Prelude.{ℕ, ◌+◌, Bool, not, cond, List, ◌∷◌, ◌++◌, map, eqb, length, get_or}
use Rattle.lists.specs.Lists.{any, below}
use Rattle.masks.specs.Masks.{has, mask_of}
use Rattle.policy.specs.declared.Policy.{Policy}
use Rattle.policy.specs.Making.{zero_policy, from_parts}

abbrev pub record_length : ℕ
record_length = 452

-- a list of another length is no record of this version
abbrev pub is_record : List ℕ → Bool
is_record b = eqb (length b) record_length

-- yes or no as a byte, and a byte as yes or no
abbrev pub flag : Bool → ℕ
flag b = cond b 1 0

abbrev pub is_set : ℕ → Bool
is_set x = not (eqb x 0)

-- n bytes from a place on
unfoldable pub bytes_at : List ℕ → ℕ → ℕ → List ℕ
bytes_at b at n = map (λ i. get_or b (at + i) 0) (below n)

unfoldable pub flags_at : List ℕ → ℕ → ℕ → List Bool
flags_at b at n = map (λ i. is_set (get_or b (at + i) 0)) (below n)

-- whether edge i is quiet, whether any is, and all that are; and these as 64 times yes or no
abbrev pub quiet_byte : List ℕ → ℕ → Bool
quiet_byte b i = is_set (get_or b (388 + i) 0)

unfoldable pub any_quiet : List ℕ → Bool
any_quiet b = any (quiet_byte b) (below 64)

unfoldable pub quiet_at : List ℕ → ℕ
quiet_at b = mask_of (quiet_byte b) 64

unfoldable pub quiet_flags : ℕ → List Bool
quiet_flags m = map (has m) (below 64)

-- the policy of a record's bytes
unfoldable pub unpacked : List ℕ → Policy
unpacked b =
    from_parts (record { states = get_or b 0 0; letters = get_or b 1 0; colours = get_or b 2 0; initial = get_or b 3 0 }) (quiet_at b) (bytes_at b 4 64) (bytes_at b 68 64) (flags_at b 132 256)

-- the policy of a record; of a list of another length the zero policy, which is not legal
unfoldable pub policy_of : List ℕ → Policy
policy_of b = cond (is_record b) (unpacked b) zero_policy

unfoldable pub record_of : Policy → List ℕ
record_of p = p.states ∷ p.letters ∷ p.colours ∷ p.initial ∷ (p.target ++ p.colour ++ map flag p.family ++ map flag (quiet_flags p.quiet))
