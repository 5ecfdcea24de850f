-- Reading by document 01's commands alone, where no edge is quiet and no empty set is accepted: the offsets of the commands that are taken, the questions as document 01 has them, and
-- the reading by these. What it shares with Reading.antt has a case for 0x04, which is not met here.
use Rattle.std.specs.Prelude.{ℕ, zero, suc, ◌+◌, ◌-◌, ◌^◌, ◌≡◌, ◌≢◌, Bool, true, false, not, ◌&&◌, cond, eqb, ltb, leb, length, get_or, Result, Ok, Err}
use mathlib.Core.List.{List, [], ◌∷◌, Memᴰ}
use Rattle.lists.specs.Questions.{ask}
use Rattle.refusals.specs.Refusals.{refusal}
use Rattle.policy.specs.declared.Policy.{Policy}
use Rattle.policy.specs.Policies.{counts_fit}
use Rattle.reading.specs.declared.Draft.{Draft}
use Rattle.reading.specs.declared.Found.{Found}
use Rattle.reading.specs.declared.Refused.{Refused}
use Rattle.reading.specs.declared.Command.{Command}
use Rattle.reading.specs.declared.Command.TheVariants.{End, Shape, Edge, Accept, Quiet}
use Rattle.reading.specs.Reading.{Stop, another_byte, command_at, complete_at_end, draft_after, empty_draft, first_time, in_place, is_end, next_offset, operands_there, refusal_of, stop_of}

-- ---- the commands that are taken
-- their offsets, from an offset on, for at most n commands: as in stop_most
unfoldable pub offsets_most : ℕ → List ℕ → ℕ → Draft → List ℕ
offsets_most zero bytes at d = []
offsets_most (suc n) bytes at d =
    let c = command_at bytes at in
    let later = offsets_most n bytes (next_offset bytes at) (draft_after d c) in
    cond (eqb (refusal_of bytes at d) 0 && not (is_end c)) (at ∷ later) []

-- the same with no bound
unfoldable pub offsets_from : List ℕ → ℕ → Draft → List ℕ
offsets_from bytes at d = offsets_most (length bytes + 1 - at) bytes at d

unfoldable pub offsets_of : List ℕ → List ℕ
offsets_of bytes = offsets_from bytes 0 empty_draft

-- ---- document 01's questions
-- Are the operands within the limits and the declared counts, and an accepted set non-empty?
unfoldable pub plain_limits : Policy → Command → Bool
plain_limits p End = true
plain_limits p (Shape states letters colours initial) = counts_fit states letters colours initial
plain_limits p (Edge state letter target colour) = ltb state p.states && ltb letter p.letters && ltb target p.states && ltb colour p.colours
plain_limits p (Accept s) = ltb 0 s && ltb s (2 ^ p.colours)
plain_limits p (Quiet state letter target) = false

-- the number of the first one that is answered "no"; 0 where there is none
unfoldable pub plain_refusal : List ℕ → ℕ → Draft → ℕ
plain_refusal bytes at d =
    let c = command_at bytes at in
    ask (another_byte bytes at) 1
    (ask (leb (get_or bytes at 0) 3) 2
    (ask (operands_there bytes at) 1
    (ask (in_place at c) 3
    (ask (plain_limits d.policy c) 4
    (ask (first_time d c) 5
    (ask (complete_at_end d c) 6 0))))))

-- where reading by them stops, from an offset on, after at most n commands, and its answer: as in stop_most and answer_at
unfoldable pub plain_stop_most : ℕ → List ℕ → ℕ → Draft → Stop
plain_stop_most zero bytes at d = record { at = at; draft = d }
plain_stop_most (suc n) bytes at d =
    let c = command_at bytes at in
    let later = plain_stop_most n bytes (next_offset bytes at) (draft_after d c) in
    cond (eqb (plain_refusal bytes at d) 0 && not (is_end c)) later (record { at = at; draft = d })

unfoldable pub plain_answer_at : List ℕ → Stop → Result Found Refused
plain_answer_at bytes s =
    let number = plain_refusal bytes s.at s.draft in
    cond (eqb number 0) (Ok (record { policy = s.draft.policy; end = s.at + 1 })) (Err (record { refusal = refusal number; at = s.at }))

unfoldable pub plain_reading_of : List ℕ → Result Found Refused
plain_reading_of bytes = plain_answer_at bytes (plain_stop_most (length bytes + 1) bytes 0 empty_draft)

-- ---- bytes for which they are enough
-- the command is not 0x04, and accepts no empty set
abbrev pub PlainAt : List ℕ → ℕ → Type 0
PlainAt bytes at = (get_or bytes at 0 ≢ 4) × (get_or bytes at 0 ≡ 3 → get_or bytes (at + 1) 0 ≢ 0)

-- each command that is taken, and the one where reading stops
pub record Plain (bytes : List ℕ) : Type 0 where
  pub taken : (at : ℕ) → Memᴰ at (offsets_of bytes) → PlainAt bytes at
  pub last : PlainAt bytes (stop_of bytes).at
