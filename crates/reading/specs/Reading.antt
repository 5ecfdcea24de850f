-- Reading a policy from command bytes (document 01, "A policy", and "The gatekeeper's questions", paragraph "Reading").
-- `bytes` are the caller's, `at` is the offset of a command's first byte, a draft is the policy so far with the edges given so far.
use Rattle.std.specs.Prelude.{ℕ, zero, suc, ◌+◌, ◌-◌, ◌*◌, ◌^◌, ◌≤◌, ◌≡◌, Bool, true, false, not, ◌&&◌, cond, List, [], eqb, ltb, leb, length, get_or, drop, Result, Ok, Err}
use Rattle.lists.specs.Lists.{all, below}
use Rattle.lists.specs.Questions.{ask}
use Rattle.masks.specs.Masks.{has, insert}
use Rattle.refusals.specs.declared.Refusal.{Refusal}
use Rattle.refusals.specs.Refusals.{number, refusal}
use Rattle.policy.specs.declared.Policy.{Policy}
use Rattle.policy.specs.Policies.{edges, edge_of, in_family, counts_fit}
use Rattle.policy.specs.Making.{counted, zero_policy, with_edge, with_quiet, with_set}
use Rattle.reading.specs.declared.Draft.{Draft}
use Rattle.reading.specs.declared.Found.{Found}
use Rattle.reading.specs.declared.Refused.{Refused}
use Rattle.reading.specs.declared.Command.{Command}
use Rattle.reading.specs.declared.Command.TheVariants.{End, Shape, Edge, Accept, Quiet}

-- ---- commands
-- 0x00 end, 0x01 shape, 0x02 edge, 0x03 accept, 0x04 quiet edge
abbrev pub command_known : ℕ → Bool
command_known code = leb code 4

unfoldable pub operand_count : ℕ → ℕ
operand_count code = cond (eqb code 1) 4 (cond (eqb code 2) 4 (cond (eqb code 3) 1 (cond (eqb code 4) 3 0)))

-- the command at an offset, with its operands
unfoldable pub command_at : List ℕ → ℕ → Command
command_at bytes at =
    let code = get_or bytes at 0 in
    let operand : ℕ → ℕ = λ (i : ℕ). get_or bytes (at + i) 0 in
    cond (eqb code 1) (Shape (operand 1) (operand 2) (operand 3) (operand 4))
    (cond (eqb code 2) (Edge (operand 1) (operand 2) (operand 3) (operand 4))
    (cond (eqb code 3) (Accept (operand 1))
    (cond (eqb code 4) (Quiet (operand 1) (operand 2) (operand 3)) End)))

unfoldable pub is_shape : Command → Bool
is_shape End = false
is_shape (Shape states letters colours initial) = true
is_shape (Edge state letter target colour) = false
is_shape (Accept s) = false
is_shape (Quiet state letter target) = false

unfoldable pub is_end : Command → Bool
is_end End = true
is_end (Shape states letters colours initial) = false
is_end (Edge state letter target colour) = false
is_end (Accept s) = false
is_end (Quiet state letter target) = false

-- ---- the questions
-- Is there another byte?
abbrev pub another_byte : List ℕ → ℕ → Bool
another_byte bytes at = ltb at (length bytes)

-- Are its operands all there?
unfoldable pub operands_there : List ℕ → ℕ → Bool
operands_there bytes at = leb (operand_count (get_or bytes at 0)) (length bytes - (at + 1))

-- Is it shape if first, and not shape if later?
unfoldable pub in_place : ℕ → Command → Bool
in_place at c = cond (eqb at 0) (is_shape c) (not (is_shape c))

-- Are the operands within the limits and the declared counts?
unfoldable pub within_limits : Policy → Command → Bool
within_limits p End = true
within_limits p (Shape states letters colours initial) = counts_fit states letters colours initial
within_limits p (Edge state letter target colour) = ltb state p.states && ltb letter p.letters && ltb target p.states && ltb colour p.colours
within_limits p (Accept s) = ltb s (2 ^ p.colours)
within_limits p (Quiet state letter target) = ltb state p.states && ltb letter p.letters && ltb target p.states

-- Is this edge, with a colour or quiet, or this set, given for the first time?
unfoldable pub first_time : Draft → Command → Bool
first_time d End = true
first_time d (Shape states letters colours initial) = true
first_time d (Edge state letter target colour) = not (has d.given (edge_of d.policy state letter))
first_time d (Accept s) = not (in_family d.policy s)
first_time d (Quiet state letter target) = not (has d.given (edge_of d.policy state letter))

-- every edge below n has been given
unfoldable pub all_given : ℕ → ℕ → Bool
all_given given n = all (has given) (below n)

-- At end: has every edge been given?
unfoldable pub complete_at_end : Draft → Command → Bool
complete_at_end d End = all_given d.given (edges d.policy)
complete_at_end d (Shape states letters colours initial) = true
complete_at_end d (Edge state letter target colour) = true
complete_at_end d (Accept s) = true
complete_at_end d (Quiet state letter target) = true

-- the number of the first question that is answered "no"; 0 where there is none
unfoldable pub refusal_of : List ℕ → ℕ → Draft → ℕ
refusal_of bytes at d =
    let c = command_at bytes at in
    ask (another_byte bytes at) 1
    (ask (command_known (get_or bytes at 0)) 2
    (ask (operands_there bytes at) 1
    (ask (in_place at c) 3
    (ask (within_limits d.policy c) 4
    (ask (first_time d c) 5
    (ask (complete_at_end d c) 6 0))))))

-- the command at an offset, where each question is answered "yes"; the refusal of the first that is not
unfoldable pub taken_at : List ℕ → ℕ → Draft → Result Command Refusal
taken_at bytes at d = cond (eqb (refusal_of bytes at d) 0) (Ok (command_at bytes at)) (Err (refusal (refusal_of bytes at d)))

-- ---- the reading
-- before the first command
unfoldable pub empty_draft : Draft
empty_draft = record { policy = zero_policy; given = 0 }

-- the draft after a command that was not refused
unfoldable pub draft_after : Draft → Command → Draft
draft_after d End = d
draft_after d (Shape states letters colours initial) = record { policy = counted states letters colours initial; given = 0 }
draft_after d (Edge state letter target colour) =
    let e = edge_of d.policy state letter in
    record { policy = with_edge d.policy e target colour; given = insert d.given e }
draft_after d (Accept s) = record { policy = with_set d.policy s; given = d.given }
draft_after d (Quiet state letter target) =
    let e = edge_of d.policy state letter in
    record { policy = with_quiet d.policy e target; given = insert d.given e }

-- where the next command begins
unfoldable pub next_offset : List ℕ → ℕ → ℕ
next_offset bytes at = at + 1 + operand_count (get_or bytes at 0)

-- where reading stops: at the first command that is refused, or at the end command
pub record Stop : Type 0 where
  pub at : ℕ
  pub draft : Draft

-- from an offset on, after at most n commands
unfoldable pub stop_most : ℕ → List ℕ → ℕ → Draft → Stop
stop_most zero bytes at d = record { at = at; draft = d }
stop_most (suc n) bytes at d =
    let c = command_at bytes at in
    let later = stop_most n bytes (next_offset bytes at) (draft_after d c) in
    cond (eqb (refusal_of bytes at d) 0 && not (is_end c)) later (record { at = at; draft = d })

-- the same with no bound: a command takes a byte or more, so there are at most as many as bytes, and one that is missing
unfoldable pub stop_from : List ℕ → ℕ → Draft → Stop
stop_from bytes at d = stop_most (length bytes + 1 - at) bytes at d

unfoldable pub stop_of : List ℕ → Stop
stop_of bytes = stop_from bytes 0 empty_draft

-- the number of the refusal there; 0 at the end command
unfoldable pub number_at : List ℕ → Stop → ℕ
number_at bytes s = refusal_of bytes s.at s.draft

-- after a refusal it and the offset of the refused command; after the end command the policy, and the offset just past it
unfoldable pub answer_at : List ℕ → Stop → Result Found Refused
answer_at bytes s =
    cond (eqb (number_at bytes s) 0) (Ok (record { policy = s.draft.policy; end = s.at + 1 })) (Err (record { refusal = refusal (number_at bytes s); at = s.at }))

unfoldable pub reading_of : List ℕ → Result Found Refused
reading_of bytes = answer_at bytes (stop_of bytes)

-- ---- document 01's number and values for each answer
-- the number of the refusal; 0 where the policy was read
abbrev pub number_of : Result Found Refused → ℕ
number_of (Ok r) = 0
number_of (Err e) = number e.refusal

-- where the part handed back begins; after a refusal, the offset of the refused command's first byte
abbrev pub offset_of : Result Found Refused → ℕ
offset_of (Ok r) = r.end
offset_of (Err e) = e.at

-- the policy read; all zero after a refusal
abbrev pub policy_read : Result Found Refused → Policy
policy_read (Ok r) = r.policy
policy_read (Err e) = zero_policy

-- what follows the end command; empty after a refusal
abbrev pub part_after : List ℕ → Result Found Refused → List ℕ
part_after bytes (Ok r) = drop r.end bytes
part_after bytes (Err e) = []

unfoldable pub rest_of : List ℕ → List ℕ
rest_of bytes = part_after bytes (reading_of bytes)

-- ---- the promises
-- what read promises of its answer
pub record ReadsPolicy (bytes : List ℕ) (a : Result Found Refused) : Type 0 where
  pub answer_is : a ≡ reading_of bytes
  pub number_is : number_of a ≡ number_at bytes (stop_of bytes)
  pub offset_is : offset_of a ≡ cond (eqb (number_at bytes (stop_of bytes)) 0) ((stop_of bytes).at + 1) (stop_of bytes).at
  pub policy_is : policy_read a ≡ cond (eqb (number_at bytes (stop_of bytes)) 0) (stop_of bytes).draft.policy zero_policy

-- what rest promises of the part that it hands back
pub record HandsBack (bytes part : List ℕ) : Type 0 where
  pub part_is : part ≡ rest_of bytes
  pub by-number : part ≡ cond (eqb (number_at bytes (stop_of bytes)) 0) (drop ((stop_of bytes).at + 1) bytes) []

-- ---- what holds of every draft: an edge number is a bit of a 64-bit mask, a colour set is one of 8 bits
pub record Bounded (p : Policy) : Type 0 where
  pub few_edges : p.states * p.letters ≤ 64
  pub few_colours : p.colours ≤ 8
