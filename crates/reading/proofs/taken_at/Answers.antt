-- `reading::taken_at` meets its contract: each question in its order, by the laws of a "no".
-- Assumes nothing.
use Prim.Native.Nat.{ℕ, ◌+◌, ◌-◌, ◌<◌, ◌≤◌}
use mathlib.Core.Path.{◌≡◌, sym, ◌∙◌}
use mathlib.Core.Bool.{Bool, true}
use mathlib.Core.List.{List}
use lib.ListN.{length, get_or}
use Rattle.reading.specs.declared.Command.{Command}
use Rattle.reading.specs.Reading.{command_at, command_known, operand_count}
use Rattle.reading.proofs.Questions.{Whole, operands-there, no_byte, no-command, no-operands, no_place, no-limits, no-first, no-end, yes}
use Rattle.reading.proofs.taken_at.Goals as goal

-- what is known after the first three "yes"
whole :
    {b : List ℕ} {at : ℕ} {c : Command} {k : Bool} {n : ℕ} → at < length b → k ≡ command_known (get_or b at 0) → k ≡ true → n ≡ operand_count (get_or b at 0) → n ≤ length b - (at + 1)
    → c ≡ command_at b at → Whole b at c
whole h e k n l i = record { byte = h; known = sym e ∙ k; there = operands-there _ _ _ n l; is = i }

pub returns-then-bytes-at : goal.returns-then-bytes-at
returns-then-bytes-at c = no_byte _ _ _ c.if-bytes-at.true

pub returns-then-not-is_known : goal.returns-then-not-is_known
returns-then-not-is_known c = no-command _ _ _ c.if-bytes-at.false (sym c.is_known.ensures ∙ c.if-not-is_known.true)

pub returns-then-bytes-at-2 : goal.returns-then-bytes-at-2
returns-then-bytes-at-2 c = no-operands _ _ _ _ c.operand_count.ensures c.if-bytes-at.false (sym c.is_known.ensures ∙ c.if-not-is_known.false) c.if-bytes-at-2.true

pub command_at-c-requires : goal.command_at-c-requires
command_at-c-requires c = (c.if-bytes-at.false, operands-there _ _ _ c.operand_count.ensures c.if-bytes-at-2.false)

pub returns-then-not-is_in_place : goal.returns-then-not-is_in_place
returns-then-not-is_in_place c =
    let w = (whole c.if-bytes-at.false c.is_known.ensures c.if-not-is_known.false c.operand_count.ensures c.if-bytes-at-2.false c.command_at-c.ensures) in
    no_place _ w (sym c.is_in_place.ensures ∙ c.if-not-is_in_place.true)

pub returns-then-not-is_within_limits : goal.returns-then-not-is_within_limits
returns-then-not-is_within_limits c =
    let w = (whole c.if-bytes-at.false c.is_known.ensures c.if-not-is_known.false c.operand_count.ensures c.if-bytes-at-2.false c.command_at-c.ensures) in
    no-limits _ w (sym c.is_in_place.ensures ∙ c.if-not-is_in_place.false) (sym c.is_within_limits.ensures ∙ c.if-not-is_within_limits.true)

pub is_first_time-requires : goal.is_first_time-requires
is_first_time-requires c = (c.requires, sym c.is_within_limits.ensures ∙ c.if-not-is_within_limits.false)

pub returns-then-not-is_first_time : goal.returns-then-not-is_first_time
returns-then-not-is_first_time c =
    let w = (whole c.if-bytes-at.false c.is_known.ensures c.if-not-is_known.false c.operand_count.ensures c.if-bytes-at-2.false c.command_at-c.ensures) in
    no-first _ w (sym c.is_in_place.ensures ∙ c.if-not-is_in_place.false) (sym c.is_within_limits.ensures ∙ c.if-not-is_within_limits.false) (sym c.is_first_time.ensures ∙ c.if-not-is_first_time.true)

pub returns-then-not-is_complete_at_end : goal.returns-then-not-is_complete_at_end
returns-then-not-is_complete_at_end c =
    let w = (whole c.if-bytes-at.false c.is_known.ensures c.if-not-is_known.false c.operand_count.ensures c.if-bytes-at-2.false c.command_at-c.ensures) in
    no-end _ w (sym c.is_in_place.ensures ∙ c.if-not-is_in_place.false) (sym c.is_within_limits.ensures ∙ c.if-not-is_within_limits.false) (sym c.is_first_time.ensures ∙ c.if-not-is_first_time.false) (sym c.is_complete_at_end.ensures ∙ c.if-not-is_complete_at_end.true)

pub returns : goal.returns
returns c =
    let w = (whole c.if-bytes-at.false c.is_known.ensures c.if-not-is_known.false c.operand_count.ensures c.if-bytes-at-2.false c.command_at-c.ensures) in
    yes _ w (sym c.is_in_place.ensures ∙ c.if-not-is_in_place.false) (sym c.is_within_limits.ensures ∙ c.if-not-is_within_limits.false) (sym c.is_first_time.ensures ∙ c.if-not-is_first_time.false) (sym c.is_complete_at_end.ensures ∙ c.if-not-is_complete_at_end.false)
