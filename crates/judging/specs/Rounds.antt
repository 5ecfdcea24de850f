-- What the loops of judging hold: what a run has come to after some letters.
use Rattle.std.specs.Prelude.{ℕ, min, ◌||◌, List, eqb, Result, Ok, Err}
use Rattle.std.specs.Int.Bits.{bit_or}
use Rattle.refusals.specs.declared.Refusal.{Refusal}
use Rattle.refusals.specs.Refusals.{number}
use Rattle.recurrence.specs.Runs.{through}
use Rattle.masks.specs.Masks.{set_of}
use Rattle.policy.specs.declared.Policy.{Policy}
use Rattle.running.specs.declared.Run.{Run}
use Rattle.running.specs.declared.Met.{Met}
use Rattle.running.specs.Running.{policy_step, policy_meets, reading_of}
use Rattle.judging.specs.declared.Seen.{Seen}
use Rattle.judging.specs.declared.Coloured.{Coloured}

-- ---- rows
-- the run
abbrev pub run_of : Seen → Run
run_of s = record { state = s.state }

-- after a reading more
abbrev pub seen_with : Seen → Result Met Refusal → Seen
seen_with s (Ok m) = record { state = m.run.state; least = min m.priority s.least; dangling = s.dangling }
seen_with s (Err e) = record { state = s.state; least = s.least; dangling = s.dangling || eqb (number e) 13 }

module _ (letters : ℕ) (targets priorities : List ℕ) where
  unfoldable pub seen_step : Seen → ℕ → Seen
  seen_step s a = seen_with s (reading_of letters targets priorities (run_of s) a)

  -- after a list of letters
  abbrev pub seen_after : List ℕ → Seen → Seen
  seen_after w = through seen_step w

-- ---- policies
module _ (p : Policy) where
  -- after a letter more
  unfoldable pub coloured_step : Coloured → ℕ → Coloured
  coloured_step m a = record { state = policy_step p m.state a; colours = bit_or m.colours (set_of (policy_meets p m.state a)) }

  -- after a list of letters
  abbrev pub coloured_after : List ℕ → Coloured → Coloured
  coloured_after w = through coloured_step w
