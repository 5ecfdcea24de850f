-- The built automaton as rows, and the two runs over a list of letters: what the proof of demand 3 speaks of between the calls and the laws of the automaton. Assumes nothing.
use Prim.Native.Nat.{ℕ, ◌≤◌, ◌<◌}
use mathlib.Core.Path.{◌≡◌}
use mathlib.Core.Bool.{true}
use mathlib.Core.List.{List}
use lib.ListN.{length, get_or}
use Rattle.recurrence.specs.Runs.{after}
use Rattle.recurrence.proofs.Recurs.{RecursInRun}
use Rattle.policy.specs.declared.Policy.{Policy}
use Rattle.automaton.specs.Automaton.{built, state_at, row_target, row_priority}
use Rattle.running.specs.declared.Run.{Run}
use Rattle.running.specs.Running.{policy_step, policy_meets, row_states, row_of, shaped, row_step, row_meets}

-- row tables that hold every row of the built states and pass running's question 8
pub record Rows (p : Policy) (targets priorities : List ℕ) : Type 0 where
  pub passes : shaped p.letters targets priorities ≡ true
  pub enough : length (built p) ≤ row_states p.letters targets priorities
  pub targets_are : (s a : ℕ) → s < length (built p) → a < p.letters → get_or targets (row_of p.letters s a) 0 ≡ row_target p s a
  pub priorities_are : (s a : ℕ) → s < length (built p) → a < p.letters → get_or priorities (row_of p.letters s a) 0 ≡ row_priority p s a

-- the run is in a built state that stands over the policy's state v
pub record StandsOver (p : Policy) (r : Run) (v : ℕ) : Type 0 where
  pub is-built : r.state < length (built p)
  pub over : (state_at p r.state).state ≡ v

-- ---- the two runs over a list of letters, refused letters included; and what recurs over a stem and then a loop without end
module _ (p : Policy) where
  abbrev pub policy_run : List ℕ → ℕ → ℕ
  policy_run w v = after (policy_step p) (policy_meets p) w v

  abbrev pub RecurringColour : List ℕ → List ℕ → ℕ → ℕ → Type 0
  RecurringColour stem loop v c = RecursInRun (policy_step p) (policy_meets p) stem loop v c

module _ (p : Policy) (targets priorities : List ℕ) where
  abbrev pub built_run : List ℕ → Run → Run
  built_run w r = after (row_step p.letters targets priorities) (row_meets p.letters targets priorities) w r

  abbrev pub RecurringPriority : List ℕ → List ℕ → Run → ℕ → Type 0
  RecurringPriority stem loop r k = RecursInRun (row_step p.letters targets priorities) (row_meets p.letters targets priorities) stem loop r k
