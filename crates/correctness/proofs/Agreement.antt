-- After a call of translating that succeeded, calls of running that are a run of the built automaton stay over the policy's run, and a loop with a letter of the policy has an even least
-- recurring priority exactly if its recurring colours are in the family. Assumes nothing.
use Prim.Native.Nat.{ℕ, zero, suc, ◌<◌}
use mathlib.Core.Path.{◌≡◌, refl, sym, ap, ◌∙◌, subst}
use mathlib.Core.Logic.{◌↔◌}
use mathlib.Core.Bool.{true, cond}
use mathlib.Core.List.{List, [], ◌∷◌, Memᴰ}
use lib.Dec.{eqb, ltb}
use lib.ListN.{take}
use Rattle.lists.specs.Lists.{any}
use Rattle.recurrence.specs.Runs.{after}
use Rattle.policy.specs.declared.Policy.{Policy}
use Rattle.policy.specs.Policies.{legal}
use Rattle.running.specs.declared.Run.{Run}
use Rattle.running.specs.declared.Met.{Met}
use Rattle.std.specs.Prelude.{Result}
use Rattle.refusals.specs.declared.Refusal.{Refusal}
use Rattle.running.specs.Running.{policy_step, policy_meets, reading_of, run_after, priority_of, priorities_of, number_of, row_step, row_meets}
use Rattle.running.proofs.Steps.{reads-letter, reading-meets}
use Rattle.correctness.specs.Calls.{Translating, Running}
use Rattle.correctness.specs.Demand3.{state_count, under, priorities_met, letter_at, Recurs, policy_state, colours_met, BuiltRun, Decided, Agreement}
use Rattle.correctness.proofs.BuiltRows.{Rows, StandsOver, policy_run, built_run, RecurringColour, RecurringPriority}
use Rattle.correctness.proofs.Joint.{stands_after}
use Rattle.correctness.proofs.Period.{settled}
use Rattle.correctness.proofs.Translated.{Success, success-legal, stands-over, over-stands, rows-after}
use Rattle.correctness.proofs.Sequences.{recurs-along}

-- ---- a call of running: what both contracts come to
abbrev pub read_by : Running → Result Met Refusal
read_by c = reading_of c.letters c.targets c.priorities (record { state = c.state }) c.letter

pub record Answered (c : Running) : Type 0 where
  pub number_is : c.number ≡ number_of (read_by c)
  pub next_is : c.next ≡ (run_after (record { state = c.state }) (read_by c)).state
  pub priority_is : c.priority ≡ priority_of (read_by c)

-- what the call meets is what the reading meets
meets-are : (c : Running) → Answered c → cond (eqb c.number 0) (c.priority ∷ []) [] ≡ priorities_of (read_by c)
meets-are c h =
    let run : Run = record { state = c.state } in
    rw (h.number_is, h.priority_is)
    (sym (reading-meets c.letters c.targets c.priorities run c.letter (read_by c) (reads-letter c.letters c.targets c.priorities run c.letter (read_by c) refl)))

module _ (t : Translating) (done : Success t) (stem loop : List ℕ) (calls : ℕ → Running) (answered : (i : ℕ) → Answered (calls i)) (run : BuiltRun stem loop t calls) where
  abbrev p : Policy
  p = t.policy

  ok : legal p ≡ true
  ok = success-legal t done

  abbrev targets : List ℕ
  targets = take run.size t.exit.targets

  abbrev priorities : List ℕ
  priorities = take run.size t.exit.priorities

  rows : Rows p targets priorities
  rows = rows-after t done run.size run.beginning

  -- the policy's state that the run begins over
  abbrev v : ℕ
  v = under t (calls 0).state

  -- ---- the calls as a run over the rows
  abbrev runs : ℕ → Run
  runs i = record { state = (calls i).state }

  abbrev step : Run → ℕ → Run
  step = row_step p.letters targets priorities

  abbrev meets : Run → ℕ → List ℕ
  meets = row_meets p.letters targets priorities

  reading-is : (i : ℕ) → read_by (calls i) ≡ reading_of p.letters targets priorities (runs i) (letter_at stem loop i)
  reading-is i = rw (run.letters_are i, run.targets_are i, run.priorities_are i, run.reads i) refl

  next-run : (i : ℕ) → runs (suc i) ≡ step (runs i) (letter_at stem loop i)
  unfolding row_step
  next-run i = ap {B = Run} (λ (s : ℕ). record { state = s }) (run.goes_on i ∙ (answered i).next_is) ∙ ap (run_after (runs i)) (reading-is i)

  met-is : (i : ℕ) → priorities_met calls i ≡ meets (runs i) (letter_at stem loop i)
  unfolding row_meets
  met-is i = meets-are (calls i) (answered i) ∙ ap priorities_of (reading-is i)

  -- ---- the two runs side by side
  together : (i : ℕ) → StandsOver p (runs i) (policy_state stem loop p v i)
  unfolding policy_state after
  together zero = stands-over t done (runs 0) run.begins
  together (suc i) =
      subst (λ (r : Run). StandsOver p r (policy_state stem loop p v (suc i))) (sym (next-run i))
      (stands_after p ok targets priorities rows (letter_at stem loop i ∷ []) (runs i) (policy_state stem loop p v i) (together i))

  -- ---- what recurs
  priorities-recur : (k : ℕ) → Recurs stem loop (priorities_met calls) k ↔ RecurringPriority p targets priorities stem loop (runs 0) k
  priorities-recur k =
      let e = recurs-along step meets stem loop runs next-run k in (
        λ h. e.0 (λ n. let q = h n in (q.0, q.1, q.2, q.3, subst (Memᴰ k) (met-is q.2) q.4)),
        λ h n. let q = e.1 h n in (q.0, q.1, q.2, q.3, subst (Memᴰ k) (sym (met-is q.2)) q.4),
      )

  colours_recur : (c : ℕ) → Recurs stem loop (colours_met stem loop p v) c ↔ RecurringColour p stem loop v c
  unfolding policy_state colours_met
  colours_recur c = recurs-along (policy_step p) (policy_meets p) stem loop (policy_state stem loop p v) (λ i. refl) c

  decide : any (λ a. ltb a p.letters) loop ≡ true → Decided stem loop t calls
  unfolding policy_state
  decide some =
      let after-stem = stands_after p ok targets priorities rows stem (runs 0) v (together 0) in
      let d = settled p ok targets priorities rows loop some (built_run p targets priorities stem (runs 0)) (policy_run p stem v) after-stem in
      record {
        least = d.least;
        least_recurs = (priorities-recur d.least).1 d.least_recurs;
        least_lowest = λ k h. d.least_lowest k ((priorities-recur k).0 h);
        colours = d.colours;
        colours_recur = λ c. (λ h. (colours_recur c).1 ((d.colours_recur c).0 h), λ h. (d.colours_recur c).1 ((colours_recur c).0 h));
        verdict = d.verdict;
      }

  pub agreement : Agreement stem loop t calls
  agreement =
      let stand : (i : ℕ) → ((calls i).state < state_count t) × (under t (calls i).state ≡ policy_state stem loop p v i) = λ i. over-stands t done (runs i) (policy_state stem loop p v i) (together i) in
      record { stands = λ i. (stand i).0; over = λ i. (stand i).1; decided = decide }
