-- The defined row tables are rows: what running reads in them is what the built automaton says. Assumes nothing.
use Prim.Native.Nat.{ℕ, ◌/◌, ◌%◌, ◌≤◌, ◌<◌}
use native.Mathlib.Omega.{arith}
use native.Mathlib.Nat.{mul-mod_left, mul-div_cancel}
use mathlib.Core.Path.{◌≡◌, sym, ap, ◌∙◌}
use mathlib.Core.Bool.{true}
use lib.Dec.{leb}
use lib.ListN.{length}
use borrow.Author.Tests.{le-leb}
use Rattle.lists.proofs.Bools.{≡eqb}
use Rattle.policy.specs.declared.Policy.{Policy}
use Rattle.policy.specs.Policies.{legal}
use Rattle.policy.proofs.Laws.{legal-counts}
use Rattle.automaton.specs.Automaton.{built, row_targets, row_priorities}
use Rattle.automaton.proofs.RowTables.{targets_long, priorities_long, row-target, row-priority}
use Rattle.running.specs.Running.{row_states, shaped}
use Rattle.correctness.proofs.BuiltRows.{Rows}

module _ (p : Policy) where
  states_are : 0 < p.letters → row_states p.letters (row_targets p) (row_priorities p) ≡ length (built p)
  unfolding row_states
  states_are h = ap (λ (n : ℕ). n / p.letters) (targets_long p) ∙ mul-div_cancel (length (built p)) h

  shape : legal p ≡ true → length (built p) ≤ 65535 → shaped p.letters (row_targets p) (row_priorities p) ≡ true
  unfolding shaped
  shape ok few =
      let c = legal-counts p ok in
      rw (
        le-leb 1 p.letters c.letters_some,
        le-leb p.letters 8 c.letters_few,
        ≡eqb (length (row_targets p)) (length (row_priorities p)) (targets_long p ∙ sym (priorities_long p)),
        ≡eqb (length (row_targets p) % p.letters) 0 (ap (λ (n : ℕ). n % p.letters) (targets_long p) ∙ mul-mod_left (length (built p)) p.letters),
      )
      (ap (λ (n : ℕ). leb n 65535) (states_are c.letters_some) ∙ le-leb (length (built p)) 65535 few)

pub rows_of : (p : Policy) → legal p ≡ true → length (built p) ≤ 65535 → Rows p (row_targets p) (row_priorities p)
rows_of p ok few = record {
  passes = shape p ok few;
  enough = omega (arith, states_are p (legal-counts p ok).letters_some);
  targets_are = row-target p;
  priorities_are = row-priority p;
}
