-- Reading a letter: each answer is the definition's by the tests that led there, every row asked for is in both tables, and nothing wraps.
-- Assumes nothing.
use native.Mathlib.Omega.{arith}
use Rattle.std.proofs.Common.{ℕ, ◌≤◌, ◌<◌, ◌≡◌, refl, sym, ap, ◌∙◌, subst, true, List, length, get_or, rules, Result, Ok, Err}
use Rattle.refusals.specs.declared.Refusal.{Refusal}
use Rattle.refusals.specs.declared.Refusal.TheVariants.{NoSuchState, NoSuchLetter, NoSuchTarget}
use Rattle.lists.proofs.Numbers.{row_lt}
use Rattle.running.specs.declared.Run.{Run}
use Rattle.running.specs.declared.Met.{Met}
use Rattle.running.specs.Running.{shaped, row_states, states_of, row_of, ReadsLetter}
use Rattle.running.proofs.Laws.{shaped-facts, states-shaped, states-unshaped}
use Rattle.running.proofs.Steps.{refusal-8, refusal-11, refusal-12, refusal-13, refusal-none, reads-refused, reads-moved}
use Rattle.running.proofs.Run.read.Goals as goal

module _ (letters : ℕ) (t p : List ℕ) (r : Run) (a : ℕ) where
  -- question 8 is answered no
  unshaped : (e : Refusal) (x : Result Met Refusal) → Err e ≡ states_of letters t p → x ≡ Err e → ReadsLetter letters t p r a x
  unshaped e x h is =
      let q = states-unshaped letters t p e h in
      subst (ReadsLetter letters t p r a) (sym (is ∙ ap (λ (e : Refusal). Err e) q.1)) (reads-refused letters t p r a 8 (refusal-8 letters t p r a q.0) refl)

  -- past question 8 there are n states
  module _ (n : ℕ) (h : Ok n ≡ states_of letters t p) where
    abbrev ok : shaped letters t p ≡ true
    ok = (states-shaped letters t p n h).0

    abbrev states : n ≡ row_states letters t p
    states = (states-shaped letters t p n h).1

    among : (x : ℕ) → x < n → x < row_states letters t p
    among x l = subst (λ (n : ℕ). x < n) states l

    beyond : (x : ℕ) → n ≤ x → row_states letters t p ≤ x
    beyond x l = subst (λ (n : ℕ). n ≤ x) states l

    no_state : n ≤ r.state → ReadsLetter letters t p r a (Err NoSuchState)
    no_state l = reads-refused letters t p r a 11 (refusal-11 letters t p r a ok (beyond _ l)) refl

    module _ (in_states : r.state < n) where
      no_letter : letters ≤ a → ReadsLetter letters t p r a (Err NoSuchLetter)
      no_letter l = reads-refused letters t p r a 12 (refusal-12 letters t p r a ok (among _ in_states) l) refl

      module _ (in_letters : a < letters) where
        in_targets : row_of letters r.state a < length t
        unfolding row_states
        in_targets = row_lt _ _ _ _ (among _ in_states) in_letters

        in_priorities : row_of letters r.state a < length p
        in_priorities = subst (λ (n : ℕ). row_of letters r.state a < n) (shaped-facts letters t p ok).same in_targets

        no_target : n ≤ get_or t (row_of letters r.state a) 0 → ReadsLetter letters t p r a (Err NoSuchTarget)
        no_target l = reads-refused letters t p r a 13 (refusal-13 letters t p r a ok (among _ in_states) in_letters (beyond _ l)) refl

        moves : get_or t (row_of letters r.state a) 0 < n → ReadsLetter letters t p r a (Ok (record { run = record { state = get_or t (row_of letters r.state a) 0 }; priority = get_or p (row_of letters r.state a) 0 }))
        moves l = reads-moved letters t p r a (refusal-none letters t p r a ok (among _ in_states) in_letters (among _ l))

pub returns-in_err-states : goal.returns-in_err-states
returns-in_err-states c = unshaped _ _ _ _ _ _ _ c.in_err-states.ensures (search rules)

pub returns-then-states-at : goal.returns-then-states-at
returns-then-states-at c = no_state _ _ _ _ _ _ c.in_ok-states.ensures (omega (arith, c.from-at.ensures))

pub returns-then-letters-letter : goal.returns-then-letters-letter
returns-then-letters-letter c = no_letter _ _ _ _ _ _ c.in_ok-states.ensures (omega (arith, c.from-at.ensures)) c.if-letters-letter.true

pub bounds-targets-row : goal.bounds-targets-row
bounds-targets-row c = rw (c.from-at.ensures, c.from.ensures, c.from-a.ensures) (in_targets _ _ _ _ _ _ c.in_ok-states.ensures (omega (arith, c.from-at.ensures)) c.if-letters-letter.false)

pub returns-then-states-from : goal.returns-then-states-from
returns-then-states-from c =
    no_target _ _ _ _ _ _ c.in_ok-states.ensures (omega (arith, c.from-at.ensures)) c.if-letters-letter.false
    (rw (c.from-2.ensures, c.from-at.ensures, c.from.ensures, c.from-a.ensures) at c.if-states-from.true)

pub bounds-priorities-row : goal.bounds-priorities-row
bounds-priorities-row c = rw (c.from-at.ensures, c.from.ensures, c.from-a.ensures) (in_priorities _ _ _ _ _ _ c.in_ok-states.ensures (omega (arith, c.from-at.ensures)) c.if-letters-letter.false)

pub returns : goal.returns
returns c =
    rw (c.from-at.ensures, c.from.ensures, c.from-a.ensures)
    (moves _ _ _ _ _ _ c.in_ok-states.ensures (omega (arith, c.from-at.ensures)) c.if-letters-letter.false
    (rw (c.from-2.ensures, c.from-at.ensures, c.from.ensures, c.from-a.ensures) at c.if-states-from.false))
