-- Each answer is the definition's by the questions that led there; what the search holds is what the definition's window holds. Assumes nothing.
use native.Mathlib.Omega.{arith}
use Rattle.std.proofs.Common.{ℕ, ◌≡◌, ◌≤◌, ◌<◌, refl, sym, ap, ap₂, ◌∙◌, subst, true, ◌&&◌, List, rules, Result, Ok, Err}
use Rattle.refusals.specs.declared.Refusal.{Refusal}
use Rattle.running.specs.declared.Run.{Run}
use Rattle.running.specs.Running.{states_of, row_states, shaped}
use Rattle.running.proofs.Laws.{states-shaped, states-unshaped}
use Rattle.judging.specs.declared.Seen.{Seen}
use Rattle.judging.specs.Judging.{JudgesRows}
use Rattle.judging.specs.Rounds.{seen_after}
use Rattle.judging.proofs.Laws.{none_of, some_of}
use Rattle.judging.proofs.Answers.{rows-8, rows-11, rows-14, rows-12, rows-13, rows_none, judges-rows-refused, judges-rows-least}
use Rattle.judging.proofs.Rows.{word-stays, least-after, dangling-after}
use Rattle.judging.proofs.judge_rows.Goals as goal

module _ (letters : ℕ) (t p : List ℕ) where
  -- question 8 is answered no
  unshaped : (r : Run) (stem loop : List ℕ) (e : Refusal) (x : Result ℕ Refusal) → Err e ≡ states_of letters t p → x ≡ Err e → JudgesRows letters t p r stem loop x
  unshaped r stem loop e x h is =
      let q = states-unshaped letters t p e h in
      subst (JudgesRows letters t p r stem loop) (sym (is ∙ ap (λ (e : Refusal). Err e) q.1)) (judges-rows-refused letters t p r stem loop 8 (rows-8 letters t p r stem loop q.0) refl)

  -- past question 8 there are n states
  module _ (n : ℕ) (h : Ok n ≡ states_of letters t p) where
    shape : shaped letters t p ≡ true
    shape = (states-shaped letters t p n h).0

    counted : n ≡ row_states letters t p
    counted = (states-shaped letters t p n h).1

    beyond : (v x : ℕ) → v ≡ x → n ≤ v → row_states letters t p ≤ x
    beyond v x e l = omega (arith, counted)

    among : (v x : ℕ) → v ≡ x → v < n → x < row_states letters t p
    among v x e l = omega (arith, counted)

    stays : (stem : List ℕ) (s : Seen) (one : Seen) → s.state < n → one ≡ seen_after letters t p stem s → one.state < n
    stays stem s one l e =
        subst (λ (s : Seen). s.state < n) (sym e)
        (subst (λ (n : ℕ). (seen_after letters t p stem s).state < n) (sym counted) (word-stays letters t p stem s (subst (λ (n : ℕ). s.state < n) counted l)))

pub returns-in_err-n : goal.returns-in_err-n
returns-in_err-n c = unshaped _ _ _ _ _ _ _ _ c.in_err-n.ensures (search rules)

pub returns-then-n-from : goal.returns-then-n-from
returns-then-n-from c = judges-rows-refused _ _ _ _ _ _ 11 (rows-11 _ _ _ _ _ _ (shape _ _ _ _ c.in_ok-n.ensures) (beyond _ _ _ _ c.in_ok-n.ensures _ _ c.from.ensures c.if-n-from.true)) refl

pub returns-then-is_empty : goal.returns-then-is_empty
returns-then-is_empty c =
    judges-rows-refused _ _ _ _ _ _ 14
    (rows-14 _ _ _ _ _ _ (shape _ _ _ _ c.in_ok-n.ensures) (among _ _ _ _ c.in_ok-n.ensures _ _ c.from.ensures c.if-n-from.false) (none_of c.args.period.now c.if-is_empty.ensures)) refl

pub returns-then-not-in_range : goal.returns-then-not-in_range
returns-then-not-in_range c =
    judges-rows-refused _ _ _ _ _ _ 12
    (rows-12 _ _ _ _ _ _ (shape _ _ _ _ c.in_ok-n.ensures) (among _ _ _ _ c.in_ok-n.ensures _ _ c.from.ensures c.if-n-from.false) (some_of c.args.period.now c.if-is_empty.ensures)
    (sym (ap₂ ◌&&◌ c.in_range.ensures c.in_range-2.ensures) ∙ c.if-not-in_range.true)) refl

pub invariant_of-rows : goal.invariant_of-rows
invariant_of-rows c = record { passes = shape _ _ _ _ c.in_ok-n.ensures; count_is = counted _ _ _ _ c.in_ok-n.ensures }

pub seen_recurring-all-requires-clause-among : goal.seen_recurring-all-requires-clause-among
seen_recurring-all-requires-clause-among c = stays _ _ _ _ c.in_ok-n.ensures _ _ _ (rw c.from-2.ensures (rw c.from.ensures at c.if-n-from.false)) c.seen_word-before.ensures

pub returns-then-all : goal.returns-then-all
returns-then-all c =
    let a = c.args in
    judges-rows-refused _ _ _ _ _ _ 13
    (rows-13 _ _ _ _ _ _ (shape _ _ _ _ c.in_ok-n.ensures) (among _ _ _ _ c.in_ok-n.ensures _ _ c.from.ensures c.if-n-from.false) (some_of a.period.now c.if-is_empty.ensures)
    (sym (ap₂ ◌&&◌ c.in_range.ensures c.in_range-2.ensures) ∙ c.if-not-in_range.false)
    (sym (c.seen_recurring-all.ensures.1 ∙ dangling-after a.letters a.targets.now a.priorities.now (record { state = a.state }) a.stem.now a.period.now _ (rw c.from-2.ensures at c.seen_word-before.ensures)) ∙ c.if-all.true)) refl

pub returns : goal.returns
returns c =
    let a = c.args in
    let r : Run = record { state = a.state } in
    judges-rows-least a.letters a.targets.now a.priorities.now r a.stem.now a.period.now
    (rows_none _ _ _ _ _ _ (shape _ _ _ _ c.in_ok-n.ensures) (among _ _ _ _ c.in_ok-n.ensures _ _ c.from.ensures c.if-n-from.false) (some_of a.period.now c.if-is_empty.ensures)
    (sym (ap₂ ◌&&◌ c.in_range.ensures c.in_range-2.ensures) ∙ c.if-not-in_range.false)
    (sym (c.seen_recurring-all.ensures.1 ∙ dangling-after a.letters a.targets.now a.priorities.now r a.stem.now a.period.now _ (rw c.from-2.ensures at c.seen_word-before.ensures)) ∙ c.if-all.false))
    _ (c.seen_recurring-all.ensures.0 ∙ least-after a.letters a.targets.now a.priorities.now r a.stem.now a.period.now _ (rw c.from-2.ensures at c.seen_word-before.ensures))
