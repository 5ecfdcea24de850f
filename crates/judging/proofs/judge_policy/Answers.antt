-- Each answer is the definition's by the questions that led there; what the search holds is what the definition's window holds. Assumes nothing.
use Rattle.std.proofs.Common.{◌<◌, refl, sym, ap₂, ◌∙◌, subst, ◌&&◌}
use Rattle.policy.specs.Policies.{in_family}
use Rattle.judging.specs.declared.Coloured.{Coloured}
use Rattle.judging.proofs.Laws.{none_of, some_of}
use Rattle.judging.proofs.Answers.{policy-7, policy-11, policy-14, policy-12, policy-none, judges-policy-refused, judges-policy-judged}
use Rattle.judging.proofs.Colours.{word-within, colours-after}
use Rattle.judging.proofs.judge_policy.Goals as goal

pub returns-then-not-is_legal : goal.returns-then-not-is_legal
returns-then-not-is_legal c = judges-policy-refused _ _ _ _ 7 (policy-7 _ _ _ _ (sym c.is_legal.ensures ∙ c.if-not-is_legal.true)) refl

pub returns-then-p-state : goal.returns-then-p-state
returns-then-p-state c = judges-policy-refused _ _ _ _ 11 (policy-11 _ _ _ _ (sym c.is_legal.ensures ∙ c.if-not-is_legal.false) c.if-p-state.true) refl

pub returns-then-is_empty : goal.returns-then-is_empty
returns-then-is_empty c =
    judges-policy-refused _ _ _ _ 14 (policy-14 _ _ _ _ (sym c.is_legal.ensures ∙ c.if-not-is_legal.false) c.if-p-state.false (none_of c.args.period.now c.if-is_empty.ensures)) refl

pub returns-then-not-in_range : goal.returns-then-not-in_range
returns-then-not-in_range c =
    judges-policy-refused _ _ _ _ 12
    (policy-12 _ _ _ _ (sym c.is_legal.ensures ∙ c.if-not-is_legal.false) c.if-p-state.false (some_of c.args.period.now c.if-is_empty.ensures) (sym (ap₂ ◌&&◌ c.in_range.ensures c.in_range-2.ensures) ∙ c.if-not-in_range.true)) refl

pub coloured_recurring-all-requires-clause-among : goal.coloured_recurring-all-requires-clause-among
coloured_recurring-all-requires-clause-among c =
    subst (λ (m : Coloured). m.state < c.args.p.now.states) (sym c.coloured_word-before.ensures)
    (word-within c.args.p.now (sym c.is_legal.ensures ∙ c.if-not-is_legal.false) c.args.stem.now _ (rw c.from.ensures c.if-p-state.false))

pub returns : goal.returns
unfolding in_family
returns c =
    let a = c.args in
    let is = c.coloured_recurring-all.ensures ∙ colours-after a.p.now a.state a.stem.now a.period.now _ (rw c.from.ensures at c.coloured_word-before.ensures) in
    rw c.from-2.ensures
    (judges-policy-judged a.p.now a.state a.stem.now a.period.now
    (policy-none _ _ _ _ (sym c.is_legal.ensures ∙ c.if-not-is_legal.false) c.if-p-state.false (some_of a.period.now c.if-is_empty.ensures) (sym (ap₂ ◌&&◌ c.in_range.ensures c.in_range-2.ensures) ∙ c.if-not-in_range.false))
    _ is)
