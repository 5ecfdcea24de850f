-- `answer_after` meets its contract. Assumes nothing.
use mathlib.Core.Path.{sym, ap, ◌∙◌}
use Rattle.std.specs.Prelude.{Result, Err}
use Rattle.std.proofs.lemmas.Result.{err_from_is_err_and}
use Rattle.refusals.specs.declared.Refusal.{Refusal}
use Rattle.builder.specs.declared.Counts.{Counts}
use Rattle.solving.specs.Stages.{answer_after}
use Rattle.solving.proofs.OwnersLaws.{owners-refused, owners-passed}
use Rattle.solving.proofs.answer_after.Goals as goal

pub returns-in_err-counts : goal.returns-in_err-counts
unfolding answer_after
returns-in_err-counts c =
    let a = c.args in
    let p = err_from_is_err_and c.from_residual.result c.from_residual.ensures.1 in
    p.1 ∙ ap Err p.2 ∙ ap (λ (x : Result Counts Refusal). answer_after x a.states a.owners.now) (sym c.in_err-counts.was)

pub returns-in_err-ask_owners : goal.returns-in_err-ask_owners
returns-in_err-ask_owners c =
    let a = c.args in
    let p = err_from_is_err_and c.from_residual-in_err-ask_owners.result c.from_residual-in_err-ask_owners.ensures.1 in
    p.1 ∙ ap Err p.2 ∙ owners-refused a.states a.owners.now c.in_ok-counts.counts (sym c.ask_owners.ensures ∙ c.in_err-ask_owners.was) ∙ ap (λ (x : Result Counts Refusal). answer_after x a.states a.owners.now) (sym c.in_ok-counts.was)

pub returns : goal.returns
returns c =
    let a = c.args in
    owners-passed a.states a.owners.now c.in_ok-counts.counts (sym c.ask_owners.ensures ∙ c.in_ok-ask_owners.was) ∙ ap (λ (x : Result Counts Refusal). answer_after x a.states a.owners.now) (sym c.in_ok-counts.was)
