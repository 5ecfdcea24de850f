-- `decide` meets its contract: after 8 nothing is done; else the two tables are cleared; and where nothing is refused, the tables are what the solver asks for, and its answer is the one
-- promised. Assumes nothing.
use native.Mathlib.Omega.{arith}
use mathlib.Core.Path.{refl, sym, ap, ◌∙◌}
use Rattle.lists.proofs.Bools.{eqb≡}
use Rattle.std.specs.Prelude.{Err}
use Rattle.std.proofs.lemmas.Result.{err_from_is_err_and}
use Rattle.builder.specs.Tables.{number_of}
use Rattle.solving.proofs.Bridge.{answers-decide}
use Rattle.solving.proofs.Parts.{part-long, part-rows, part-few, part-answers, ready-asks}
use Rattle.solving.proofs.OwnersLaws.{ready-holds, number-some, not-eight}
use Rattle.solving.proofs.SolveLaws.{decides-eight, decides-refused, decides-all}
use Rattle.solving.proofs.decide.Goals as goal

pub returns-then-is_of_lengths : goal.returns-then-is_of_lengths
returns-then-is_of_lengths c =
    let a = c.args in
    decides-eight a.p.now a.owners.now a.answer a.winners.now a.letters.now c.answer_after-decision.ensures (eqb≡ _ _ (sym c.is_of_lengths.ensures ∙ c.if-is_of_lengths.true))

pub returns-in_err-counts : goal.returns-in_err-counts
returns-in_err-counts c =
    let a = c.args in
    let p = err_from_is_err_and c.from_residual.result c.from_residual.ensures.1 in
    let same = p.1 ∙ ap Err p.2 ∙ sym c.in_err-counts.was in
    let other = not-eight (ap number_of same) (sym c.is_of_lengths.ensures ∙ c.if-is_of_lengths.false) in
    decides-refused a.p.now a.owners.now a.answer a.winners.now a.letters.now (same ∙ c.answer_after-decision.ensures) other (number-some p.1) c.clear.ensures c.clear-2.ensures

pub slice_bounds-game-end : goal.slice_bounds-game-end
slice_bounds-game-end c =
    let a = c.args in
    let asks = ready-asks a.p.now c.requires.policy a.owners.now a.sources.now a.targets.now a.priorities.now a.answer c.requires.tables.0 (sym c.in_ok-counts.was ∙ c.answer_after-decision.ensures) in
    sym (part-long _ _ _ _ _ _ asks.0)

pub invariant_of-game : goal.invariant_of-game
invariant_of-game c =
    let a = c.args in
    let asks = ready-asks a.p.now c.requires.policy a.owners.now a.sources.now a.targets.now a.priorities.now a.answer c.requires.tables.0 (sym c.in_ok-counts.was ∙ c.answer_after-decision.ensures) in
    record { rows = part-rows _ _ _ _ _ _ asks.0 }

pub solve_rows-requires : goal.solve_rows-requires
solve_rows-requires c =
    let a = c.args in
    let asks = ready-asks a.p.now c.requires.policy a.owners.now a.sources.now a.targets.now a.priorities.now a.answer c.requires.tables.0 (sym c.in_ok-counts.was ∙ c.answer_after-decision.ensures) in
    let long = part-long _ _ _ _ _ _ asks.0 in
    record {
      levels = (asks.1.0, part-few _ _ _ _ _ _ asks.0 asks.1.1);
      sources_in_bounds = (omega (arith, long, asks.0.sources_long, c.requires.tables.1, c.clear.auto.t), omega (arith, long, asks.0.sources_long, c.requires.tables.2, c.clear-2.auto.t));
    }

pub returns : goal.returns
returns c =
    let a = c.args in
    let is = sym c.in_ok-counts.was ∙ c.answer_after-decision.ensures in
    let r = ready-holds a.p.now a.owners.now a.answer c.requires.tables.0 is in
    let asks = ready-asks a.p.now c.requires.policy a.owners.now a.sources.now a.targets.now a.priorities.now a.answer c.requires.tables.0 (sym c.in_ok-counts.was ∙ c.answer_after-decision.ensures) in
    decides-all a.p.now a.owners.now a.answer a.winners.now a.letters.now is refl
    (answers-decide a.p.now c.requires.policy a.owners.now a.sources.now a.targets.now a.priorities.now r.2 a.winners.now a.letters.now r.0 c.requires.tables.1 c.clear.ensures c.clear-2.ensures
    (part-answers _ _ _ _ _ _ asks.0 asks.1.0 asks.1.1 _ _ _ _ c.solve_rows.ensures))
