-- `reading::rest` meets its contract: the reading ends within the bytes.
-- Assumes nothing.
use mathlib.Core.Path.{sym, ◌∙◌}
use borrow.Author.Rules.{rules}
use Rattle.reading.proofs.Commands.{end-within, rest_read, rest-refused}
use Rattle.reading.proofs.rest.Goals as goal

pub slice_bounds-result-count : goal.slice_bounds-result-count
slice_bounds-result-count c = end-within c.args.bytes.now (sym c.read.ensures.answer_is ∙ c.in-Ok.is)

pub slice_bounds-result-start : goal.slice_bounds-result-start
slice_bounds-result-start c = let h = end-within c.args.bytes.now (sym c.read.ensures.answer_is ∙ c.in-Ok.is) in search rules

pub returns-in-Ok : goal.returns-in-Ok
returns-in-Ok c = rest_read c.args.bytes.now (sym c.read.ensures.answer_is ∙ c.in-Ok.is)

pub returns-in-Err : goal.returns-in-Err
returns-in-Err c = rest-refused c.args.bytes.now (sym c.read.ensures.answer_is ∙ c.in-Err.is)
