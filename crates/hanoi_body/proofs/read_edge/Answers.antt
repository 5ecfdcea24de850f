-- `read_edge` meets its contract: a target, then marks in braces or none. Assumes nothing.
use mathlib.Core.Path.{◌≡◌}
use borrow.Author.Rules.{rules}
use Rattle.std.specs.Prelude.{Err}
use Rattle.hanoi_body.proofs.Edges.{edge_none, edge-breaks, edge-plain, edge-unmarked, edge-open, edge-marked}
use Rattle.hanoi_body.proofs.read_edge.Goals as goal

pub returns-in_err-target : goal.returns-in_err-target
returns-in_err-target c = let e : c.from_residual.result ≡ Err c.in_err-target.field-0.0 = search rules in rw e (edge_none _ _ _ c.args.sets _ c.in_err-target.ensures)

pub returns-in_err-first : goal.returns-in_err-first
returns-in_err-first c = let e : c.from_residual-in_err-first.result ≡ Err c.in_err-first.field-0.0 = search rules in rw e (edge-breaks _ _ _ c.args.sets _ c.in_ok-target.ensures _ c.in_err-first.ensures)

pub returns-then-first-ne123 : goal.returns-then-first-ne123
returns-then-first-ne123 c = edge-plain _ _ _ c.args.sets _ c.in_ok-target.ensures _ c.in_ok-first.ensures c.if-first-ne123.true

pub returns-in_err-braces : goal.returns-in_err-braces
returns-in_err-braces c = let e : c.from_residual-in_err-braces.result ≡ Err c.in_err-braces.field-0.0 = search rules in rw e (edge-unmarked _ _ _ _ _ c.in_ok-target.ensures _ c.in_ok-first.ensures c.if-first-ne123.false _ c.in_err-braces.ensures)

pub returns-in_err-behind : goal.returns-in_err-behind
returns-in_err-behind c = let e : c.from_residual-in_err-behind.result ≡ Err c.in_err-behind.field-0.0 = search rules in rw e (edge-open _ _ _ _ _ c.in_ok-target.ensures _ c.in_ok-first.ensures c.if-first-ne123.false _ c.in_ok-braces.ensures _ c.in_err-behind.ensures)

pub returns : goal.returns
returns c = edge-marked _ _ _ _ _ c.in_ok-target.ensures _ c.in_ok-first.ensures c.if-first-ne123.false _ c.in_ok-braces.ensures _ c.in_ok-behind.ensures
