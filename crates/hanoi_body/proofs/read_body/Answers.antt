use mathlib.Core.Path.{◌≡◌}
use borrow.Author.Rules.{rules}
use Rattle.std.specs.Prelude.{Err}
use Rattle.hanoi_body.proofs.States.{body-none, body_more, body-stops, body-no-end, body-read}
use Rattle.hanoi_body.proofs.read_body.Goals as goal

pub loop-i-init : goal.loop-i-init
loop-i-init c = body-none _ _ _ _ _ _ c.requires.1 c.requires.0

pub returns-in_err-body : goal.returns-in_err-body
returns-in_err-body c = let e : c.from_residual.result ≡ Err c.in_err-body.field-0.0 = search rules in rw e (body-stops _ _ _ _ _ _ _ _ c.loop-i.invariant _ c.in_err-body.ensures)

pub loop-i-preserved : goal.loop-i-preserved
loop-i-preserved c = body_more _ _ _ _ _ _ _ _ c.loop-i.invariant c.loop-i-test.true _ c.in_ok-body.ensures

pub returns-in_err-body-2 : goal.returns-in_err-body-2
returns-in_err-body-2 c = let e : c.from_residual-in_err-body-2.result ≡ Err c.in_err-body-2.field-0.0 = search rules in rw e (body-no-end _ _ _ _ _ _ _ _ c.loop-i.invariant c.loop-i-test.false _ c.in_err-body-2.ensures)

pub returns : goal.returns
returns c = body-read _ _ _ _ _ _ _ _ c.loop-i.invariant c.loop-i-test.false _ c.in_ok-body-2.ensures
