use native.Mathlib.Omega.{arith}
use mathlib.Core.Path.{◌≡◌}
use borrow.Author.Rules.{rules}
use Rattle.std.specs.Prelude.{Err}
use Rattle.hanoi_body.proofs.Rows.{place-lt, row-no-state, rowing-none, row-no-edge, rowing_more, row_read}
use Rattle.hanoi_body.proofs.read_row.Goals as goal

pub returns-in_err-at : goal.returns-in_err-at
returns-in_err-at c = let e : c.from_residual.result ≡ Err c.in_err-at.field-0.0 = search rules in rw e (row-no-state _ _ c.args.letters c.args.sets c.args.fits _ _ c.requires.1 _ c.in_err-at.ensures)

pub loop-a-init : goal.loop-a-init
loop-a-init c = rowing-none _ _ _ _ _ _ _ c.requires.1 _ c.in_ok-at.ensures

pub returns-in_err-e : goal.returns-in_err-e
returns-in_err-e c = let e : c.from_residual-in_err-e.result ≡ Err c.in_err-e.field-0.0 = search rules in rw e (row-no-edge _ _ _ _ _ _ _ _ _ _ c.loop-a.invariant c.loop-a-test.true _ c.in_err-e.ensures)

pub with_edge-b-requires : goal.with_edge-b-requires
with_edge-b-requires c = λ e. (place-lt _ _ _ _ c.requires.1 c.loop-a-test.true (c.requires.4 e).1, let h = c.requires.4 e in omega (arith, c.in_ok-e.ensures.below, h.0))

pub loop-a-preserved : goal.loop-a-preserved
loop-a-preserved c = rowing_more _ _ _ _ _ _ _ _ _ _ c.loop-a.invariant c.loop-a-test.true _ c.in_ok-e.ensures (λ e. place-lt _ _ _ _ c.requires.1 c.loop-a-test.true (c.requires.4 e).1) _ c.with_edge-b.ensures

pub returns : goal.returns
returns c = row_read _ _ _ _ _ _ _ _ _ _ c.loop-a.invariant c.loop-a-test.false
