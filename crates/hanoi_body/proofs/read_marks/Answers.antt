use native.Mathlib.Omega.{arith}
use mathlib.Core.Path.{◌≡◌}
use borrow.Author.Rules.{rules}
use Rattle.std.specs.Prelude.{Err}
use Rattle.hanoi_body.proofs.Edges.{marking-none, marking-breaks, marking-closed, marking-not, marking-more, mark-small}
use Rattle.hanoi_body.proofs.read_marks.Goals as goal

pub loop-first-init : goal.loop-first-init
loop-first-init c = marking-none _ _ _ c.requires.0

pub returns-in_err-first : goal.returns-in_err-first
returns-in_err-first c = let e : c.from_residual.result ≡ Err c.in_err-first.field-0.0 = search rules in rw e (marking-breaks _ _ _ _ _ c.loop-first.invariant _ c.in_err-first.ensures)

pub returns-then-first-eq125 : goal.returns-then-first-eq125
returns-then-first-eq125 c = marking-closed _ _ _ _ _ c.loop-first.invariant _ c.in_ok-first.ensures c.if-first-eq125.true

pub returns-in_err-mark : goal.returns-in_err-mark
returns-in_err-mark c = let e : c.from_residual-in_err-mark.result ≡ Err c.in_err-mark.field-0.0 = search rules in rw e (marking-not _ _ _ _ _ c.loop-first.invariant _ c.in_ok-first.ensures c.if-first-eq125.false _ c.in_err-mark.ensures)

pub overflow_shl-marks : goal.overflow_shl-marks
overflow_shl-marks c = mark-small _ _ _ _ _ c.loop-first.invariant _ c.in_ok-first.ensures c.if-first-eq125.false _ c.in_ok-mark.ensures c.requires.1

pub loop-first-smaller : goal.loop-first-smaller
loop-first-smaller c = omega (arith, c.in_ok-first.ensures.later, c.in_ok-mark.ensures.later, c.in_ok-mark.ensures.within)

pub loop-first-preserved : goal.loop-first-preserved
loop-first-preserved c = marking-more _ _ _ _ _ c.loop-first.invariant _ c.in_ok-first.ensures c.if-first-eq125.false _ c.in_ok-mark.ensures c.requires.1
