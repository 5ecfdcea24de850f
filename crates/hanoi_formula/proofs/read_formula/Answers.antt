use native.Mathlib.Omega.{arith}
use mathlib.Core.Path.{◌≡◌}
use borrow.Author.Rules.{rules}
use Rattle.std.specs.Prelude.{Err}
use Rattle.hanoi_formula.proofs.Formulas.{going-first, going-opens, going-value, operand-stops, going-and, going_or, going-closes, formula-read, sign-stops}
use Rattle.hanoi_formula.proofs.read_formula.Goals as goal

pub loop-operand_next-init : goal.loop-operand_next-init
loop-operand_next-init c = going-first _ _ _ _ _ _ c.start-t.ensures c.requires.0

pub loop-operand_next-preserved-in-Opens : goal.loop-operand_next-preserved-in-Opens
loop-operand_next-preserved-in-Opens c = going-opens _ _ _ c.args.all c.args.lanes.now _ _ _ _ _ _ c.loop-operand_next.invariant c.if-operand_next.true _ _ (rw c.in-Opens.is at c.in_ok-n.ensures) (omega (arith, c.loop-operand_next.invariant.deep, (rw c.in-Opens.is at c.in_ok-n.ensures).0)) c.tell_opens.ensures

pub loop-operand_next-smaller-in-Opens : goal.loop-operand_next-smaller-in-Opens
loop-operand_next-smaller-in-Opens c = omega (arith, (rw c.in-Opens.is at c.in_ok-n.ensures).0, (loop-operand_next-preserved-in-Opens c).within)

pub loop-operand_next-preserved-in-Value : goal.loop-operand_next-preserved-in-Value
loop-operand_next-preserved-in-Value c = going-value _ _ _ c.args.all c.args.lanes.now _ _ _ _ _ _ c.loop-operand_next.invariant c.if-operand_next.true _ _ _ _ (rw c.in-Value.is at c.in_ok-n.ensures) c.tell_operand-t.ensures

pub loop-operand_next-smaller-in-Value : goal.loop-operand_next-smaller-in-Value
loop-operand_next-smaller-in-Value c = omega (arith, (rw c.in-Value.is at c.in_ok-n.ensures).0, (loop-operand_next-preserved-in-Value c).within)

pub returns-in_err-n : goal.returns-in_err-n
returns-in_err-n c = let e : c.from_residual.result ≡ Err c.in_err-n.field-0.0 = search rules in rw e (operand-stops _ _ _ c.args.all c.args.lanes.now _ _ _ _ _ _ c.loop-operand_next.invariant c.if-operand_next.true _ c.in_err-n.ensures)

pub loop-operand_next-preserved-in-And : goal.loop-operand_next-preserved-in-And
loop-operand_next-preserved-in-And c = going-and _ _ _ c.args.all c.args.lanes.now _ _ _ _ _ _ c.loop-operand_next.invariant c.if-operand_next.false _ _ (rw c.in-And.is at c.in_ok-n-2.ensures) c.tell_and-t.ensures

pub loop-operand_next-smaller-in-And : goal.loop-operand_next-smaller-in-And
loop-operand_next-smaller-in-And c = omega (arith, (rw c.in-And.is at c.in_ok-n-2.ensures).0, (loop-operand_next-preserved-in-And c).within)

pub loop-operand_next-preserved-in-Or : goal.loop-operand_next-preserved-in-Or
loop-operand_next-preserved-in-Or c = going_or _ _ _ c.args.all c.args.lanes.now _ _ _ _ _ _ c.loop-operand_next.invariant c.if-operand_next.false _ _ (rw c.in-Or.is at c.in_ok-n-2.ensures) c.tell_or-t.ensures

pub loop-operand_next-smaller-in-Or : goal.loop-operand_next-smaller-in-Or
loop-operand_next-smaller-in-Or c = omega (arith, (rw c.in-Or.is at c.in_ok-n-2.ensures).0, (loop-operand_next-preserved-in-Or c).within)

pub loop-operand_next-preserved : goal.loop-operand_next-preserved
loop-operand_next-preserved c = going-closes _ _ _ c.args.all c.args.lanes.now _ _ _ _ _ _ c.loop-operand_next.invariant c.if-operand_next.false _ _ _ (rw c.in-Closes.is at c.in_ok-n-2.ensures) c.tell_closes-t.ensures

pub loop-operand_next-smaller : goal.loop-operand_next-smaller
loop-operand_next-smaller c = omega (arith, (rw c.in-Closes.is at c.in_ok-n-2.ensures).1, (loop-operand_next-preserved c).within)

pub returns-in-Body : goal.returns-in-Body
returns-in-Body c = formula-read _ _ _ c.args.all c.args.lanes.now _ _ _ _ _ _ c.loop-operand_next.invariant c.if-operand_next.false _ (rw c.in-Body.is at c.in_ok-n-2.ensures)

pub returns-in_err-n-2 : goal.returns-in_err-n-2
returns-in_err-n-2 c = let e : c.from_residual-in_err-n-2.result ≡ Err c.in_err-n-2.field-0.0 = search rules in rw e (sign-stops _ _ _ c.args.all c.args.lanes.now _ _ _ _ _ _ c.loop-operand_next.invariant c.if-operand_next.false _ c.in_err-n-2.ensures)
