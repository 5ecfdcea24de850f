-- `read_operand` meets its contract: each byte leads where the reader of documents goes. Assumes nothing.
use native.Mathlib.Omega.{arith}
use mathlib.Core.Path.{◌≡◌, ap}
use lib.Dec.{eqb}
use borrow.Author.Rules.{rules}
use Rattle.std.specs.Prelude.{Err}
use Rattle.hanoi_formula.proofs.Operands.{operand-stopped, operand-opens, operand-yes, operand-no, operand-other, inf-stops, inf-value, fin-stops, fin-value}
use Rattle.hanoi_formula.proofs.read_operand.Goals as goal

pub returns-in_err-first : goal.returns-in_err-first
returns-in_err-first c = let e : c.from_residual.result ≡ Err c.in_err-first.field-0.0 = search rules in rw e (operand-stopped c.args.text.now c.args.at c.args.sets c.args.all c.args.lanes.now _ c.in_err-first.ensures)

pub returns-in_err-m-in-73 : goal.returns-in_err-m-in-73
returns-in_err-m-in-73 c = let e : c.from_residual-in_err-m-in-73.result ≡ Err c.in_err-m-in-73.field-0.0 = search rules in rw e (inf-stops _ _ _ c.args.all c.args.lanes.now _ c.in_ok-first.ensures c.if-sets-gt0.true c.in-73.is _ c.in_err-m-in-73.ensures)

pub returns-in_err-m-in-70 : goal.returns-in_err-m-in-70
returns-in_err-m-in-70 c = let e : c.from_residual-in_err-m-in-70.result ≡ Err c.in_err-m-in-70.field-0.0 = search rules in rw e (fin-stops _ _ _ c.args.all c.args.lanes.now _ c.in_ok-first.ensures c.if-sets-gt0-2.true c.in-70.is _ c.in_err-m-in-70.ensures)

pub returns-in-40 : goal.returns-in-40
returns-in-40 c = operand-opens _ _ _ c.args.all c.args.lanes.now _ c.in_ok-first.ensures c.in-40.is

pub returns-in-116 : goal.returns-in-116
returns-in-116 c = operand-yes _ _ _ c.args.all c.args.lanes.now _ c.in_ok-first.ensures c.in-116.is

pub returns-in-102 : goal.returns-in-102
returns-in-102 c = operand-no _ _ _ c.args.all c.args.lanes.now _ c.in_ok-first.ensures c.in-102.is

pub returns-in_ok-m-in-73 : goal.returns-in_ok-m-in-73
returns-in_ok-m-in-73 c = rw c.mark_lanes.ensures (inf-value _ _ _ c.args.all c.args.lanes.now _ c.in_ok-first.ensures c.if-sets-gt0.true c.in-73.is _ c.in_ok-m-in-73.ensures)

pub returns-in_ok-m-in-70 : goal.returns-in_ok-m-in-70
returns-in_ok-m-in-70 c = rw c.mark_lanes-in-70.ensures (fin-value _ _ _ c.args.all c.args.lanes.now _ c.in_ok-first.ensures c.if-sets-gt0-2.true c.in-70.is _ c.in_ok-m-in-70.ensures)

-- `I` where no mark may come
pub returns-in_default : goal.returns-in_default
returns-in_default c =
    let no = c.if-sets-gt0.false in
    operand-other _ _ _ c.args.all c.args.lanes.now _ c.in_ok-first.ensures (ap (λ (x : _). eqb x 40) c.in-73.is) (ap (λ (x : _). eqb x 116) c.in-73.is) (ap (λ (x : _). eqb x 102) c.in-73.is) (λ p. absurd (omega (arith, p, no))) (λ p. absurd (omega (arith, p, no)))

-- and `F`
pub returns-in_default-2 : goal.returns-in_default-2
returns-in_default-2 c =
    let no = c.if-sets-gt0-2.false in
    operand-other _ _ _ c.args.all c.args.lanes.now _ c.in_ok-first.ensures (ap (λ (x : _). eqb x 40) c.in-70.is) (ap (λ (x : _). eqb x 116) c.in-70.is) (ap (λ (x : _). eqb x 102) c.in-70.is) (λ p. absurd (omega (arith, p, no))) (λ p. absurd (omega (arith, p, no)))

pub returns-in_default-3 : goal.returns-in_default-3
returns-in_default-3 c =
    operand-other _ _ _ c.args.all c.args.lanes.now _ c.in_ok-first.ensures (search rules) (search rules) (search rules) (λ p. search rules) (λ p. search rules)
