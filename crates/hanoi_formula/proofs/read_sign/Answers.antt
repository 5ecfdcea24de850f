-- `read_sign` meets its contract: each byte leads where the reader of documents goes. Assumes nothing.
use Prim.Native.Nat.{ℕ}
use mathlib.Core.Path.{◌≡◌, sym, ap, ◌∙◌}
use mathlib.Core.Bool.{true≢false}
use lib.Dec.{eqb}
use borrow.Author.Rules.{rules}
use Rattle.std.specs.Prelude.{Err}
use Rattle.hanoi_formula.proofs.Operands.{sign-stopped, sign-and, sign-or, sign-closes, sign-other, sign-not-spelled, sign-body}
use Rattle.hanoi_formula.proofs.read_sign.Goals as goal

pub returns-in_err-first : goal.returns-in_err-first
returns-in_err-first c = let e : c.from_residual.result ≡ Err c.in_err-first.field-0.0 = search rules in rw e (sign-stopped c.args.text.now c.args.at c.args.bar c.args.deep _ c.in_err-first.ensures)

pub returns-in_err-end-in-45 : goal.returns-in_err-end-in-45
returns-in_err-end-in-45 c = let e : c.from_residual-in_err-end-in-45.result ≡ Err c.in_err-end-in-45.field-0.0 = search rules in rw e (sign-not-spelled _ _ _ c.args.deep _ c.in_ok-first.ensures c.if-not-deep.true c.in-45.is _ c.in_err-end-in-45.ensures)

pub returns-in-38 : goal.returns-in-38
returns-in-38 c = sign-and _ _ _ c.args.deep _ c.in_ok-first.ensures c.in-38.is

pub returns-in-124 : goal.returns-in-124
returns-in-124 c = sign-or _ _ _ c.args.deep _ c.in_ok-first.ensures c.in-124.is

pub returns-in-41 : goal.returns-in-41
returns-in-41 c = sign-closes _ _ _ c.args.deep _ c.in_ok-first.ensures c.if-deep.true c.in-41.is

pub returns-in_ok-end-in-45 : goal.returns-in_ok-end-in-45
returns-in_ok-end-in-45 c = sign-body _ _ _ c.args.deep _ c.in_ok-first.ensures c.if-not-deep.true c.in-45.is _ c.in_ok-end-in-45.ensures

-- a parenthesis where none is open
pub returns-in_default : goal.returns-in_default
returns-in_default c = sign-other _ _ _ c.args.deep _ c.in_ok-first.ensures (ap (λ (x : ℕ). eqb x 38) c.in-41.is) (ap (λ (x : ℕ). eqb x 124) c.in-41.is) (λ p. absurd (true≢false (sym p ∙ c.if-deep.false))) (λ p. ap (λ (x : ℕ). eqb x 45) c.in-41.is)

-- the end where one is
pub returns-in_default-2 : goal.returns-in_default-2
returns-in_default-2 c = sign-other _ _ _ c.args.deep _ c.in_ok-first.ensures (ap (λ (x : ℕ). eqb x 38) c.in-45.is) (ap (λ (x : ℕ). eqb x 124) c.in-45.is) (λ p. ap (λ (x : ℕ). eqb x 41) c.in-45.is) (λ p. absurd (true≢false (sym c.if-not-deep.false ∙ p)))

pub returns-in_default-3 : goal.returns-in_default-3
returns-in_default-3 c = sign-other _ _ _ c.args.deep _ c.in_ok-first.ensures (search rules) (search rules) (λ p. search rules) (λ p. search rules)
