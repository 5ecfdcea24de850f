-- `read_state` meets its contract: the word, the number, and the first byte behind them. Assumes nothing.
use mathlib.Core.Path.{◌≡◌, refl}
use borrow.Author.Rules.{rules}
use Rattle.std.specs.Prelude.{Err}
use Rattle.hanoi_body.proofs.Rows.{state-within, state-no-word, state-no-number, state-no-edge, state-read}
use Rattle.hanoi_body.proofs.read_state.Goals as goal

pub returns-in_err-word : goal.returns-in_err-word
returns-in_err-word c = let e : c.from_residual.result ≡ Err c.in_err-word.field-0.0 = search rules in rw e (state-no-word _ _ c.args.row _ refl _ c.in_err-word.ensures)

pub read_number-requires : goal.read_number-requires
read_number-requires c = (state-within _ _ _ _ refl c.in_ok-word.ensures, c.requires.1)

pub returns-in_err-number : goal.returns-in_err-number
returns-in_err-number c = let e : c.from_residual-in_err-number.result ≡ Err c.in_err-number.field-0.0 = search rules in rw e (state-no-number _ _ _ _ refl _ c.in_ok-word.ensures _ c.in_err-number.ensures)

pub returns-in_err-first : goal.returns-in_err-first
returns-in_err-first c = let e : c.from_residual-in_err-first.result ≡ Err c.in_err-first.field-0.0 = search rules in rw e (state-no-edge _ _ _ _ refl _ c.in_ok-word.ensures _ c.in_ok-number.ensures _ c.in_err-first.ensures)

pub returns : goal.returns
returns c = state-read _ _ _ _ refl _ c.in_ok-word.ensures _ c.in_ok-number.ensures _ c.in_ok-first.ensures
