-- `read_end` meets its contract: the last word, then white space alone. Assumes nothing.
use mathlib.Core.Path.{◌≡◌, refl}
use borrow.Author.Rules.{rules}
use Rattle.std.specs.Prelude.{Err}
use Rattle.hanoi_body.proofs.Rows.{end-within, end-no-word, end-other, end_read}
use Rattle.hanoi_body.proofs.read_end.Goals as goal

pub returns-in_err-word : goal.returns-in_err-word
returns-in_err-word c = let e : c.from_residual.result ≡ Err c.in_err-word.field-0.0 = search rules in rw e (end-no-word _ _ _ refl _ c.in_err-word.ensures)

pub skip_white-end-requires : goal.skip_white-end-requires
skip_white-end-requires c = end-within _ _ _ _ refl c.in_ok-word.ensures

pub returns-then-end-text : goal.returns-then-end-text
returns-then-end-text c = end-other _ _ _ refl _ c.in_ok-word.ensures _ c.skip_white-end.ensures c.if-end-text.true

pub returns : goal.returns
returns c = end_read _ _ _ refl _ c.in_ok-word.ensures _ c.skip_white-end.ensures c.if-end-text.false
