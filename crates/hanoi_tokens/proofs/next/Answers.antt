-- `next` meets its contract: behind the white space stands the first byte of a token, a barred one, or the end. Assumes nothing.
use mathlib.Core.Path.{sym, ◌∙◌}
use mathlib.Core.Bool.{true≢false}
use Rattle.hanoi_tokens.proofs.Tokens.{begins-free, begins-barred, begins-end}
use Rattle.hanoi_tokens.proofs.next.Goals.{else-bar-via-then-bar+then-i-at+else-goes_on, else-bar-via-then-bar+else-i-at, else-bar-via-else-bar}
use Rattle.hanoi_tokens.proofs.next.Goals as goal

pub returns-then-text-i : goal.returns-then-text-i
returns-then-text-i c = begins-end _ _ _ _ c.skip_white-i.ensures c.if-text-i.true

-- bar, directly behind a token, a byte of a name
pub returns-then-goes_on : goal.returns-then-goes_on
returns-then-goes_on c = begins-barred _ _ _ _ c.skip_white-i.ensures c.if-text-i.false c.if-bar.true c.if-i-at.true (sym c.if-goes_on.ensures)

pub returns : goal.returns
returns c = begins-free _ _ _ _ c.skip_white-i.ensures c.if-text-i.false (λ t e g. elim c.else-bar.branch [
  | else-bar-via-then-bar+then-i-at+else-goes_on w ↦ true≢false (sym g ∙ sym w.if-goes_on.ensures)
  | else-bar-via-then-bar+else-i-at w ↦ w.if-i-at.false e
  | else-bar-via-else-bar w ↦ true≢false (sym t ∙ w.if-bar.false)
])
