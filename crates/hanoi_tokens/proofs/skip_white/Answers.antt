use mathlib.Core.Path.{sym}
use Rattle.hanoi_tokens.proofs.Tokens.{skipped-none, skipped-more, skipped-all, skipped-end}
use Rattle.hanoi_tokens.proofs.skip_white.Goals as goal

pub loop-i-init : goal.loop-i-init
loop-i-init c = skipped-none _ _ c.requires

pub returns-then-not-is_white : goal.returns-then-not-is_white
returns-then-not-is_white c = skipped-all _ _ _ c.loop-i.invariant (λ h. sym c.if-not-is_white.ensures)

pub loop-i-preserved : goal.loop-i-preserved
loop-i-preserved c = skipped-more _ _ _ c.loop-i.invariant c.loop-i-test.true (sym c.if-not-is_white.ensures)

pub returns : goal.returns
returns c = skipped-end _ _ _ c.loop-i.invariant c.loop-i-test.false
