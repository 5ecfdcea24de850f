use Rattle.lists.proofs.Bools.{neqb}
use Rattle.hanoi_tokens.proofs.Tokens.{spelled_none, spelled-more, spelled-other, spelled-end, spelled-whole}
use Rattle.hanoi_tokens.proofs.spelled.Goals.{then-text-n-via-then-text-n, then-text-n-via-else-text-n+then-text-n-2}
use Rattle.hanoi_tokens.proofs.spelled.Goals as goal

pub loop-i-init : goal.loop-i-init
loop-i-init c = spelled_none _ _ _ c.requires

pub returns-then-text-n : goal.returns-then-text-n
returns-then-text-n c = elim c.then-text-n.branch [
  | then-text-n-via-then-text-n w ↦ spelled-end _ _ _ _ c.loop-i.invariant c.loop-i-test.true w.if-text-n.true
  | then-text-n-via-else-text-n+then-text-n-2 w ↦ spelled-other _ _ _ _ c.loop-i.invariant c.loop-i-test.true w.if-text-n.false (neqb _ _ w.if-text-n-2.true)
]

pub loop-i-preserved : goal.loop-i-preserved
loop-i-preserved c = spelled-more _ _ _ _ c.loop-i.invariant c.loop-i-test.true c.if-text-n.false c.if-text-n-2.false

pub returns : goal.returns
returns c = spelled-whole _ _ _ _ c.loop-i.invariant c.loop-i.auto.i-end c.loop-i-test.false
