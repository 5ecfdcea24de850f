use mathlib.Core.Path.{sym, ◌∙◌, refl}
use lib.ListN.{take}
use Rattle.siblings.proofs.Passing.{outside-more, outside-not, outside-is}
use Rattle.siblings.proofs.is_outside.Goals as goal

pub loop-k-init : goal.loop-k-init
loop-k-init c = refl

pub returns-then-inside : goal.returns-then-inside
returns-then-inside c = sym (outside-not c.args.list.now c.args.kids.now c.args.count c.args.m c.loop-k.k-index c.loop-k-test.true (sym c.inside.ensures ∙ c.if-inside.true))

pub loop-k-preserved : goal.loop-k-preserved
loop-k-preserved c = outside-more c.args.list.now (take c.args.count c.args.kids.now) c.args.m c.loop-k.k-index c.loop-k-test.true c.loop-k.invariant (sym c.inside.ensures ∙ c.if-inside.false)

pub returns : goal.returns
returns c = sym (outside-is c.args.list.now c.args.kids.now c.args.count c.args.m c.loop-k.k-index c.loop-k-test.false c.loop-k.invariant)
