use borrow.Author.Rules.{rules}
use mathlib.Core.Path.{sym}
use Rattle.lists.proofs.Bools.{not-true, unnot}
use Rattle.hanoi_header.proofs.Names.{naming-all, names-stopped, names-old, naming-more}
use Rattle.hanoi_header.proofs.read_names.Goals as goal

pub returns-in_err-name : goal.returns-in_err-name
returns-in_err-name c = search (rules, names-stopped _ _ _ c.requires.1 _ _ _ c.loop-n.invariant c.loop-n-test.true _ c.in_err-name.ensures)

pub returns-then-not-is_new : goal.returns-then-not-is_new
returns-then-not-is_new c = names-old _ _ _ c.requires.1 _ _ _ c.loop-n.invariant c.loop-n-test.true _ c.in_ok-name.ensures (unnot _ (sym c.if-not-is_new.ensures))

pub loop-n-preserved : goal.loop-n-preserved
loop-n-preserved c = naming-more _ _ _ c.requires.1 _ _ _ c.loop-n.invariant c.loop-n-test.true _ c.in_ok-name.ensures (not-true _ (sym c.if-not-is_new.ensures))

pub returns : goal.returns
returns c = naming-all _ _ _ _ _ _ c.loop-n.invariant c.loop-n.auto.n-end c.loop-n-test.false c.requires.1
