-- The four cases of the definition. Assumes nothing.
use borrow.Author.Rules.{rules}
use borrow.Author.Tests.{eq-eqb, ne_eqb}
use Rattle.recurrence.specs.Search.{search_next}
use Rattle.recurrence.proofs.Search.next.Goals as goal

pub returns-then-ended-begun : goal.returns-then-ended-begun
unfolding search_next
returns-then-ended-begun c = rw (eq-eqb _ _ c.if-ended-begun.true)

pub returns-then-ended-s : goal.returns-then-ended-s
unfolding search_next
returns-then-ended-s c = rw (ne_eqb _ _ c.if-ended-begun.false, eq-eqb _ _ c.if-ended-s.true)

pub returns-then-s : goal.returns-then-s
unfolding search_next
returns-then-s c = let e = c.before.before.before.before in rw (ne_eqb _ _ e.if-ended-begun.false, ne_eqb _ _ e.if-ended-s.false, eq-eqb _ _ c.if-s.true)

pub returns-else-s : goal.returns-else-s
unfolding search_next
returns-else-s c = let e = c.before.before.before in rw (ne_eqb _ _ e.if-ended-begun.false, ne_eqb _ _ e.if-ended-s.false, ne_eqb _ _ c.if-s.false)
