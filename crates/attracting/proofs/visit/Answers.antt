use Rattle.attracting.proofs.Visits.{visit-chosen, visit-open, visit-none, visit-forced}
use Rattle.attracting.proofs.visit.Goals as goal

pub returns-then-own : goal.returns-then-own
returns-then-own c = visit-chosen _ _ _ _ _ _ _ _ _ _ _ _ c.is_owned-own.ensures c.first_letter-a.ensures c.if-mark-k.true c.if-a-g.true c.if-own.true

pub returns-else-own : goal.returns-else-own
returns-else-own c = visit-open _ _ _ _ _ _ _ _ _ _ _ _ c.is_owned-own.ensures c.first_letter-a.ensures c.if-mark-k.true c.if-a-g.true c.if-own.false

pub returns-then-own-2 : goal.returns-then-own-2
returns-then-own-2 c = visit-none _ _ _ _ _ _ _ _ _ _ _ _ c.is_owned-own.ensures c.first_letter-a.ensures c.if-mark-k.true c.if-a-g.false c.if-own-2.true

pub returns-else-own-2 : goal.returns-else-own-2
returns-else-own-2 c = visit-forced _ _ _ _ _ _ _ _ _ _ _ _ c.is_owned-own.ensures c.first_letter-a.ensures c.if-mark-k.true c.if-a-g.false c.if-own-2.false
