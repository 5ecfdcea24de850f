-- `reading::is_within_limits` meets its contract: each command's case.
-- Assumes nothing.
use mathlib.Core.Path.{sym, ap, ◌∙◌}
use Rattle.reading.specs.Reading.{within_limits}
use Rattle.reading.proofs.is_within_limits.Goals as goal

pub returns-in-End : goal.returns-in-End
unfolding within_limits
returns-in-End c = sym (ap (within_limits c.args.p.now) c.in-End.is)

pub returns-in-Shape : goal.returns-in-Shape
unfolding within_limits
returns-in-Shape c = c.counts_fit.ensures ∙ sym (ap (within_limits c.args.p.now) c.in-Shape.is)

pub returns-in-Edge : goal.returns-in-Edge
unfolding within_limits
returns-in-Edge c = sym (ap (within_limits c.args.p.now) c.in-Edge.is)

pub returns-in-Accept : goal.returns-in-Accept
unfolding within_limits
returns-in-Accept c = rw c.sets_of.ensures (sym (ap (within_limits c.args.p.now) c.in-Accept.is))

pub returns-in-Quiet : goal.returns-in-Quiet
unfolding within_limits
returns-in-Quiet c = sym (ap (within_limits c.args.p.now) c.in-Quiet.is)
