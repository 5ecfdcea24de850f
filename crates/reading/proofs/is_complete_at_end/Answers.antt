-- `reading::is_complete_at_end` meets its contract: each command's case.
-- Assumes nothing.
use mathlib.Core.Path.{sym, ap}
use Rattle.policy.specs.Policies.{edges}
use Rattle.reading.specs.Reading.{complete_at_end}
use Rattle.reading.proofs.is_complete_at_end.Goals as goal

pub all_given-requires : goal.all_given-requires
unfolding edges
all_given-requires c = rw c.edges.ensures c.requires.few_edges

pub returns-in-End : goal.returns-in-End
unfolding complete_at_end edges
returns-in-End c = rw (c.all_given.ensures, c.edges.ensures) (sym (ap (complete_at_end (record { policy = c.args.p.now; given = c.args.given })) c.in-End.is))

pub returns-in-Shape : goal.returns-in-Shape
unfolding complete_at_end
returns-in-Shape c = sym (ap (complete_at_end (record { policy = c.args.p.now; given = c.args.given })) c.in-Shape.is)

pub returns-in-Edge : goal.returns-in-Edge
unfolding complete_at_end
returns-in-Edge c = sym (ap (complete_at_end (record { policy = c.args.p.now; given = c.args.given })) c.in-Edge.is)

pub returns-in-Accept : goal.returns-in-Accept
unfolding complete_at_end
returns-in-Accept c = sym (ap (complete_at_end (record { policy = c.args.p.now; given = c.args.given })) c.in-Accept.is)

pub returns-in-Quiet : goal.returns-in-Quiet
unfolding complete_at_end
returns-in-Quiet c = sym (ap (complete_at_end (record { policy = c.args.p.now; given = c.args.given })) c.in-Quiet.is)
