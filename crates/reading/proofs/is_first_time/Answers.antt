-- `reading::is_first_time` meets its contract: each command's case; the edge within the limits has a bit of the mask.
-- Assumes nothing.
use mathlib.Core.Path.{sym, ap, ◌∙◌}
use Rattle.policy.specs.Policies.{in_family}
use Rattle.reading.specs.Reading.{first_time, within_limits}
use Rattle.reading.proofs.Questions.{edge-within, quiet-within}
use Rattle.reading.proofs.is_first_time.Goals as goal

pub has-requires : goal.has-requires
has-requires c = rw c.edge_of.ensures (edge-within c.requires.0 _ _ _ _ (sym (ap (within_limits c.args.p.now) c.in-Edge.is) ∙ c.requires.1))

pub has-requires-in-Quiet : goal.has-requires-in-Quiet
has-requires-in-Quiet c = rw c.edge_of-in-Quiet.ensures (quiet-within c.requires.0 _ _ _ (sym (ap (within_limits c.args.p.now) c.in-Quiet.is) ∙ c.requires.1))

pub returns-in-End : goal.returns-in-End
unfolding first_time
returns-in-End c = sym (ap (first_time (record { policy = c.args.p.now; given = c.args.given })) c.in-End.is)

pub returns-in-Shape : goal.returns-in-Shape
unfolding first_time
returns-in-Shape c = sym (ap (first_time (record { policy = c.args.p.now; given = c.args.given })) c.in-Shape.is)

pub returns-in-Edge : goal.returns-in-Edge
unfolding first_time
returns-in-Edge c = rw (c.has.ensures, c.edge_of.ensures) (sym (ap (first_time (record { policy = c.args.p.now; given = c.args.given })) c.in-Edge.is))

pub returns-in-Accept : goal.returns-in-Accept
unfolding first_time in_family
returns-in-Accept c = (sym (ap (first_time (record { policy = c.args.p.now; given = c.args.given })) c.in-Accept.is))

pub returns-in-Quiet : goal.returns-in-Quiet
unfolding first_time
returns-in-Quiet c = rw (c.has-in-Quiet.ensures, c.edge_of-in-Quiet.ensures) (sym (ap (first_time (record { policy = c.args.p.now; given = c.args.given })) c.in-Quiet.is))
