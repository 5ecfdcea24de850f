-- `reading::all_given` meets its contract: the law of the full set.
-- Assumes nothing.
use Rattle.reading.proofs.Questions.{full-given}
use Rattle.reading.proofs.all_given.Goals as goal

pub returns : goal.returns
returns c = rw (c.inside.ensures, c.full.ensures) (full-given _ _)
