-- The loop seeks a repeat, a round at a time; once it is found, what the search holds is what recurs, and the rounds so far read all that any round reads. Assumes nothing.
use Rattle.recurrence.proofs.Seeking.{search_left}
use Rattle.running.specs.Running.{row_states}
use Rattle.judging.proofs.Rows.{SeenSearched}
use Rattle.judging.proofs.seen_recurring.Given as goal

abbrev pub invariant-loop-search : goal.invariant-loop-search
invariant-loop-search l = SeenSearched l.r.letters l.r.targets.now l.r.priorities.now l.period l.initial.search.state l.initial.dangling l.search l.dangling

abbrev pub decreases-loop-search : goal.decreases-loop-search
decreases-loop-search l = search_left (row_states l.r.letters l.r.targets.now l.r.priorities.now) l.search
