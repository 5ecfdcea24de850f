-- The loop seeks a repeat, a round at a time; once it is found, what the search holds is what recurs. Assumes nothing.
use Rattle.recurrence.proofs.Seeking.{search_left}
use Rattle.judging.proofs.Colours.{ColoursSearched}
use Rattle.judging.proofs.coloured_recurring.Given as goal

abbrev pub invariant-loop-search : goal.invariant-loop-search
invariant-loop-search l = ColoursSearched l.p l.period l.state l.search

abbrev pub decreases-loop-search : goal.decreases-loop-search
decreases-loop-search l = search_left l.p.states l.search
