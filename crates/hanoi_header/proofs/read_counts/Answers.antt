-- `read_counts` meets its contract: version, states, start and number of names, one behind the other. Assumes nothing.
use borrow.Author.Rules.{rules}
use native.Mathlib.Omega.{arith}
use Rattle.hanoi_header.proofs.Reading.{offered-states, offered-start, offered-ap, within-version, counts-states, within-states, states-below, counts_start, within-start, counts-names, counts_all}
use Rattle.hanoi_header.proofs.read_counts.Goals as goal

pub read_field-requires : goal.read_field-requires
read_field-requires c = (within-version _ _ c.in_ok-at.ensures, tt, offered-states)

pub read_field-requires-2 : goal.read_field-requires-2
read_field-requires-2 c = (within-states _ _ c.in_ok-at.ensures _ c.in_ok-states.ensures, omega (arith, states-below _ _ c.in_ok-at.ensures _ c.in_ok-states.ensures), offered-start)

pub returns-in_err-start : goal.returns-in_err-start
returns-in_err-start c = search (rules, counts_start _ _ c.in_ok-at.ensures _ c.in_ok-states.ensures _ c.in_err-start.ensures)

pub read_field-requires-3 : goal.read_field-requires-3
read_field-requires-3 c = (within-start _ _ c.in_ok-at.ensures _ c.in_ok-states.ensures _ c.in_ok-start.ensures, omega arith, offered-ap)

pub returns-in_err-names : goal.returns-in_err-names
returns-in_err-names c = search (rules, counts-names _ _ c.in_ok-at.ensures _ c.in_ok-states.ensures _ c.in_ok-start.ensures _ c.in_err-names.ensures)

pub returns-in_err-states : goal.returns-in_err-states
returns-in_err-states c = search (rules, counts-states _ _ c.in_ok-at.ensures _ c.in_err-states.ensures)

pub returns : goal.returns
returns c = counts_all _ _ c.in_ok-at.ensures _ c.in_ok-states.ensures _ c.in_ok-start.ensures _ c.in_ok-names.ensures
