-- `read_header` meets its contract: counts, names and number of acceptance sets, one behind the other. Assumes nothing.
use borrow.Author.Rules.{rules}
use native.Mathlib.Omega.{arith}
use Rattle.hanoi_header.proofs.Reading.{offered-acceptance, within-names, header-sets, header-all}
use Rattle.hanoi_header.proofs.read_header.Goals as goal

pub read_field-requires : goal.read_field-requires
read_field-requires c = (within-names _ _ c.in_ok-counts.ensures _ c.in_ok-at.ensures, omega arith, offered-acceptance)

pub returns-in_err-sets : goal.returns-in_err-sets
returns-in_err-sets c = search (rules, header-sets _ _ c.in_ok-counts.ensures _ c.in_ok-at.ensures _ c.in_err-sets.ensures)

pub returns : goal.returns
returns c = header-all _ _ c.in_ok-counts.ensures _ c.in_ok-at.ensures _ c.in_ok-sets.ensures
