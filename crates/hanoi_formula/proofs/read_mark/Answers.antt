-- `read_mark` meets its contract: an opening parenthesis, a number and a closing one. Assumes nothing.
use native.Mathlib.Omega.{arith}
use borrow.Author.Rules.{rules}
use Rattle.hanoi_formula.proofs.Marks.{opened-within, unopened, unnumbered, unclosed, marked}
use Rattle.hanoi_formula.proofs.read_mark.Goals as goal

pub returns-in_err-opened : goal.returns-in_err-opened
returns-in_err-opened c = search (rules, unopened c.args.text.now c.args.at c.args.sets _ c.in_err-opened.ensures)

pub read_number-requires : goal.read_number-requires
read_number-requires c = (opened-within _ _ c.args.sets _ c.in_ok-opened.ensures, omega (arith, c.requires.1))

pub returns-in_err-number : goal.returns-in_err-number
returns-in_err-number c = search (rules, unnumbered _ _ c.args.sets _ c.in_ok-opened.ensures _ c.in_err-number.ensures)

pub returns-in_err-closed : goal.returns-in_err-closed
returns-in_err-closed c = search (rules, unclosed _ _ c.args.sets _ c.in_ok-opened.ensures _ c.in_ok-number.ensures _ c.in_err-closed.ensures)

pub returns : goal.returns
returns c = marked _ _ _ _ c.in_ok-opened.ensures _ c.in_ok-number.ensures _ c.in_ok-closed.ensures
