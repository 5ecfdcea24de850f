-- `read_policy` meets its contract: header, formula, states and colours as the reader of documents reads them. Assumes nothing.
use borrow.Author.Rules.{rules}
use native.Mathlib.Omega.{arith}
use Rattle.hanoi_reader.proofs.Reading.{no_header, head-within, no-formula, formula-within, no_body, over, many, read_is, limits-kept}
use Rattle.hanoi_reader.proofs.read_policy.Goals as goal

pub returns-in_err-header : goal.returns-in_err-header
returns-in_err-header c = search (rules, no_header _ _ c.in_err-header.ensures)

pub read_formula-requires : goal.read_formula-requires
read_formula-requires c = (head-within _ _ c.in_ok-header.ensures, c.in_ok-header.ensures.sets_few)

pub returns-in_err-formula : goal.returns-in_err-formula
returns-in_err-formula c = search (rules, no-formula _ _ c.in_ok-header.ensures _ _ c.in_err-formula.ensures)

pub read_body-requires : goal.read_body-requires
read_body-requires c = (formula-within _ _ c.in_ok-header.ensures _ _ c.in_ok-formula.ensures, c.in_ok-header.ensures.states_few.0, c.in_ok-header.ensures.states_few.1, c.in_ok-header.ensures.sets_few, λ t. limits-kept _ _ _ c.is_within_limits-fits.ensures t)

pub returns-in_err-body : goal.returns-in_err-body
returns-in_err-body c = search (rules, no_body _ _ c.in_ok-header.ensures _ _ c.in_ok-formula.ensures _ c.letters_of-letters.ensures.0 _ _ c.in_err-body.ensures)

pub returns-then-not-fits : goal.returns-then-not-fits
returns-then-not-fits c = over _ _ c.in_ok-header.ensures _ _ c.in_ok-formula.ensures _ c.letters_of-letters.ensures.0 _ _ c.in_ok-body.ensures c.is_within_limits-fits.ensures c.if-not-fits.true

pub returns-in_default : goal.returns-in_default
returns-in_default c = many _ _ c.in_ok-header.ensures _ _ c.in_ok-formula.ensures _ c.letters_of-letters.ensures.0 _ _ c.in_ok-body.ensures c.is_within_limits-fits.ensures c.if-not-fits.false c.in_default.ensures

pub family_of-family-requires : goal.family_of-family-requires
family_of-family-requires c = (head-within _ _ c.in_ok-header.ensures, c.in_ok-header.ensures.sets_few, omega (arith, c.in-Some.ensures.few, c.in-Some.ensures.count_is))

pub returns : goal.returns
returns c = read_is _ _ c.in_ok-header.ensures _ _ c.in_ok-formula.ensures _ c.letters_of-letters.ensures.0 _ _ c.in_ok-body.ensures c.is_within_limits-fits.ensures c.if-not-fits.false _ c.in-Some.ensures _ c.family_of-family.ensures
