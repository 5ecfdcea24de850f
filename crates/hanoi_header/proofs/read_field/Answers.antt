-- `read_field` meets its contract: a word, then a number. Assumes nothing.
use borrow.Author.Rules.{rules}
use Rattle.hanoi_header.proofs.Reading.{field-within, field-stopped, field-all}
use Rattle.hanoi_header.proofs.read_field.Goals as goal

pub returns-in_err-i : goal.returns-in_err-i
returns-in_err-i c = search (rules, field-stopped c.args.text.now c.args.at c.args.bar c.args.bytes.now c.args.wanted _ c.in_err-i.ensures)

pub read_number-requires : goal.read_number-requires
read_number-requires c = (field-within _ _ _ _ c.args.wanted _ c.in_ok-i.ensures c.requires.2, c.requires.1)

pub returns : goal.returns
returns c = field-all _ _ _ _ _ _ _ c.in_ok-i.ensures c.read_number.ensures
