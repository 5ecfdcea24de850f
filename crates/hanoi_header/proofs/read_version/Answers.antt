-- `read_version` meets its contract: one word, then the other. Assumes nothing.
use borrow.Author.Rules.{rules}
use Rattle.hanoi_header.proofs.Reading.{version-within, version-stopped, version-all}
use Rattle.hanoi_header.proofs.read_version.Goals as goal

pub returns-in_err-i : goal.returns-in_err-i
returns-in_err-i c = search (rules, version-stopped c.args.text.now _ c.in_err-i.ensures)

pub read_word-requires-2 : goal.read_word-requires-2
read_word-requires-2 c = version-within _ _ c.in_ok-i.ensures

pub returns : goal.returns
returns c = version-all _ _ c.in_ok-i.ensures _ c.read_word-2.ensures
