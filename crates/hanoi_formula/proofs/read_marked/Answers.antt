-- `read_marked` meets its contract: the rest of the word, then the mark. Assumes nothing.
use Rattle.hanoi_formula.proofs.Marks.{spelled-within, spelled-marked}
use Rattle.hanoi_formula.proofs.read_marked.Goals as goal

pub read_mark-requires : goal.read_mark-requires
read_mark-requires c = (spelled-within _ _ c.args.sets _ _ c.in_ok-behind.ensures, c.requires.1)

pub returns : goal.returns
returns c = spelled-marked _ _ _ _ _ c.in_ok-behind.ensures _ c.read_mark.ensures
