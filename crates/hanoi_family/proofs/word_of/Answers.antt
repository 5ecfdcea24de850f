-- `word_of` meets its contract: the formula's value in the lanes of the word's sets. Assumes nothing.
use Rattle.hanoi_family.proofs.Families.{word-is, word-none}
use Rattle.hanoi_family.proofs.word_of.Goals as goal

pub returns-in-Ok : goal.returns-in-Ok
returns-in-Ok c = word-is _ _ _ _ _ _ _ c.lanes_of-lanes.ensures c.in-Ok.ensures

pub returns-in-Err : goal.returns-in-Err
returns-in-Err c = word-none _ _ _ _ _ _ _ _ c.in-Err.ensures
