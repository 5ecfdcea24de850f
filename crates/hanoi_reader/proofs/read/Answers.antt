-- `read` meets its contract: the answer is that of the reader of documents, and means what the documents say. Assumes nothing.
use borrow.Author.Rules.{rules}
use Rattle.hanoi_reader.proofs.Reading.{meant}
use Rattle.hanoi_reader.proofs.read.Goals as goal

pub returns-in-Ok-Ok-clause-meaning : goal.returns-in-Ok-Ok-clause-meaning
returns-in-Ok-Ok-clause-meaning c = meant _ _ (search rules)

pub returns-in-Ok-Err-clause-meaning : goal.returns-in-Ok-Err-clause-meaning
returns-in-Ok-Err-clause-meaning c = meant _ _ (search rules)

pub returns-in-Err-clause-meaning : goal.returns-in-Err-clause-meaning
returns-in-Err-clause-meaning c = meant _ _ (search rules)
