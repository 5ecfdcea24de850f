-- `read_word` meets its contract: a token's first byte, then the bytes of the word. Assumes nothing.
use Rattle.hanoi_tokens.proofs.Tokens.{word-behind}
use Rattle.hanoi_tokens.proofs.read_word.Goals as goal

pub returns : goal.returns
returns c = word-behind _ _ _ _ _ _ c.in_ok-first.ensures c.spelled.ensures
