-- `read_number` meets its contract: a token's first byte, then digits. Assumes nothing.
use Rattle.hanoi_tokens.proofs.Numbers.{number_behind}
use Rattle.hanoi_tokens.proofs.read_number.Goals as goal

pub returns : goal.returns
returns c = number_behind _ _ _ _ _ c.in_ok-first.ensures c.read_digits.ensures
