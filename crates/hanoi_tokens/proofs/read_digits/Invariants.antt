-- `read_digits` meets its contract: the digits before byte i come to n. Assumes nothing.
use Rattle.hanoi_tokens.proofs.Numbers.{Digits}
use Rattle.hanoi_tokens.specs.Tokens.{Within}
use Rattle.hanoi_tokens.proofs.read_digits.Given as goal

abbrev pub invariant-loop-i : goal.invariant-loop-i
invariant-loop-i l = (h : Within l.wanted) × Digits l.text l.at l.wanted h l.i l.n
