-- `spelled` meets its contract: the first i bytes of the word are read. Assumes nothing.
use Rattle.hanoi_tokens.proofs.Tokens.{Spelled}
use Rattle.hanoi_tokens.proofs.spelled.Given as goal

abbrev pub invariant-loop-i : goal.invariant-loop-i
invariant-loop-i l = Spelled l.text l.rest l.at l.i
