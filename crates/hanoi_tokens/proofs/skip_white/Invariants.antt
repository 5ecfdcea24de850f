-- `skip_white` meets its contract: all before byte i is white. Assumes nothing.
use Rattle.hanoi_tokens.proofs.Tokens.{Skipped}
use Rattle.hanoi_tokens.proofs.skip_white.Given as goal

abbrev pub invariant-loop-i : goal.invariant-loop-i
invariant-loop-i l = Skipped l.text l.at l.i
