-- `is_prefix` meets its contract: k is cut digit by digit until it is no longer than n. Assumes nothing.
use Rattle.hanoi_tokens.proofs.Numbers.{Cutting}
use Rattle.hanoi_tokens.proofs.is_prefix.Given as goal

abbrev pub invariant-loop-rest : goal.invariant-loop-rest
invariant-loop-rest l = Cutting l.n l.k l.rest

abbrev pub decreases-loop-rest : goal.decreases-loop-rest
decreases-loop-rest l = l.rest
