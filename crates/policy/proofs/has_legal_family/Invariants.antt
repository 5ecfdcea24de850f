-- `has_legal_family` meets its contract: b says whether every set passed is legal. The loops start past the sets of the colours. Assumes nothing.
use Rattle.std.proofs.Common.{◌≡◌, ◌+◌}
use Rattle.lists.specs.Lists.{all, below}
use Rattle.policy.specs.Policies.{legal_set}
use Rattle.policy.proofs.has_legal_family.Given as goal

abbrev pub invariant-loop-accepted : goal.invariant-loop-accepted
invariant-loop-accepted l = l.b ≡ all (legal_set l.p) (below (l.top + l.accepted-index))

abbrev pub invariant-loop-accepted-2 : goal.invariant-loop-accepted-2
invariant-loop-accepted-2 l = l.b ≡ all (legal_set l.p) (below (l.from + l.accepted-index))
