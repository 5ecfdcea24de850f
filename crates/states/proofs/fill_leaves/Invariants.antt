-- `states::fill_leaves` meets its contract. The invariant: the leaves below the last node seen that contains v are written. Assumes nothing.
use Rattle.states.proofs.LeafPass.{Pass}
use Rattle.states.proofs.fill_leaves.Given as goal

abbrev pub invariant-loop-n : goal.invariant-loop-n
invariant-loop-n l = Pass l.nodes.policy.now l.v l.initial.leaves l.leaves l.at l.next l.n l.last l.end
