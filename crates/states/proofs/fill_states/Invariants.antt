-- `fill_states` meets its contract. The invariant: the states over the policy states below v are written. Assumes nothing.
use Rattle.states.proofs.StatesBelow.{WrittenBelow}
use Rattle.states.proofs.fill_states.Given as goal

abbrev pub invariant-loop-v : goal.invariant-loop-v
invariant-loop-v l = WrittenBelow l.nodes.policy.now l.initial.sources l.initial.leaves l.initial.starts l.sources l.leaves l.starts l.v l.at
