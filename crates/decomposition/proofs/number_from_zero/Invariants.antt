-- `decomposition::number_from_zero` meets its contract. The loop's invariant: the first n nodes are numbered. Assumes nothing.
use Rattle.decomposition.proofs.FromZero.{FromZero}
use Rattle.decomposition.proofs.number_from_zero.Given as goal

abbrev pub invariant-loop-n : goal.invariant-loop-n
invariant-loop-n l = FromZero l.g.policy.now l.initial.node_priorities l.node_priorities l.n l.most l.first l.root
