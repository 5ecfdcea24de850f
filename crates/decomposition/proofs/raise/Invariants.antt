-- `decomposition::raise` meets its contract. The invariant, for every policy that the tables are of: the first n nodes have their priorities. Assumes nothing.
use Prim.Native.Nat.{◌≤◌}
use Rattle.policy.specs.declared.Policy.{Policy}
use Rattle.decomposition.proofs.Raising.{Unraised, Raised}
use Rattle.decomposition.proofs.raise.Given as goal

abbrev pub invariant-loop-n : goal.invariant-loop-n
invariant-loop-n l = (p : Policy) → Unraised p l.parents l.initial.node_priorities l.count → Raised p l.initial.node_priorities l.node_priorities l.n l.more × (l.more ≤ 2)
