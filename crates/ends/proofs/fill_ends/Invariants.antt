-- `fill_ends` meets its contract. The invariant, for every policy that the parents are of: each node from n on has raised the end of its parent; and what stands past
-- the nodes is as it was. Assumes nothing.
use Rattle.forest.specs.Forest.{forest}
use Rattle.policy.specs.declared.Policy.{Policy}
use Rattle.automaton.proofs.Ends.{Raised}
use Rattle.ends.proofs.Raising.{KeptFrom, Filling}
use Rattle.ends.proofs.fill_ends.Given as goal

abbrev pub invariant-loop-n : goal.invariant-loop-n
invariant-loop-n l = KeptFrom l.initial.ends l.ends l.count × ((p : Policy) → Filling p l.parents l.count → Raised (forest p) l.ends l.n)
