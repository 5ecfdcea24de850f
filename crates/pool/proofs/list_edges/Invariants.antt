-- `pool::list_edges` meets its contract. The invariant, for every policy with these parts: the cycles are listed that have a state of `among` which is not left. The measure is how many more
-- there can be. Assumes nothing.
use Prim.Native.Nat.{◌+◌, ◌-◌}
use Rattle.policy.specs.declared.Policy.{Policy}
use Rattle.policy.specs.ByColour.{edges_in}
use Rattle.pool.specs.Pool.{PartsOf}
use Rattle.pool.proofs.Listing.{Listing}
use Rattle.pool.proofs.list_edges.Given as goal

abbrev pub invariant-loop-left : goal.invariant-loop-left
invariant-loop-left l = (p : Policy) → PartsOf p l.r.graph.now.policy.now.states l.r.steps.now l.r.graph.now.out l.r.graph.now.into l.r.graph.now.by → Listing p l.r.among (edges_in p l.s) l.initial.pool l.initial.hues l.count l.pool l.hues l.left l.n

abbrev pub decreases-loop-left : goal.decreases-loop-left
decreases-loop-left l = l.count + 16 - l.n
