-- `offspring::search_sets` meets its contract: while sets are left, the greatest one is searched. Assumes nothing.
use lib.ListN.{length}
use mathlib.Core.Path.{◌≡◌}
use Rattle.policy.specs.declared.Policy.{Policy}
use Rattle.policy.specs.Policies.{colours_of}
use Rattle.pool.specs.Pool.{PartsOf, Pool}
use Rattle.pool.specs.Graphs.{policy_in}
use Rattle.offspring.specs.Looking.{NodeAmong}
use Rattle.offspring.proofs.Looking.{Searching}
use Rattle.offspring.proofs.search_sets.Given as goal

abbrev pub invariant-loop-end : goal.invariant-loop-end
invariant-loop-end l = (length l.pool ≡ length l.initial.pool) × (length l.hues ≡ length l.initial.hues) × (length l.spans ≡ length l.initial.spans) × (length l.kids ≡ length l.initial.kids)
    × ((p : Policy) → PartsOf p (policy_in l.node.root.now).states l.node.root.now.steps.now l.node.root.now.graph.now.out l.node.root.now.graph.now.into l.node.root.now.graph.now.by → NodeAmong p l.node.root.now.among (policy_in l.node.root.now).family l.node.within.now l.node.mask l.node.verdict → l.h ≡ colours_of p l.node.mask → Pool p l.node.root.now.among l.initial.pool l.initial.hues l.initial.spans l.initial.count → Searching p l.node.root.now.among l.node.mask l.initial.pool l.initial.count l.pool l.hues l.spans l.count l.todo l.kids l.found l.end)

abbrev pub decreases-loop-end : goal.decreases-loop-end
decreases-loop-end l = l.end
