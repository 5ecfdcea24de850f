-- The policy of a root's graph.
use Rattle.policy.specs.declared.Policy.{Policy}
use Rattle.pool.specs.declared.RootGraph.{RootGraph}

abbrev pub policy_in : RootGraph → Policy
policy_in r = r.graph.now.policy.now
