-- `graph::Graph::new` meets its contract. Assumes nothing.
use Rattle.policy.specs.Policies.{edges}
use Rattle.graph.proofs.CodeLaws.{own_fits}
use Rattle.graph.proofs.Graph.new.Goals as goal

pub edges_out-out-requires : goal.edges_out-out-requires
edges_out-out-requires c = let f = own_fits c.args.policy.now c.requires in (f.few, f.edges_few)

pub edges_into-into-requires : goal.edges_into-into-requires
edges_into-into-requires c = let f = own_fits c.args.policy.now c.requires in (f.edges_few, f.are_states)

pub invariant_of-result : goal.invariant_of-result
unfolding edges
invariant_of-result c = record {
  lawful = c.requires;
  ends = record { out_are = c.edges_out-out.ensures; into_are = c.edges_into-into.ensures };
  by_is = c.collect_by_colour.ensures;
}
