use mathlib.Core.Path.{sym, ◌∙◌}
use Rattle.policy.specs.Policies.{edges}
use Rattle.policy.proofs.Laws.{counts}
use Rattle.policy.proofs.LegalTests.{graph-counted, graph-uncounted}
use Rattle.policy.proofs.is_legal_graph.Goals as goal

pub has_legal_quiet-requires : goal.has_legal_quiet-requires
unfolding edges
has_legal_quiet-requires c =
    (counts c.args.p.now (sym c.has_legal_counts.ensures ∙ c.if-has_legal_counts.true)).edges_few

pub has_legal_edges-requires : goal.has_legal_edges-requires
unfolding edges
has_legal_edges-requires c =
    (counts c.args.p.now (sym c.has_legal_counts.ensures ∙ c.if-has_legal_counts.true)).edges_few

pub returns-then-has_legal_counts : goal.returns-then-has_legal_counts
returns-then-has_legal_counts c =
    graph-counted c.args.p.now (sym c.has_legal_counts.ensures ∙ c.if-has_legal_counts.true) _ _ c.has_legal_edges.ensures c.has_legal_quiet.ensures

pub returns : goal.returns
returns c = sym (graph-uncounted c.args.p.now (sym c.has_legal_counts.ensures ∙ c.if-has_legal_counts.false))
