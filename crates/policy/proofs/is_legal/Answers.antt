use mathlib.Core.Path.{sym, ◌∙◌}
use Rattle.policy.specs.Policies.{edges}
use Rattle.policy.proofs.Laws.{counts}
use Rattle.policy.proofs.LegalTests.{legal-counted, legal-uncounted}
use Rattle.policy.proofs.is_legal.Goals as goal

pub has_legal_quiet-requires : goal.has_legal_quiet-requires
unfolding edges
has_legal_quiet-requires c =
    (counts c.args.p.now (sym c.has_legal_counts.ensures ∙ c.if-has_legal_counts.true)).edges_few

pub has_legal_edges-requires : goal.has_legal_edges-requires
unfolding edges
has_legal_edges-requires c =
    (counts c.args.p.now (sym c.has_legal_counts.ensures ∙ c.if-has_legal_counts.true)).edges_few

pub has_legal_family-requires : goal.has_legal_family-requires
has_legal_family-requires c =
    (counts c.args.p.now (sym c.has_legal_counts.ensures ∙ c.if-has_legal_counts.true)).colours_few

pub returns-then-has_legal_counts : goal.returns-then-has_legal_counts
returns-then-has_legal_counts c =
    legal-counted c.args.p.now (sym c.has_legal_counts.ensures ∙ c.if-has_legal_counts.true) _ _ _ c.has_legal_edges.ensures c.has_legal_quiet.ensures c.has_legal_family.ensures

pub returns : goal.returns
returns c = sym (legal-uncounted c.args.p.now (sym c.has_legal_counts.ensures ∙ c.if-has_legal_counts.false))
