use Rattle.policy.specs.Policies.{legal_counts}
use Rattle.policy.proofs.has_legal_counts.Goals as goal

pub returns : goal.returns
unfolding legal_counts
returns c = c.counts_fit.ensures
