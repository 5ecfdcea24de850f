-- Two policies over one graph: the same states, letters and targets.
use Rattle.std.specs.Prelude.{Bool, ◌&&◌, ℕ, eqb}
use Rattle.lists.specs.Lists.{all, below}
use Rattle.policy.specs.declared.Policy.{Policy}
use Rattle.policy.specs.Policies.{edges, target_of}

module _ (p q : Policy) where
  -- e leads to one state in both
  unfoldable pub same_target : ℕ → Bool
  same_target e = eqb (target_of p e) (target_of q e)

  unfoldable pub same_targets : Bool
  same_targets = all same_target (below (edges p))

  unfoldable pub same_graph : Bool
  same_graph = eqb p.states q.states && eqb p.letters q.letters && same_targets
