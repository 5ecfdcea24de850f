-- Runs over edges, from leaf to leaf: the device by which the verdict on closed runs is proved.
use Prim.Native.Nat.{ℕ, ◌≤◌, ◌<◌}
use mathlib.Core.Path.{◌≡◌}
use mathlib.Core.Logic.{◌⊎◌}
use mathlib.Core.Bool.{true, false}
use mathlib.Core.List.{List, [], ◌∷◌, Memᴰ}
use lib.ListN.{length}
use Rattle.policy.specs.declared.Policy.{Policy}
use Rattle.policy.specs.Policies.{accepting}
use Rattle.graph.specs.Cycles.{contains}
use Rattle.forest.specs.Forest.{Node, node, even}
use Rattle.automaton.specs.Automaton.{is_leaf, leaf_after, priority_after}

module _ (ns : List Node) (p : Policy) where
  -- l is a leaf of v, or v is in no node and l is 65,535
  abbrev pub Good : ℕ → ℕ → Type 0
  Good v l = ((l < length ns) × (is_leaf ns p v l ≡ true)) ⊎ ((l ≡ 65535) × ((n : ℕ) → n < length ns → contains p v (node ns n).mask ≡ false))

  -- the leaf after some edges
  unfoldable pub leaf_run : List ℕ → ℕ → ℕ
  leaf_run [] l = l
  leaf_run (e ∷ es) l = leaf_run es (leaf_after ns p e l)

  -- the priorities met on the way
  unfoldable pub met_run : List ℕ → ℕ → List ℕ
  met_run [] l = []
  met_run (e ∷ es) l = priority_after ns p e l ∷ met_run es (leaf_after ns p e l)

  -- a least priority is met, and it is even exactly if the edge set X is accepting
  pub record Least (es : List ℕ) (l X : ℕ) : Type 0 where
    pub least : ℕ
    pub is_met : Memᴰ least (met_run es l)
    pub lowest : (k : ℕ) → Memᴰ k (met_run es l) → least ≤ k
    pub verdict : even least ≡ accepting p X
