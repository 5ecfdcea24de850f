-- The supervisor's game has all its rows: a letter at every built state leads to a built state, over the target of the policy's edge, and priorities are below 10. Assumes nothing.
use Prim.Native.Nat.{ℕ, ◌<◌}
use native.Mathlib.Omega.{arith}
use mathlib.Core.Path.{◌≡◌, sym, subst}
use mathlib.Core.Bool.{true}
use mathlib.Core.List.{List}
use lib.ListN.{length}
use Rattle.policy.specs.declared.Policy.{Policy}
use Rattle.policy.specs.Policies.{legal, edges, edge_of, target_of}
use Rattle.policy.proofs.Laws.{legal-counts, legal-target, source-edge, edge-lt}
use Rattle.forest.specs.Forest.{forest}
use Rattle.forest.proofs.Forest.{forest-laws}
use Rattle.automaton.specs.Automaton.{built, state_at, leaf_after, row_target}
use Rattle.automaton.proofs.EdgeRuns.{Good}
use Rattle.automaton.proofs.Leaves.{leaf-after-good}
use Rattle.automaton.proofs.Tables.{built-good, number_at}
use Rattle.automaton.proofs.RowPriorities.{row-priority-few}
use Rattle.games.specs.Games.{Total}
use Rattle.supervision.specs.Supervision.{game_of}

module _ (p : Policy) (lawful : legal p ≡ true) where
  pub row-leads : (s a : ℕ) → s < length (built p) → a < p.letters
      → (row_target p s a < length (built p)) × ((state_at p (row_target p s a)).state ≡ target_of p (edge_of p (state_at p s).state a))
  unfolding row_target
  row-leads s a h l = let n = number_at p (forest-laws p lawful) (target_of p e) (leaf_after (forest p) p e (state_at p s).leaf) (legal-target p lawful e e-lt) good in (n.0, n.1)
    where
      e : ℕ
      e = edge_of p (state_at p s).state a

      e-lt : e < edges p
      e-lt = edge-lt p (state_at p s).state a (built-good p (forest-laws p lawful) s h).0 l

      good : Good (forest p) p (target_of p e) (leaf_after (forest p) p e (state_at p s).leaf)
      good =
          leaf-after-good p (forest p) (forest-laws p lawful) e e-lt (state_at p s).leaf
          (subst (λ (z : ℕ). Good (forest p) p z (state_at p s).leaf) (sym (source-edge p lawful (state_at p s).state a l)) (built-good p (forest-laws p lawful) s h).1)

  pub total : (owners : List ℕ) → Total (game_of p owners) 10
  total owners = record {
    some = (legal-counts p lawful).letters_some;
    targets = λ s a h l. (row-leads s a h l).0;
    priorities = λ s a h l. omega (arith, row-priority-few p lawful s a);
  }
