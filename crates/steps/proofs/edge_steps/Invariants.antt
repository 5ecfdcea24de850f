-- `steps::edge_steps` meets its contract. The invariant: t has the edges of the states passed. Assumes nothing.
use mathlib.Core.Path.{◌≡◌}
use Prim.Native.Nat.{◌*◌, ◌-◌, ◌≤◌}
use lib.ListN.{length}
use Rattle.policy.specs.declared.Policy.{Policy}
use Rattle.steps.specs.Steps.{EdgesOf, StepsTo}
use Rattle.steps.proofs.edge_steps.Given as goal

abbrev pub invariant-loop-v : goal.invariant-loop-v
invariant-loop-v l =
    (l.v ≤ l.states) × (length l.t ≡ 36) × ((p : Policy) → EdgesOf p l.letters l.quiet l.heads l.colours → l.states ≡ p.states → StepsTo p l.t (l.v * l.letters))

abbrev pub decreases-loop-v : goal.decreases-loop-v
decreases-loop-v l = l.states - l.v
