-- `steps::add_steps` meets its contract. The invariant: t has the edges passed. Assumes nothing.
use mathlib.Core.Path.{◌≡◌}
use Prim.Native.Nat.{◌+◌, ◌*◌, ◌-◌, ◌≤◌, ◌<◌}
use lib.ListN.{length}
use Rattle.policy.specs.declared.Policy.{Policy}
use Rattle.steps.specs.Steps.{EdgesOf, StepsTo}
use Rattle.steps.proofs.add_steps.Given as goal

abbrev pub invariant-loop-a : goal.invariant-loop-a
invariant-loop-a l =
    (l.a ≤ l.letters) × (length l.t ≡ 36) × ((p : Policy) → EdgesOf p l.letters l.quiet l.heads l.colours → l.v < p.states → StepsTo p l.initial.t (l.v * l.letters) → StepsTo p l.t (l.v * l.letters + l.a))

abbrev pub decreases-loop-a : goal.decreases-loop-a
decreases-loop-a l = l.letters - l.a
