-- `components::fill_cycles` meets its contract. The invariant, for every policy with this graph: the cycles found at the states below v are listed, and `left` has
-- the states on cycles that are on none of them. Assumes nothing.
use Prim.Native.Nat.{◌-◌, ◌≤◌}
use Rattle.policy.specs.declared.Policy.{Policy}
use Rattle.graph.specs.Through.{GraphOf, EndsOf}
use Rattle.components.specs.Finding.{Finding}
use Rattle.components.proofs.fill_cycles.Given as goal

abbrev pub invariant-loop-v : goal.invariant-loop-v
invariant-loop-v l =
    (l.v ≤ l.states) × ((q : Policy) → GraphOf q l.p.states l.p.letters l.p.target → EndsOf q l.out l.into → Finding q l.m l.initial.cycles l.cycles l.left l.n l.v)

abbrev pub decreases-loop-v : goal.decreases-loop-v
decreases-loop-v l = l.states - l.v
