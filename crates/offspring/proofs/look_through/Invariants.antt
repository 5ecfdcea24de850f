-- `offspring::look_through` meets its contract: cycle by cycle, while there is a place for each child. Assumes nothing.
use Prim.Native.Nat.{ℕ, ◌-◌, ◌≤◌}
use mathlib.Core.Path.{◌≡◌}
use lib.ListN.{length}
use Rattle.policy.specs.declared.Policy.{Policy}
use Rattle.pool.specs.Graphs.{policy_in}
use Rattle.offspring.specs.Looking.{Looking, Node, Span}
use Rattle.offspring.proofs.look_through.Given as goal

abbrev pub invariant-loop-i : goal.invariant-loop-i
invariant-loop-i l =
    (l.from ≤ l.i) × (length l.kids ≡ length l.initial.kids) × ((p : Policy) (count : ℕ) → Node p (policy_in l.node.root.now).family l.node.within.now l.node.mask l.node.verdict → Span p l.node.mask l.s l.pool l.hues count l.from l.to → Looking p l.node.mask l.pool count l.s l.from l.to l.initial.todo l.initial.kids l.found → Looking p l.node.mask l.pool count l.s l.i l.to l.todo l.kids l.next)

abbrev pub decreases-loop-i : goal.decreases-loop-i
decreases-loop-i l = l.to - l.i
