-- `grow` and `plant` meet their contracts. The measure is twice the number of edges of the mask, and one more for `plant`. The loop's invariant: whatever policy the lists are of, the trees of the first j children are written; the positions of all children stand in the scratch, and what lies before them is as it was. Assumes nothing.
use Prim.Native.Nat.{◌+◌, ◌*◌}
use mathlib.Core.Path.{◌≡◌}
use mathlib.Core.Bool.{cond}
use mathlib.Core.List.{◌++◌}
use lib.Count.{ones}
use lib.ListN.{length, get_or}
use Rattle.policy.specs.declared.Policy.{Policy}
use Rattle.forest.specs.Forest.{children}
use Rattle.trees.specs.Growing.{TreeToWrite, Kept}
use Rattle.trees.proofs.Growing.{ChildrenAt, RowWritten}
use Rattle.trees.proofs.+grow_plant.Given as goal

abbrev pub decreases-grow : goal.decreases-grow
decreases-grow l = 2 * ones l.m

abbrev pub decreases-plant : goal.decreases-plant
decreases-plant l = 2 * ones (get_or (l.lists.now.accepting.now ++ l.lists.now.rejecting.now) l.i 0) + 1

abbrev pub invariant-grow-loop-j : goal.invariant-grow-loop-j
invariant-grow-loop-j l =
    let a = l.lists.accepting.now in
    let r = l.lists.rejecting.now in
    ((p : Policy) → TreeToWrite p a r l.m l.verdict l.places l.initial.next l.initial.masks l.initial.parents l.initial.scratch l.free → RowWritten p (a ++ r) l.places l.at l.initial.next (children p l.m) l.initial.masks l.initial.parents l.masks l.parents l.scratch l.next l.j)
    × (length l.masks ≡ length l.initial.masks) × (length l.parents ≡ length l.initial.parents) × (length l.scratch ≡ length l.initial.scratch) × ChildrenAt (cond l.verdict r a) l.m l.scratch l.free l.count
    × Kept (2 * length (a ++ r)) l.free l.initial.scratch l.scratch
