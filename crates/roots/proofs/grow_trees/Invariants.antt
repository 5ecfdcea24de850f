-- `grow_trees` meets its contract. Assumes nothing.
use Prim.Native.Nat.{ℕ, ◌+◌, ◌-◌}
use mathlib.Core.Path.{◌≡◌}
use mathlib.Core.List.{List}
use lib.ListN.{length}
use Rattle.policy.specs.declared.Policy.{Policy}
use Rattle.candidates.specs.Candidates.{root_candidates}
use Rattle.listing.specs.Listing.{PartsOf}
use Rattle.roots.specs.Roots.{RootsWritten}
use Rattle.roots.proofs.grow_trees.Given as goal

-- whatever policy the graph is of, and wherever the tables began
abbrev pub invariant-loop-places : goal.invariant-loop-places
invariant-loop-places l =
    let q = l.g.policy.now in
    ((p : Policy) (m₀ r₀ : List ℕ) → PartsOf p q.states q.letters q.target l.g.out l.g.into l.g.by → q.family ≡ p.family → l.roots ≡ root_candidates p → RootsWritten p m₀ r₀ l.initial.masks l.initial.parents l.initial.next l.initial.after → RootsWritten p m₀ r₀ l.masks l.parents l.next l.after)
    × (length l.accepting ≡ length l.initial.accepting) × (length l.accepted ≡ length l.initial.accepted) × (length l.rejecting ≡ length l.initial.rejecting) × (length l.rejected ≡ length l.initial.rejected) × (length l.scratch ≡ length l.initial.scratch)
    × (length l.masks ≡ length l.initial.masks) × (length l.parents ≡ length l.initial.parents)

abbrev pub decreases-loop-places : goal.decreases-loop-places
decreases-loop-places l = l.places + 1 - l.next
