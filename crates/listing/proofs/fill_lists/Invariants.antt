use Rattle.policy.specs.declared.Policy.{Policy}
use Rattle.listing.specs.Listing.{PartsOf, Listed}
use lib.ListN.{length}
use mathlib.Core.Path.{◌≡◌}
use Prim.Native.Nat.{◌-◌, ◌≤◌}
use Rattle.listing.proofs.fill_lists.Given as goal

abbrev pub invariant-loop-left : goal.invariant-loop-left
invariant-loop-left l =
    (l.left ≤ l.used) × ((p : Policy) → PartsOf p l.g.policy.now.states l.g.policy.now.letters l.g.policy.now.target l.g.out l.g.into l.g.by → l.g.policy.now.family ≡ p.family → Listed p l.g.by l.root (l.used - l.left) l.accepting l.accepted l.rejecting l.rejected l.live l.listed)
    × (length l.accepting ≡ length l.initial.accepting) × (length l.accepted ≡ length l.initial.accepted) × (length l.rejecting ≡ length l.initial.rejecting) × (length l.rejected ≡ length l.initial.rejected) × (length l.live ≡ length l.initial.live)

abbrev pub decreases-loop-left : goal.decreases-loop-left
decreases-loop-left l = l.left
