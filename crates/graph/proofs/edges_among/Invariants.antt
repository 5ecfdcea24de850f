-- `graph::edges_among` meets its contract. The invariant: a and b, with the sets of the two tables at the members left, are those at the members of s.
-- The members left get fewer, so their mask gets smaller. Assumes nothing.
use mathlib.Core.Path.{◌≡◌}
use mathlib.Core.Bool.{true}
use Prim.Native.Nat.{ℕ, ◌<◌}
use lib.Bits.{bit_or}
use Rattle.masks.specs.Masks.{has}
use Rattle.graph.specs.Through.{union}
use Rattle.graph.proofs.edges_among.Given as goal

abbrev pub invariant-loop-left : goal.invariant-loop-left
invariant-loop-left l =
    ((v : ℕ) → has l.left v ≡ true → v < l.states) × (bit_or l.a (union l.out l.left l.states) ≡ union l.out l.s l.states) × (bit_or l.b (union l.into l.left l.states) ≡ union l.into l.s l.states)

abbrev pub decreases-loop-left : goal.decreases-loop-left
decreases-loop-left l = l.left
