use mathlib.Core.Path.{◌≡◌}
use Rattle.listing.specs.Listing.{union_to}
use Rattle.listing.proofs.union_of.Given as goal

abbrev pub invariant-loop-x : goal.invariant-loop-x
invariant-loop-x l = l.edges ≡ union_to l.cycles l.x-index
