-- `graph::states_on_cycles` meets its contract. The invariant: s has those of the states passed that are in their own rows. Assumes nothing.
use mathlib.Core.Path.{◌≡◌, sym, ap, ◌∙◌}
use mathlib.Core.Bool.{Bool, cond}
use Prim.Native.Nat.{ℕ, ◌-◌, ◌≤◌}
use native.Mathlib.Nat.{le_antisymm}
use native.Mathlib.Omega.{arith}
use lib.ListN.{get_or}
use borrow.Author.Rules.{rules}
use Rattle.masks.specs.Masks.{has, insert, mask_of}
use Rattle.masks.proofs.MaskOf.{mask-of-none}
use Rattle.graph.specs.Through.{states_on_cycles}
use Rattle.graph.proofs.OnCycle.{mask-of-next}
use Rattle.graph.proofs.states_on_cycles.Given as goal

abbrev pub invariant-loop-w : goal.invariant-loop-w
invariant-loop-w l = (l.w ≤ l.states) × (l.s ≡ mask_of (λ u. has (get_or l.rows u 0) u) l.w)

abbrev pub decreases-loop-w : goal.decreases-loop-w
decreases-loop-w l = l.states - l.w
