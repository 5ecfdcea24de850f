-- `colour_sets::ranked` meets its contract: of the masks passed, `rank` less `left` have c members. Assumes nothing.
use Prim.Native.Nat.{ℕ, ◌+◌, ◌-◌, ◌≤◌}
use native.Mathlib.Nat.{le_antisymm}
use native.Mathlib.Omega.{arith}
use mathlib.Core.Path.{◌≡◌, sym, ap, ◌∙◌}
use mathlib.Core.Logic.{⊎_elim}
use lib.ListN.{length}
use borrow.Author.Rules.{rules}
use borrow.Author.Tests.{eq-eqb, ne_eqb}
use Rattle.colour_sets.proofs.Counting.{sized_to, count-with, count-without, count-all, found}
use Rattle.colour_sets.proofs.ranked.Given as goal

abbrev pub invariant-loop-s : goal.invariant-loop-s
invariant-loop-s l = (l.s ≤ 256) × (1 ≤ l.left) × (l.left + length (sized_to l.c l.s) ≡ l.rank)

abbrev pub decreases-loop-s : goal.decreases-loop-s
decreases-loop-s l = 256 - l.s
