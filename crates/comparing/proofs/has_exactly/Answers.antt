-- `has_exactly` meets its contract. Assumes nothing.
use Rattle.std.proofs.Common.{ℕ, sym, ap}
use lib.Dec.{eqb}
use borrow.Author.Tests.{eq-eqb, ne_eqb}
use Rattle.comparing.specs.Pairs.{exactly_by}
use Rattle.comparing.proofs.has_exactly.Goals as goal

pub returns-then-colours_in-c : goal.returns-then-colours_in-c
unfolding exactly_by
returns-then-colours_in-c c = simp (sym c.colours_in.ensures, eq-eqb _ _ c.if-colours_in-c.true) (ap (λ (k : ℕ). eqb k c.args.d) c.colours_in-then-colours_in-c.ensures)

pub returns-else-colours_in-c : goal.returns-else-colours_in-c
unfolding exactly_by
returns-else-colours_in-c c = simp (sym c.colours_in.ensures, ne_eqb _ _ c.if-colours_in-c.false)
