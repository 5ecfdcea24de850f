use Rattle.listing.proofs.Appending.{none-wanted, all-on}
use Rattle.policy.specs.ByColour.{table_colours}
use lib.Seq.{length-take-le}
use lib.ListN.{length, take, length-map}
use mathlib.Core.Path.{sym, ap, ◌∙◌}
use native.Mathlib.Omega.{arith}
use Rattle.listing.proofs.list_wanted.Goals as goal

pub slice_bounds-is_wanted-end-2 : goal.slice_bounds-is_wanted-end-2
slice_bounds-is_wanted-end-2 c = sym (length-take-le c.args.count c.args.same.now c.requires.room.0.long)

pub is_wanted-requires : goal.is_wanted-requires
is_wanted-requires c = omega (arith, ap length c.requires.other, length-map c.args.other.now (table_colours c.args.g.now.by))

pub returns : goal.returns
returns c = let a = c.args in record { masks = λ p t. none-wanted t a.c a.m a.other.now a.hues.now (take a.count a.same.now) c.requires.other (sym c.is_wanted.ensures ∙ c.if-is_wanted.false); hues = c.requires.room.0; edges = λ p t. all-on p a.m }
