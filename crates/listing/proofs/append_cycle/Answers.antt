-- `append_cycle` meets its contract. Assumes nothing.
use native.Mathlib.Omega.{arith}
use mathlib.Core.Path.{sym, ap, ◌∙◌}
use lib.ListN.{length, length-map}
use lib.Seq.{length-take-le}
use Rattle.policy.specs.ByColour.{table_colours}
use Rattle.listing.proofs.Appending.{hued-more, other-colours, left_out, appended}
use Rattle.listing.proofs.append_cycle.Goals as goal

pub returns-then-colours_in-c : goal.returns-then-colours_in-c
returns-then-colours_in-c c = let a = c.args in record { masks = other-colours (table_colours a.by.now) a.c a.other.now a.hues.now c.requires.other a.same.now a.count a.x (λ e. c.if-colours_in-c.true (c.colours_in.ensures ∙ e)); hues = (c.requires.room.0, omega arith) }

pub slice_bounds-is_wanted-end-2 : goal.slice_bounds-is_wanted-end-2
slice_bounds-is_wanted-end-2 c = sym (length-take-le c.args.count c.args.same.now c.requires.room.0.long)

pub is_wanted-requires : goal.is_wanted-requires
is_wanted-requires c = omega (arith, ap length c.requires.other, length-map c.args.other.now (table_colours c.args.by.now))

pub returns-then-is_wanted : goal.returns-then-is_wanted
returns-then-is_wanted c = let a = c.args in
    let e = sym c.colours_in.ensures ∙ c.if-colours_in-c.false in record { masks = appended (table_colours a.by.now) a.c a.other.now a.hues.now c.requires.other a.same.now a.count a.x c.requires.room.1 (sym c.is_wanted.ensures ∙ c.if-is_wanted.true) e; hues = (hued-more c.requires.room.0 a.c a.x c.requires.room.1 c.requires.room.2 e, omega arith) }

pub returns : goal.returns
returns c = let a = c.args in record { masks = left_out (table_colours a.by.now) a.c a.other.now a.hues.now c.requires.other a.same.now a.count a.x (sym c.is_wanted.ensures ∙ c.if-is_wanted.false) (sym c.colours_in.ensures ∙ c.if-colours_in-c.false); hues = (c.requires.room.0, omega arith) }
