-- `list_side` meets its contract. Assumes nothing.
use mathlib.Core.Path.{refl}
use Rattle.listing.proofs.list_side.Goals as goal

pub slice_bounds-listed-end : goal.slice_bounds-listed-end
slice_bounds-listed-end c = c.list_wanted-cycles.ensures.hues.long

pub left_settled-left-requires : goal.left_settled-left-requires
left_settled-left-requires c = record { other = (c.requires.other, c.requires.live.1) }

pub returns : goal.returns
returns c =
    let w = c.list_wanted-cycles.ensures in
    record { masks = w.masks; hues = w.hues; edges = (w.edges, refl); settled = c.left_settled-left.ensures.settled; left = c.left_settled-left.ensures.left }
