use mathlib.Core.Path.{refl, sym, ap, ◌∙◌}
use native.Mathlib.Omega.{arith}
use lib.ListN.{take}
use Rattle.policy.specs.ByColour.{table_colours}
use Rattle.candidates.specs.Candidates.{with_cycles}
use Rattle.components.proofs.Finding.{found_first}
use Rattle.listing.proofs.Appending.{parts_of, found-few, found-length, found-on}
use Rattle.listing.proofs.list_cycles.Goals as goal

pub fill_cycles-n-requires : goal.fill_cycles-n-requires
fill_cycles-n-requires c = let g = c.args.g.now in record { policy = (g.policy.now, (parts_of g).graph, g.ends); places = (refl, refl) }

pub slice_bounds-cycles-end : goal.slice_bounds-cycles-end
slice_bounds-cycles-end c =
    let g = c.args.g.now in
    let f = c.fill_cycles-n.ensures.0 g.policy.now (parts_of g).graph g.ends in
    omega (arith, found-few g.policy.now g.lawful c.args.m f, f.long)

pub slice_bounds-cycles-end-2 : goal.slice_bounds-cycles-end-2
slice_bounds-cycles-end-2 c =
    let g = c.args.g.now in
    let f = c.fill_cycles-n.ensures.0 g.policy.now (parts_of g).graph g.ends in
    omega (arith, found-few g.policy.now g.lawful c.args.m f, f.long)

pub slice_bounds-union_of-end : goal.slice_bounds-union_of-end
slice_bounds-union_of-end c = let g = c.args.g.now in sym (found-length g.policy.now g.lawful c.args.m (c.fill_cycles-n.ensures.0 g.policy.now (parts_of g).graph g.ends))

pub slice_bounds-append_cycles-end : goal.slice_bounds-append_cycles-end
slice_bounds-append_cycles-end c = let g = c.args.g.now in sym (found-length g.policy.now g.lawful c.args.m (c.fill_cycles-n.ensures.0 g.policy.now (parts_of g).graph g.ends))

pub append_cycles-next-requires : goal.append_cycles-next-requires
append_cycles-next-requires c =
    let g = c.args.g.now in
    let f = c.fill_cycles-n.ensures.0 g.policy.now (parts_of g).graph g.ends in
    let few = found-few g.policy.now g.lawful c.args.m f in
    let long = found-length g.policy.now g.lawful c.args.m f in
    record { other = c.requires.other; room = (c.requires.room.0, omega (arith, few, long, c.requires.room.1), omega (arith, few, long, c.requires.room.2)) }

pub returns : goal.returns
returns c =
    let a = c.args in
    record {
      masks = λ p t. c.append_cycles-next.ensures.masks ∙ ap (with_cycles (table_colours a.g.now.by) a.c a.other.now (take a.count a.same.now)) (found_first p t.graph.lawful (c.fill_cycles-n.ensures.0 p t.graph t.ends));
      hues = c.append_cycles-next.ensures.hues;
      edges = λ p t. found-on p t.graph.lawful a.m (c.fill_cycles-n.ensures.0 p t.graph t.ends) c.union_of-edges.result c.union_of-edges.ensures;
    }
