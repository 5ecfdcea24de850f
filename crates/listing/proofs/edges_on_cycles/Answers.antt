use native.Mathlib.Omega.{arith}
use mathlib.Core.Path.{refl, sym}
use Rattle.listing.proofs.Appending.{parts_of, found-few, found-length, found-on}
use Rattle.listing.proofs.edges_on_cycles.Goals as goal

pub fill_cycles-n-requires : goal.fill_cycles-n-requires
fill_cycles-n-requires c = let g = c.args.g.now in record { policy = (g.policy.now, (parts_of g).graph, g.ends); places = (refl, refl) }

pub slice_bounds-cycles-end : goal.slice_bounds-cycles-end
slice_bounds-cycles-end c =
    let g = c.args.g.now in
    let f = c.fill_cycles-n.ensures.0 g.policy.now (parts_of g).graph g.ends in
    omega (arith, found-few g.policy.now g.lawful c.args.m f, f.long)

pub slice_bounds-union_of-end : goal.slice_bounds-union_of-end
slice_bounds-union_of-end c = let g = c.args.g.now in sym (found-length g.policy.now g.lawful c.args.m (c.fill_cycles-n.ensures.0 g.policy.now (parts_of g).graph g.ends))

pub returns : goal.returns
returns c = λ p by t. found-on p t.graph.lawful c.args.m (c.fill_cycles-n.ensures.0 p t.graph t.ends) c.union_of.result c.union_of.ensures
