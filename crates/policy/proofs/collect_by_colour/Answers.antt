use Rattle.std.proofs.Common.{◌≡◌, ◌∙◌, length, arith, refl, rules}
use Rattle.std.proofs.lemmas.List.{length-take}
use Rattle.policy.specs.Policies.{edges}
use Rattle.policy.proofs.Laws.{edges_le}
use Rattle.policy.proofs.ByColour.{by-none, taken-few, by-more-taken, table-made}
use Rattle.policy.proofs.collect_by_colour.Goals as goal

pub shared_ref_as_front-colours : goal.shared_ref_as_front-colours
shared_ref_as_front-colours c = omega (arith, edges_le c.args.p.now c.requires.0)

pub loop-e-init : goal.loop-e-init
loop-e-init c = c.requires.1 ∙ by-none c.args.p.now.colour

pub bounds-t-c : goal.bounds-t-c
bounds-t-c c = omega (arith, taken-few c.args.p.now c.requires.0 c.edges.result c.loop-e.e c.edges.ensures c.loop-e-test.true)

pub bounds-t-c-in-loop-e : goal.bounds-t-c-in-loop-e
bounds-t-c-in-loop-e c = omega (arith, taken-few c.args.p.now c.requires.0 c.edges.result c.loop-e.e c.edges.ensures c.loop-e-test.true)

pub loop-e-preserved : goal.loop-e-preserved
loop-e-preserved c = by-more-taken c.args.p.now c.requires.0 c.edges.result c.loop-e.e c.loop-e.t c.with.result c.edges.ensures c.loop-e-test.true c.loop-e.invariant c.with.ensures

pub returns : goal.returns
returns c =
    let p = c.args.p.now in
    let long : length p.colour ≡ 64 = search rules in
    let done : c.loop-e.e ≡ edges p = omega (arith, long, edges_le p c.requires.0, length-take c.edges.result p.colour, c.edges.ensures) in
    cc (c.without.ensures, table-made p c.requires.0 c.loop-e.t p.colour c.loop-e.e refl done c.loop-e.invariant)
