use Prim.Native.Nat.{ℕ, ◌-◌, ◌^◌, ◌≤◌, ◌<◌}
use mathlib.Core.Path.{◌≡◌, sym, ap, ap₂, ◌∙◌}
use mathlib.Core.Bool.{true, ◌&&◌}
use mathlib.Core.List.{List}
use native.Mathlib.Omega.{arith}
use lib.Bits.{bit_and}
use Rattle.masks.specs.Masks.{has}
use Rattle.policy.specs.declared.Policy.{Policy}
use Rattle.policy.specs.ByColour.{edges_in}
use Rattle.policy.proofs.Laws.{legal-counts}
use Rattle.graph.specs.Through.{onward, between}
use Rattle.graph.proofs.Onward.{onward-some}
use Rattle.steps.specs.Steps.{row_at, SteppedGraph}
use Rattle.pool.proofs.Pool.{hue-is, edges_are}
use Rattle.pool.proofs.Listing.{found-states, found-edges, listing_none, listing-room, listing-more, listing-all}
use Rattle.pool.proofs.list_edges.Goals as goal

few : (p : Policy) (states : ℕ) (steps : List ℕ) → SteppedGraph p states steps → states ≤ 16
few p states steps g = omega (arith, g.states_are, (legal-counts p g.lawful).states_few)

pub reached-w-requires : goal.reached-w-requires
reached-w-requires c = few _ _ _ c.requires.policy.1.graph

pub full-requires : goal.full-requires
full-requires c = omega (arith, few _ _ _ c.requires.policy.1.graph)

pub on_cycles-requires : goal.on_cycles-requires
on_cycles-requires c = few _ _ _ c.requires.policy.1.graph

pub loop-left-init : goal.loop-left-init
loop-left-init c =
    let a = c.args in
    λ p parts.
    let g = parts.graph in
    listing_none p g.lawful (edges_in p a.s) c.on_cycles.result c.both-left.result
    (λ u l. c.on_cycles.ensures u (omega (arith, g.states_are)) ∙ ap (λ (x : ℕ). has x u) (c.reached-w.ensures p g.lawful g.states_are g.steps_are u (omega (arith, g.states_are))))
    (c.both-left.ensures ∙ ap (bit_and c.on_cycles.result) (c.both-wanted.ensures ∙ ap (bit_and a.r.now.among) (c.full.ensures ∙ ap (λ (n : ℕ). 2 ^ n - 1) g.states_are)))

-- ---- in the loop: the state taken is one of 16, and there is a place for its cycle
pub cycle_states-on-requires : goal.cycle_states-on-requires
cycle_states-on-requires c =
    let k = c.requires.policy in
    let t = c.loop-left.invariant k.0 k.1 in
    (few _ _ _ k.1.graph, (listing-room k.0 k.1.graph.lawful _ t c.lowest-v.result c.lowest-v.ensures.0).0)

pub edges_among-x-requires : goal.edges_among-x-requires
edges_among-x-requires c =
    let p = c.requires.policy.0 in
    let g = c.requires.policy.1.graph in
    let v = c.lowest-v.result in
    let m = edges_in p c.args.s in
    let t = c.loop-left.invariant p c.requires.policy.1 in
    let on = t.left_on v c.lowest-v.ensures.0 in
    let row : row_at c.reached-w.result.a c.reached-w.result.b c.reached-w.result.c c.reached-w.result.d v ≡ onward p m v = c.reached-w.ensures p g.lawful g.states_are g.steps_are v (omega (arith, g.states_are, on.0)) in
    (few _ _ _ g, λ u h. omega (arith, g.states_are, (onward-some p m v u (ap (λ (x : ℕ). has x u) (sym row) ∙ c.cycle_states-on.ensures.0 u h)).0))

pub offset_bounds-pool-n : goal.offset_bounds-pool-n
offset_bounds-pool-n c =
    let k = c.requires.policy in
    let t = c.loop-left.invariant k.0 k.1 in
    omega (arith, (listing-room k.0 k.1.graph.lawful _ t c.lowest-v.result c.lowest-v.ensures.0).1, t.pool_long)

pub bounds-pool-n : goal.bounds-pool-n
bounds-pool-n c =
    let k = c.requires.policy in
    let t = c.loop-left.invariant k.0 k.1 in
    omega (arith, (listing-room k.0 k.1.graph.lawful _ t c.lowest-v.result c.lowest-v.ensures.0).1, t.pool_long)

pub bounds-hues-n : goal.bounds-hues-n
bounds-hues-n c =
    let k = c.requires.policy in
    let t = c.loop-left.invariant k.0 k.1 in
    omega (arith, (listing-room k.0 k.1.graph.lawful _ t c.lowest-v.result c.lowest-v.ensures.0).1, t.hues_long)

pub overflow_add-n : goal.overflow_add-n
overflow_add-n c =
    let k = c.requires.policy in
    let t = c.loop-left.invariant k.0 k.1 in
    omega (arith, (listing-room k.0 k.1.graph.lawful _ t c.lowest-v.result c.lowest-v.ensures.0).1)

pub loop-left-smaller : goal.loop-left-smaller
loop-left-smaller c =
    let k = c.requires.policy in
    let t = c.loop-left.invariant k.0 k.1 in
    omega (arith, (listing-room k.0 k.1.graph.lawful _ t c.lowest-v.result c.lowest-v.ensures.0).1)

pub loop-left-preserved : goal.loop-left-preserved
loop-left-preserved c =
    let a = c.args in
    let v = c.lowest-v.result in
    let s = c.cycle_states-on.result in
    λ p parts.
    let g = parts.graph in
    let m = edges_in p a.s in
    let t = c.loop-left.invariant p parts in
    let on = t.left_on v c.lowest-v.ensures.0 in
    let w = c.reached-w.result in
    -- the words have the rows of the states
    let row : (u : ℕ) → u < p.states → row_at w.a w.b w.c w.d u ≡ onward p m u = λ u l. c.reached-w.ensures p g.lawful g.states_are g.steps_are u (omega (arith, g.states_are)) in
    -- the states that v reaches and that reach v
    let within : (u : ℕ) → has s u ≡ true → has (onward p m v) u ≡ true = λ u h. ap (λ (x : ℕ). has x u) (sym (row v on.0)) ∙ c.cycle_states-on.ensures.0 u h in
    let each : (u : ℕ) → u < p.states → has s u ≡ has (onward p m v) u && has (onward p m u) v = λ u l. c.cycle_states-on.ensures.1 u (omega (arith, g.states_are)) ∙ ap₂ (λ (x y : ℕ). has x u && has y v) (row v on.0) (row u l) in
    listing-more p g.lawful m t v c.edges_among-x.result s c.colours_in.result c.lowest-v.ensures.0 c.lowest-v.ensures.2
    (c.edges_among-x.ensures
    ∙ ap₂ (λ (k n : ℕ). between a.r.now.graph.now.out a.r.now.graph.now.into k s n) (c.edges_in-m.ensures ∙ edges_are p g.lawful a.r.now.graph.now.by parts.by_is a.s) g.states_are
    ∙ found-edges p g.lawful m v on.0 on.1 s within each a.r.now.graph.now.out a.r.now.graph.now.into parts.ends)
    (found-states p g.lawful m v on.0 on.1 s within each)
    (c.colours_in.ensures ∙ ap (λ (f : ℕ → ℕ). f c.edges_among-x.result) (hue-is p g.lawful a.r.now.graph.now.by parts.by_is)) c.requires.places.0 c.requires.places.1 c.without-left.result c.without-left.ensures

pub shape_of-pool : goal.shape_of-pool
shape_of-pool c = (c.loop-left.invariant c.requires.policy.0 c.requires.policy.1).pool_long

pub shape_of-hues : goal.shape_of-hues
shape_of-hues c = (c.loop-left.invariant c.requires.policy.0 c.requires.policy.1).hues_long

pub returns : goal.returns
returns c = λ p parts. listing-all p parts.graph.lawful _ (c.loop-left.invariant p parts) c.loop-left-test.false
