use Rattle.listing.proofs.Appending.{parts_of, found-few, found-length, found-all}
use Rattle.listing.proofs.Steps.{settled-end, settled-found}
use Rattle.policy.specs.ByColour.{table_colours}
use lib.ListN.{length, take, length-map}
use mathlib.Core.Path.{refl, sym, ap}
use native.Mathlib.Decide.{dec_lt}
use native.Mathlib.Omega.{arith}
use Rattle.listing.proofs.past_settled.Goals as goal

pub returns-then-not-are_above : goal.returns-then-not-are_above
returns-then-not-are_above c = let a = c.args in record { settled = λ p t f w. settled-end t a.v a.up a.c a.e a.c a.other.now a.same.now refl; left = (c.requires.other.1, omega arith) }

pub returns-then-not-is_uniform : goal.returns-then-not-is_uniform
returns-then-not-is_uniform c = let a = c.args in record { settled = λ p t f w. settled-end t a.v a.up a.c a.e a.c a.other.now a.same.now refl; left = (c.requires.other.1, omega arith) }

either : {A B : Type 0} → Dec A → (A → B) → ((A → ⊥) → B) → B
either (yes a) f g = f a
either (no a) f g = g a

pub fill_cycles-n-requires : goal.fill_cycles-n-requires
fill_cycles-n-requires c = let g = c.args.g.now in record { policy = (g.policy.now, (parts_of g).graph, g.ends); places = (refl, refl) }

pub slice_bounds-cycles-end : goal.slice_bounds-cycles-end
slice_bounds-cycles-end c =
    let g = c.args.g.now in
    let f = c.fill_cycles-n.ensures.0 g.policy.now (parts_of g).graph g.ends in
    omega (arith, found-few g.policy.now g.lawful c.args.e f, f.long)

pub slice_bounds-past_all-end : goal.slice_bounds-past_all-end
slice_bounds-past_all-end c = let g = c.args.g.now in sym (found-length g.policy.now g.lawful c.args.e (c.fill_cycles-n.ensures.0 g.policy.now (parts_of g).graph g.ends))

pub past_all-requires : goal.past_all-requires
past_all-requires c = (omega (arith, ap length c.requires.other.0, length-map c.args.other.now (table_colours c.args.g.now.by)), c.requires.other.1)

pub returns : goal.returns
returns c =
    let a = c.args in
    let found = take c.fill_cycles-n.result c.fill_cycles-n.new.cycles in
    let r = c.past_all.result in record {
      settled = λ p t f w.
          let q = c.fill_cycles-n.ensures.0 p t.graph t.ends in
          either (dec_lt r a.c) (λ l.
          settled-found t a.g.now.policy.now.family f a.v a.up c.first_from.result a.c a.e r a.other.now a.hues.now a.same.now found (length found) c.requires.other.0 c.first_from.ensures (c.is_uniform.ensures c.if-not-is_uniform.false) (c.are_above.ensures c.if-not-are_above.false) c.past_all.ensures.0 (omega arith) (found-all p t.graph.lawful a.e q) w (c.past_all.ensures.2 l))
          (λ n. settled-end t a.v a.up a.c a.e r a.other.now a.same.now (omega (arith, c.past_all.ensures.1, n)));
      left = (c.past_all.ensures.0, c.past_all.ensures.1);
    }
