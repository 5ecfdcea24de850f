use Prim.Native.Nat.{ℕ, ◌<◌}
use native.Mathlib.Nat.{le_antisymm}
use native.Mathlib.Omega.{arith}
use lib.Bits.{bit_and}
use mathlib.Core.Path.{◌≡◌, refl, sym, ap, ap₂, ◌∙◌}
use mathlib.Core.Logic.{◌⊎◌, inl, inr, ⊎_elim}
use mathlib.Core.Bool.{Bool, true, false, not, ◌&&◌, true≢false}
use Rattle.lists.specs.Lists.{all, below}
use Rattle.lists.proofs.AnyAll.{all_more, all-not}
use Rattle.lists.proofs.Bools.{and_l}
use Rattle.masks.specs.Masks.{has, minus}
use Rattle.masks.proofs.Bits.{has-minus}
use mathlib.Core.List.{List}
use Rattle.policy.specs.declared.Policy.{Policy}
use Rattle.policy.specs.Policies.{legal}
use Rattle.policy.specs.ByColour.{table_edges}
use Rattle.policy.proofs.Laws.{legal-counts}
use Rattle.graph.proofs.CodeLaws.{own_graph}
use Rattle.graph.proofs.OnCycle.{on_is, on-own}
use Rattle.comparing.specs.Pairs.{ColourTables, pair_edges, no_cycle_at, no_cycle}
use Rattle.comparing.proofs.Answers.{none-off, some-here, none_here, none-there}
use Rattle.comparing.proofs.Searches.{pair-edges-by, exactly-by}
use Rattle.comparing.proofs.has_no_cycle.Goals as goal
use Rattle.comparing.proofs.has_no_cycle.Goals.{then-has+else-has_exactly, else-has}

-- a state is gone, or was not left
unless : (a b : Bool) → a && not b ≡ false → (a ≡ false) ⊎ (b ≡ true)
unless true true e = inr refl
unless true false e = absurd (true≢false e)
unless false b e = inl refl

gone : (left s u : ℕ) {x : ℕ} → x ≡ minus left s → has x u ≡ has left u && not (has s u)
gone left s u e = ap (λ (y : ℕ). has y u) e ∙ has-minus left s u

state : (p : Policy) (v : ℕ) → legal p ≡ true → v < p.states → v < 16
state p v lawful l = omega (arith, l, (legal-counts p lawful).states_few)

-- the edges of the pair
whole : (p q : Policy) {t u : List ℕ} → ColourTables p q t u → (c d : ℕ) {x y m : ℕ} → x ≡ table_edges t c → y ≡ table_edges u d → m ≡ bit_and x y → m ≡ pair_edges p q c d
whole p q {t} {u} k c d ex ey em = em ∙ ap₂ bit_and ex ey ∙ pair-edges-by p q t u k c d

pub reach_all-requires : goal.reach_all-requires
reach_all-requires c = let g = c.args.g.now in ((g.policy.now, own_graph g.policy.now g.lawful), c.requires.1)

pub loop-v-init : goal.loop-v-init
loop-v-init c =
    let a = c.args in
    let g = a.g.now in
    let p = g.policy.now in
    let q = a.h.now.policy.now in
    let k : ColourTables p q g.by a.h.now.by = record { comparable = c.requires.0; of_p = g.by_is; of_q = a.h.now.by_is } in (
      omega arith,
      λ w h. on-own _ _ w (sym (ap (λ (s : ℕ). has s w) c.states_on_cycles-left.ensures) ∙ h),
      refl,
      λ w l h.
          let is = c.reach_all.ensures.0 p (own_graph p g.lawful) in
          none-off p q a.c a.d _ w g.lawful (whole p q k a.c a.d c.edges_in.ensures c.edges_in-2.ensures c.both-m.ensures) is l (sym (on_is p g.lawful _ w _ is l) ∙ sym (ap (λ (s : ℕ). has s w) c.states_on_cycles-left.ensures) ∙ h),
    )

pub has-requires : goal.has-requires
has-requires c = let g = c.args.g.now in omega (arith, state g.policy.now c.loop-v.v g.lawful c.loop-v-test.true)

pub cycle_states-s-requires : goal.cycle_states-s-requires
cycle_states-s-requires c = let g = c.args.g.now in state g.policy.now c.loop-v.v g.lawful c.loop-v-test.true

pub returns-then-has_exactly : goal.returns-then-has_exactly
unfolding no_cycle
returns-then-has_exactly c =
    let a = c.args in
    let g = a.g.now in
    let p = g.policy.now in
    let q = a.h.now.policy.now in
    let k : ColourTables p q g.by a.h.now.by = record { comparable = c.requires.0; of_p = g.by_is; of_q = a.h.now.by_is } in
    let at = c.loop-v in
    let on = at.invariant.1 at.v (sym c.has.ensures ∙ c.if-has.true) in
    let hit = sym (c.has_exactly.ensures ∙ exactly-by p q g.by a.h.now.by k a.c a.d _) ∙ c.if-has_exactly.true in (
      sym (all-not (no_cycle_at p q a.c a.d) p.states at.v c.loop-v-test.true
          (some-here p q a.c a.d _ at.v g.lawful (whole p q k a.c a.d c.edges_in.ensures c.edges_in-2.ensures c.both-m.ensures) (c.reach_all.ensures.0 p (own_graph p g.lawful)) c.loop-v-test.true on g.out g.into g.ends _ _ c.cycle_states-s.ensures _ refl c.edges_between-x.ensures hit)),
      c.reach_all.ensures.1,
    )

pub loop-v-preserved : goal.loop-v-preserved
loop-v-preserved c =
    let a = c.args in
    let g = a.g.now in
    let p = g.policy.now in
    let q = a.h.now.policy.now in
    let k : ColourTables p q g.by a.h.now.by = record { comparable = c.requires.0; of_p = g.by_is; of_q = a.h.now.by_is } in
    let at = c.loop-v in
    let l = c.loop-v-test.true in
    let so_far = at.invariant.2 in
    let each = at.invariant.3 in (
      omega arith,
      λ u t.
          elim c.if-has.branch [
            | then-has+else-has_exactly w ↦
                let s = w.cycle_states-s.result in
                at.invariant.1 u (and_l (has at.left u) (not (has s u)) (sym (gone at.left s u (w.left-is ∙ w.without-left.ensures)) ∙ t))
            | else-has w ↦ at.invariant.1 u (sym (ap (λ (x : ℕ). has x u) w.left-is) ∙ t)
          ],
      elim c.if-has.branch [
        | then-has+else-has_exactly w ↦
            let on = at.invariant.1 at.v (sym c.has.ensures ∙ w.if-has.true) in
            let miss = sym (w.has_exactly.ensures ∙ exactly-by p q g.by a.h.now.by k a.c a.d _) ∙ w.if-has_exactly.false in
            all_more (no_cycle_at p q a.c a.d) at.v so_far
            (none_here p q a.c a.d _ at.v g.lawful (whole p q k a.c a.d c.edges_in.ensures c.edges_in-2.ensures c.both-m.ensures) (c.reach_all.ensures.0 p (own_graph p g.lawful)) l on g.out g.into g.ends _ _ w.cycle_states-s.ensures _ refl w.edges_between-x.ensures miss)
        | else-has w ↦ all_more (no_cycle_at p q a.c a.d) at.v so_far (each at.v l (sym c.has.ensures ∙ w.if-has.false))
      ],
      elim c.if-has.branch [
        | then-has+else-has_exactly w ↦
            let on = at.invariant.1 at.v (sym c.has.ensures ∙ w.if-has.true) in
            let its = whole p q k a.c a.d c.edges_in.ensures c.edges_in-2.ensures c.both-m.ensures in
            let is = c.reach_all.ensures.0 p (own_graph p g.lawful) in
            let s = w.cycle_states-s in
            let x = w.edges_between-x in
            let miss = sym (w.has_exactly.ensures ∙ exactly-by p q g.by a.h.now.by k a.c a.d _) ∙ w.if-has_exactly.false in
            let here = none_here p q a.c a.d _ at.v g.lawful its is l on g.out g.into g.ends _ _ s.ensures _ refl x.ensures miss in
            let there = none-there p q a.c a.d _ at.v g.lawful its is l on g.out g.into g.ends _ _ s.ensures _ refl x.ensures here in
            (λ u lu t. ⊎_elim (each u lu) (there u) (unless (has at.left u) (has s.result u) (sym (gone at.left s.result u (w.left-is ∙ w.without-left.ensures)) ∙ t)))
        | else-has w ↦ (λ u lu t. each u lu (sym (ap (λ (x : ℕ). has x u) w.left-is) ∙ t))
      ],
    )

pub returns : goal.returns
unfolding no_cycle
returns c =
    let a = c.args in
    let at = c.loop-v in (
      sym (ap (λ j. all (no_cycle_at a.g.now.policy.now a.h.now.policy.now a.c a.d) (below j)) (le_antisymm c.loop-v-test.false at.invariant.0) ∙ at.invariant.2),
      c.reach_all.ensures.1,
    )

pub states_on_cycles-left-requires : goal.states_on_cycles-left-requires
states_on_cycles-left-requires c = (legal-counts c.args.g.now.policy.now c.args.g.now.lawful).states_few

pub edges_between-x-requires : goal.edges_between-x-requires
edges_between-x-requires c = (legal-counts c.args.g.now.policy.now c.args.g.now.lawful).states_few
