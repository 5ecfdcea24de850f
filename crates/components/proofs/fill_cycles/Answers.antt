use Prim.Native.Nat.{ℕ, ◌≤◌, ◌<◌}
use mathlib.Core.Path.{refl, sym, ap, ap₂, ◌∙◌}
use mathlib.Core.List.{List}
use native.Mathlib.Omega.{arith}
use Rattle.policy.specs.declared.Policy.{Policy}
use Rattle.policy.proofs.Laws.{legal-counts}
use Rattle.masks.specs.Masks.{has}
use Rattle.graph.specs.Through.{GraphOf, states_on_cycles, between}
use Rattle.graph.proofs.OnCycle.{on_is, off-cycle, on-cycle, states_are, between-through}
use Rattle.components.proofs.Finding.{finding-none, left-on, finding-open, finding-shut, finding-is, finding-all}
use Rattle.components.proofs.fill_cycles.Goals as goal
use Rattle.components.proofs.fill_cycles.Goals.{then-has, else-has}

few : (q : Policy) (states letters : ℕ) (heads : List ℕ) → GraphOf q states letters heads → states ≤ 16
few q states letters heads g = omega (arith, g.states_are, (legal-counts q g.lawful).states_few)

pub reach_all-requires : goal.reach_all-requires
reach_all-requires c = ((c.requires.policy.0, c.requires.policy.1), c.requires.places.0)

pub states_on_cycles-left-requires : goal.states_on_cycles-left-requires
states_on_cycles-left-requires c = let p = c.args.p.now in few c.requires.policy.0 p.states p.letters p.target c.requires.policy.1

pub loop-v-init : goal.loop-v-init
loop-v-init c =
    let a = c.args in (
      omega arith,
      λ q g _.
          let is = c.reach_all.ensures.0 q g in
          finding-none q g.lawful a.m a.cycles.now c.states_on_cycles-left.result
          (λ w l. ap (λ (s : ℕ). has s w) (c.states_on_cycles-left.ensures ∙ ap (states_on_cycles _) g.states_are) ∙ on_is q g.lawful a.m w _ is l ∙ ap (λ (s : ℕ). has s w) (is.row_is w l)),
    )

pub has-requires : goal.has-requires
has-requires c =
    let p = c.args.p.now in
    omega (arith, few c.requires.policy.0 p.states p.letters p.target c.requires.policy.1, c.loop-v-test.true)

pub cycle_states-s-requires : goal.cycle_states-s-requires
cycle_states-s-requires c =
    let p = c.args.p.now in
    omega (arith, few c.requires.policy.0 p.states p.letters p.target c.requires.policy.1, c.loop-v-test.true)

pub edges_between-x-requires : goal.edges_between-x-requires
edges_between-x-requires c = let p = c.args.p.now in few c.requires.policy.0 p.states p.letters p.target c.requires.policy.1

pub offset_bounds-cycles-n : goal.offset_bounds-cycles-n
offset_bounds-cycles-n c =
    let p = c.args.p.now in
    let k = c.requires.policy in
    omega (arith, few k.0 p.states p.letters p.target k.1, c.loop-v-test.true, (c.loop-v.invariant.1 k.0 k.1 k.2).at_most)

pub bounds-cycles-n : goal.bounds-cycles-n
bounds-cycles-n c =
    let p = c.args.p.now in
    let k = c.requires.policy in
    omega (arith, few k.0 p.states p.letters p.target k.1, c.loop-v-test.true, (c.loop-v.invariant.1 k.0 k.1 k.2).at_most)

pub overflow_add-n : goal.overflow_add-n
overflow_add-n c =
    let p = c.args.p.now in
    let k = c.requires.policy in
    omega (arith, few k.0 p.states p.letters p.target k.1, c.loop-v-test.true, (c.loop-v.invariant.1 k.0 k.1 k.2).at_most)

pub loop-v-preserved : goal.loop-v-preserved
loop-v-preserved c =
    let at = c.loop-v in
    let a = c.args in (
      omega arith,
      λ q g ends.
          let l : at.v < q.states = omega (arith, g.states_are, c.loop-v-test.true) in
          let f = at.invariant.1 q g ends in
          let rows = c.reach_all.new.rows in
          let is = c.reach_all.ensures.0 q g in
          let row = ap (λ (s : ℕ). has s at.v) (is.row_is at.v l) in
          elim c.if-has.branch [
            | then-has w ↦
                let new = sym c.has.ensures ∙ w.if-has.true in
                let on = row ∙ left-on q g.lawful a.m f l new in
                let s = w.cycle_states-s in
                let x = w.edges_between-x in
                finding-is q g.lawful a.m
                (finding-open q g.lawful a.m f l new (on-cycle q g.lawful a.m at.v rows is l on) x.result s.result w.without-left.result
                (x.ensures ∙ ap₂ (between a.out.now a.into.now a.m) s.ensures g.states_are ∙ between-through q g.lawful a.m at.v rows is l on a.out.now a.into.now ends)
                (λ u. ap (λ (s : ℕ). has s u) s.ensures ∙ states_are q g.lawful a.m at.v rows is l on u) w.without-left.ensures refl)
                w.cycles-is w.left-is w.n-is
            | else-has w ↦
                finding-is q g.lawful a.m
                (finding-shut q g.lawful a.m f l (sym c.has.ensures ∙ w.if-has.false) (λ k. off-cycle q g.lawful a.m at.v rows is l (row ∙ k)))
                w.cycles-is w.left-is w.n-is
          ],
    )

pub returns : goal.returns
returns c =
    let at = c.loop-v in
    (λ q g ends. finding-all q g.lawful c.args.m (at.invariant.1 q g ends) (omega (arith, g.states_are, at.invariant.0, c.loop-v-test.false)) c.requires.places.1, c.reach_all.ensures.1)
