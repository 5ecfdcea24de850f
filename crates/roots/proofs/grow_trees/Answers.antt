use native.Mathlib.Omega.{arith}
use mathlib.Core.Path.{refl, sym, ◌∙◌}
use Rattle.roots.proofs.Roots.{grown-all, grown-part, space-still, places-still, roots-still, root-mem, roots-more, roots-grow, roots-over, roots-all, roots-long, roots-searched, over, under}
use Rattle.roots.proofs.grow_trees.Goals as goal

pub loop-places-init : goal.loop-places-init
loop-places-init c = (λ p m₀ r₀ t f e w. w, refl, refl, refl, refl, refl, refl, refl)

pub next_root-m-requires : goal.next_root-m-requires
next_root-m-requires c = let q = c.requires.policy in roots-searched q.0 q.3.graph.lawful q.5

pub shape_of-accepting-then-m-eq0 : goal.shape_of-accepting-then-m-eq0
shape_of-accepting-then-m-eq0 c = c.loop-places.invariant.1

pub shape_of-accepted-then-m-eq0 : goal.shape_of-accepted-then-m-eq0
shape_of-accepted-then-m-eq0 c = c.loop-places.invariant.2

pub shape_of-rejecting-then-m-eq0 : goal.shape_of-rejecting-then-m-eq0
shape_of-rejecting-then-m-eq0 c = c.loop-places.invariant.3

pub shape_of-rejected-then-m-eq0 : goal.shape_of-rejected-then-m-eq0
shape_of-rejected-then-m-eq0 c = c.loop-places.invariant.4

pub shape_of-scratch-then-m-eq0 : goal.shape_of-scratch-then-m-eq0
shape_of-scratch-then-m-eq0 c = c.loop-places.invariant.5

pub shape_of-masks-then-m-eq0 : goal.shape_of-masks-then-m-eq0
shape_of-masks-then-m-eq0 c = c.loop-places.invariant.6

pub shape_of-parents-then-m-eq0 : goal.shape_of-parents-then-m-eq0
shape_of-parents-then-m-eq0 c = c.loop-places.invariant.7

pub returns-then-m-eq0 : goal.returns-then-m-eq0
returns-then-m-eq0 c = λ p m₀ r₀ t f e w. grown-all (roots-all t.graph.lawful e (c.loop-places.invariant.0 p m₀ r₀ t f e w) c.next_root-m.ensures c.if-m-eq0.true)

pub grow_tree-requires : goal.grow_tree-requires
grow_tree-requires c =
    let q = c.requires.policy in
    let i = c.loop-places.invariant in
    let v = i.0 q.0 q.1 q.2 q.3 q.4 q.5 q.6 in
    let l = roots-long v in
    record { policy = (q.0, q.3, q.4, root-mem q.3.graph.lawful q.5 v c.next_root-m.ensures c.if-m-eq0.false); space = space-still c.requires.space i.1 i.2 i.3 i.4 i.5; tables = (l.1 ∙ v.one_length ∙ sym l.0, places-still _ _ l.0 v.fits) }

pub shape_of-accepting-in-None : goal.shape_of-accepting-in-None
shape_of-accepting-in-None c = c.grow_tree.auto.accepting ∙ c.loop-places.invariant.1

pub shape_of-accepted-in-None : goal.shape_of-accepted-in-None
shape_of-accepted-in-None c = c.grow_tree.auto.accepted ∙ c.loop-places.invariant.2

pub shape_of-rejecting-in-None : goal.shape_of-rejecting-in-None
shape_of-rejecting-in-None c = c.grow_tree.auto.rejecting ∙ c.loop-places.invariant.3

pub shape_of-rejected-in-None : goal.shape_of-rejected-in-None
shape_of-rejected-in-None c = c.grow_tree.auto.rejected ∙ c.loop-places.invariant.4

pub shape_of-scratch-in-None : goal.shape_of-scratch-in-None
shape_of-scratch-in-None c = c.grow_tree.auto.scratch ∙ c.loop-places.invariant.5

pub shape_of-masks-in-None : goal.shape_of-masks-in-None
shape_of-masks-in-None c = c.grow_tree.auto.masks ∙ c.loop-places.invariant.6

pub shape_of-parents-in-None : goal.shape_of-parents-in-None
shape_of-parents-in-None c = c.grow_tree.auto.parents ∙ c.loop-places.invariant.7

pub returns-in-None : goal.returns-in-None
returns-in-None c =
    λ p m₀ r₀ t f e w.
    let v = c.loop-places.invariant.0 p m₀ r₀ t f e w in
    let g = c.grow_tree.ensures p t f (root-mem t.graph.lawful e v c.next_root-m.ensures c.if-m-eq0.false) in
    grown-part (roots-still v (g.masks_same c.in-None.is) (g.parents_same c.in-None.is)) (λ h. g.enough (omega (arith, c.loop-places.invariant.1)) c.in-None.is)

pub shape_of-accepting-then-places-next : goal.shape_of-accepting-then-places-next
shape_of-accepting-then-places-next c = c.grow_tree.auto.accepting ∙ c.loop-places.invariant.1

pub shape_of-accepted-then-places-next : goal.shape_of-accepted-then-places-next
shape_of-accepted-then-places-next c = c.grow_tree.auto.accepted ∙ c.loop-places.invariant.2

pub shape_of-rejecting-then-places-next : goal.shape_of-rejecting-then-places-next
shape_of-rejecting-then-places-next c = c.grow_tree.auto.rejecting ∙ c.loop-places.invariant.3

pub shape_of-rejected-then-places-next : goal.shape_of-rejected-then-places-next
shape_of-rejected-then-places-next c = c.grow_tree.auto.rejected ∙ c.loop-places.invariant.4

pub shape_of-scratch-then-places-next : goal.shape_of-scratch-then-places-next
shape_of-scratch-then-places-next c = c.grow_tree.auto.scratch ∙ c.loop-places.invariant.5

pub shape_of-masks-then-places-next : goal.shape_of-masks-then-places-next
shape_of-masks-then-places-next c = c.clear.auto.t ∙ c.grow_tree.auto.masks ∙ c.loop-places.invariant.6

pub shape_of-parents-then-places-next : goal.shape_of-parents-then-places-next
shape_of-parents-then-places-next c = c.clear-then-places-next.auto.t ∙ c.grow_tree.auto.parents ∙ c.loop-places.invariant.7

pub returns-then-places-next : goal.returns-then-places-next
returns-then-places-next c =
    λ p m₀ r₀ t f e w.
    let v = c.loop-places.invariant.0 p m₀ r₀ t f e w in
    let l = roots-long v in
    let g = c.grow_tree.ensures p t f (root-mem t.graph.lawful e v c.next_root-m.ensures c.if-m-eq0.false) in
    grown-all (roots-over t.graph.lawful e v c.next_root-m.ensures c.if-m-eq0.false (g.written _ c.in-Some.is)
    (over w c.places-places.ensures c.if-places-next.true) _ _ (c.grow_tree.auto.masks ∙ l.0) (c.grow_tree.auto.parents ∙ l.1) c.clear.ensures c.clear-then-places-next.ensures)

pub loop-places-smaller : goal.loop-places-smaller
loop-places-smaller c =
    let q = c.requires.policy in
    let v = c.loop-places.invariant.0 q.0 q.1 q.2 q.3 q.4 q.5 q.6 in
    let g = c.grow_tree.ensures q.0 q.3 q.4 (root-mem q.3.graph.lawful q.5 v c.next_root-m.ensures c.if-m-eq0.false) in
    omega (arith, roots-grow q.3.graph.lawful q.5 v c.next_root-m.ensures c.if-m-eq0.false (g.written _ c.in-Some.is) (under q.6 c.places-places.ensures c.if-places-next.false), c.if-places-next.false)

pub loop-places-preserved : goal.loop-places-preserved
loop-places-preserved c = (
  λ p m₀ r₀ t f e w.
      let v = c.loop-places.invariant.0 p m₀ r₀ t f e w in
      let g = c.grow_tree.ensures p t f (root-mem t.graph.lawful e v c.next_root-m.ensures c.if-m-eq0.false) in
      roots-more t.graph.lawful e v c.next_root-m.ensures c.if-m-eq0.false (g.written _ c.in-Some.is) (under w c.places-places.ensures c.if-places-next.false),
  c.grow_tree.auto.accepting ∙ c.loop-places.invariant.1,
  c.grow_tree.auto.accepted ∙ c.loop-places.invariant.2,
  c.grow_tree.auto.rejecting ∙ c.loop-places.invariant.3,
  c.grow_tree.auto.rejected ∙ c.loop-places.invariant.4,
  c.grow_tree.auto.scratch ∙ c.loop-places.invariant.5,
  c.grow_tree.auto.masks ∙ c.loop-places.invariant.6,
  c.grow_tree.auto.parents ∙ c.loop-places.invariant.7,
)
