use Rattle.listing.proofs.Steps.{left-most, left-listed, left-outside}
use Rattle.listing.proofs.Turns.{room-some, outcome-whole, outcome-part}
use Rattle.listing.proofs.Appending.{hue-is}
use Rattle.listing.specs.Listing.{PartsOf, Listed}
use Rattle.policy.specs.Policies.{colours_of}
use Rattle.policy.specs.declared.Policy.{Policy}
use lib.ListN.{length}
use mathlib.Core.Path.{◌≡◌, refl, sym, ap, ◌∙◌, subst}
use Prim.Native.Nat.{ℕ, ◌-◌}
use native.Mathlib.Omega.{arith}
use Rattle.listing.proofs.fill_lists.Goals as goal

pub begin-listed-requires : goal.begin-listed-requires
begin-listed-requires c = (c.requires.places.0, omega (arith, c.requires.places.0, c.requires.places.1), c.requires.places.2, omega (arith, c.requires.places.2, c.requires.places.3))

pub loop-left-init : goal.loop-left-init
loop-left-init c =
    let a = c.args in (
      left-most a.g.now.by a.g.now.policy.now.family c.colours_in-used.result c.sets_left-left.result c.sets_left-left.ensures,
      λ p t f. left-listed t a.root c.colours_in-used.result (c.colours_in-used.ensures ∙ ap (λ (g : ℕ → ℕ). g a.root) (hue-is t)) a.g.now.policy.now.family f c.sets_left-left.ensures (c.begin-listed.ensures p t.graph.lawful t.by_is f a.live.now c.requires.live.1),
      refl,
      refl,
      refl,
      refl,
      refl,
    )

pub lacks_room-requires : goal.lacks_room-requires
lacks_room-requires c =
    let here : let a = c.args in Listed c.requires.policy.0 a.g.now.by a.root (c.colours_in-used.result - c.loop-left.left) c.loop-left.accepting c.loop-left.accepted c.loop-left.rejecting c.loop-left.rejected c.loop-left.live c.loop-left.listed =
    c.loop-left.invariant.1 c.requires.policy.0 c.requires.policy.1 c.requires.policy.2 in
    let l = here in (l.accepting_hued.long, l.rejecting_hued.long)

pub shape_of-accepting-then-lacks_room : goal.shape_of-accepting-then-lacks_room
shape_of-accepting-then-lacks_room c = c.loop-left.invariant.2 ∙ c.begin-listed.auto.accepting

pub shape_of-accepted-then-lacks_room : goal.shape_of-accepted-then-lacks_room
shape_of-accepted-then-lacks_room c = c.loop-left.invariant.3 ∙ c.begin-listed.auto.accepted

pub shape_of-rejecting-then-lacks_room : goal.shape_of-rejecting-then-lacks_room
shape_of-rejecting-then-lacks_room c = c.loop-left.invariant.4 ∙ c.begin-listed.auto.rejecting

pub shape_of-rejected-then-lacks_room : goal.shape_of-rejected-then-lacks_room
shape_of-rejected-then-lacks_room c = c.loop-left.invariant.5 ∙ c.begin-listed.auto.rejected

pub shape_of-live-then-lacks_room : goal.shape_of-live-then-lacks_room
shape_of-live-then-lacks_room c = c.loop-left.invariant.6

pub returns-then-lacks_room : goal.returns-then-lacks_room
returns-then-lacks_room c =
    let used-is : (p : Policy) → let g = c.args.g.now in PartsOf p g.policy.now.states g.policy.now.letters g.policy.now.target g.out g.into g.by → c.colours_in-used.result ≡ colours_of p c.args.root =
    λ p t. c.colours_in-used.ensures ∙ ap (λ (f : ℕ → ℕ). f c.args.root) (hue-is t) in
    λ p t f root.
    outcome-part (c.loop-left.invariant.1 p t f) t.graph.lawful root (omega (arith, used-is p t, c.loop-left-test.true, c.loop-left.invariant.0)) (sym c.lacks_room.ensures ∙ c.if-lacks_room.true)

pub overflow_sub-left : goal.overflow_sub-left
overflow_sub-left c = omega (arith, c.loop-left-test.true)

pub list_next-step-requires : goal.list_next-step-requires
list_next-step-requires c =
    let here : let a = c.args in Listed c.requires.policy.0 a.g.now.by a.root (c.colours_in-used.result - c.loop-left.left) c.loop-left.accepting c.loop-left.accepted c.loop-left.rejecting c.loop-left.rejected c.loop-left.live c.loop-left.listed =
    c.loop-left.invariant.1 c.requires.policy.0 c.requires.policy.1 c.requires.policy.2 in
    let at = c.loop-left in
    let l = here in
    let room = room-some (length at.accepting) (length at.rejecting) at.listed l.accepting_hued.long l.rejecting_hued.long (sym c.lacks_room.ensures ∙ c.if-lacks_room.false) in
    record { accepting = (l.accepting_hued, room.0, omega (arith, room.0, at.invariant.2, at.invariant.3, c.begin-listed.auto.accepting, c.begin-listed.auto.accepted, c.requires.places.1)); rejecting = (l.rejecting_hued, room.1, omega (arith, room.1, at.invariant.4, at.invariant.5, c.begin-listed.auto.rejecting, c.begin-listed.auto.rejected, c.requires.places.3)); live = (omega (arith, c.loop-left-test.true, at.invariant.0), omega (arith, at.invariant.6, c.requires.live.0, c.colours_in-used.ensures)) }

pub loop-left-smaller : goal.loop-left-smaller
loop-left-smaller c = omega (arith, c.list_next-step.ensures.left, c.next_left-left.ensures.0, c.loop-left-test.true)

pub loop-left-preserved : goal.loop-left-preserved
loop-left-preserved c =
    let used-is : (p : Policy) → let g = c.args.g.now in PartsOf p g.policy.now.states g.policy.now.letters g.policy.now.target g.out g.into g.by → c.colours_in-used.result ≡ colours_of p c.args.root =
    λ p t. c.colours_in-used.ensures ∙ ap (λ (f : ℕ → ℕ). f c.args.root) (hue-is t) in
    let at = c.loop-left in
    let used = c.colours_in-used.result in (
      omega (arith, c.list_next-step.ensures.left, c.next_left-left.ensures.0, c.loop-left-test.true, at.invariant.0),
      λ p t f.
          let n : used - at.left ≡ used - 1 - (at.left - 1) = omega (arith, c.loop-left-test.true, at.invariant.0) in
          left-outside t c.args.root used (used-is p t) c.list_next-step.new.accepting c.list_next-step.new.accepted c.list_next-step.new.rejecting c.list_next-step.new.rejected c.list_next-step.new.live c.list_next-step.result.counts c.list_next-step.result.left c.next_left-left.result c.next_left-left.ensures.0 (omega (arith, c.list_next-step.ensures.left, c.loop-left-test.true, at.invariant.0)) c.next_left-left.ensures.1
          (c.list_next-step.ensures.listed p c.args.root t f (used-is p t) (subst (λ (x : ℕ). Listed p c.args.g.now.by c.args.root x at.accepting at.accepted at.rejecting at.rejected at.live at.listed) n (at.invariant.1 p t f))),
      c.list_next-step.auto.accepting ∙ at.invariant.2,
      c.list_next-step.auto.accepted ∙ at.invariant.3,
      c.list_next-step.auto.rejecting ∙ at.invariant.4,
      c.list_next-step.auto.rejected ∙ at.invariant.5,
      c.list_next-step.auto.live ∙ at.invariant.6,
    )

pub shape_of-accepting : goal.shape_of-accepting
shape_of-accepting c = c.loop-left.invariant.2 ∙ c.begin-listed.auto.accepting

pub shape_of-accepted : goal.shape_of-accepted
shape_of-accepted c = c.loop-left.invariant.3 ∙ c.begin-listed.auto.accepted

pub shape_of-rejecting : goal.shape_of-rejecting
shape_of-rejecting c = c.loop-left.invariant.4 ∙ c.begin-listed.auto.rejecting

pub shape_of-rejected : goal.shape_of-rejected
shape_of-rejected c = c.loop-left.invariant.5 ∙ c.begin-listed.auto.rejected

pub shape_of-live : goal.shape_of-live
shape_of-live c = c.loop-left.invariant.6

pub returns : goal.returns
returns c =
    let used-is : (p : Policy) → let g = c.args.g.now in PartsOf p g.policy.now.states g.policy.now.letters g.policy.now.target g.out g.into g.by → c.colours_in-used.result ≡ colours_of p c.args.root =
    λ p t. c.colours_in-used.ensures ∙ ap (λ (f : ℕ → ℕ). f c.args.root) (hue-is t) in
    λ p t f root. outcome-whole (c.loop-left.invariant.1 p t f) (omega (arith, used-is p t, c.loop-left-test.false))
