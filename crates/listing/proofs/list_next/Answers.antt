use Rattle.listing.proofs.Steps.{left_le, step-outside, at-closed, at-passed, at-lacking, at-jump, at-looked}
use Rattle.looks.proofs.Spans.{upper-le}
use lib.Seq.{length-take-le}
use lib.ListN.{get_or}
use Rattle.policy.specs.Policies.{in_family}
use mathlib.Core.List.{List}
use mathlib.Core.Bool.{Bool, false}
use mathlib.Core.Path.{sym, ap, ◌∙◌, subst}
use Prim.Native.Nat.{ℕ, ◌≤◌}
use native.Mathlib.Omega.{arith}
use Rattle.listing.proofs.list_next.Goals as goal

pub returns-then-not-inside : goal.returns-then-not-inside
returns-then-not-inside c = let a = c.args in record { listed = λ p root t f u l. step-outside t root a.used u a.c c.requires.live.0 a.accepting.now a.accepted.now a.rejecting.now a.rejected.now a.live.now a.listed (sym c.inside.ensures ∙ c.if-not-inside.true) l; left = omega arith }

pub slice_bounds-is_open_for-end-2 : goal.slice_bounds-is_open_for-end-2
slice_bounds-is_open_for-end-2 c = sym (length-take-le c.args.listed.accepting c.args.accepted.now c.requires.accepting.0.hues_long)

pub slice_bounds-is_open_for-end-4 : goal.slice_bounds-is_open_for-end-4
slice_bounds-is_open_for-end-4 c = sym (length-take-le c.args.listed.rejecting c.args.rejected.now c.requires.rejecting.0.hues_long)

pub slice_bounds-is_passed-end-then-not-open : goal.slice_bounds-is_passed-end-then-not-open
slice_bounds-is_passed-end-then-not-open c = sym (length-take-le c.args.listed.accepting c.args.accepted.now c.requires.accepting.0.hues_long)

pub slice_bounds-is_passed-end-then-not-open-3 : goal.slice_bounds-is_passed-end-then-not-open-3
slice_bounds-is_passed-end-then-not-open-3 c = sym (length-take-le c.args.listed.rejecting c.args.rejected.now c.requires.rejecting.0.hues_long)

pub is_passed-requires : goal.is_passed-requires
is_passed-requires c =
    let a = c.args in subst (λ (x : ℕ). x ≤ a.c) (sym c.upper-up.ensures) (upper-le a.used a.c c.requires.live.0 c.ranges.used.fits)

pub returns-then-is_passed : goal.returns-then-is_passed
returns-then-is_passed c = let a = c.args in record { listed = λ p root t f u l. at-passed t root a.used u a.c c.requires.live.0 a.g.now.policy.now.family f c.upper-up.result c.upper-up.ensures l (sym c.is_open_for-open.ensures ∙ c.if-not-open.true) (c.is_passed.ensures c.if-is_passed.true); left = subst (λ (x : ℕ). x ≤ a.c) (sym c.upper-up.ensures) (upper-le a.used a.c c.requires.live.0 c.ranges.used.fits) }

pub overflow_sub-c : goal.overflow_sub-c
overflow_sub-c c =
    let a = c.args in subst (λ (x : ℕ). x ≤ a.c) (sym c.upper-up.ensures) (upper-le a.used a.c c.requires.live.0 c.ranges.used.fits)

pub returns-then-c-up-lt15 : goal.returns-then-c-up-lt15
returns-then-c-up-lt15 c = let a = c.args in record { listed = λ p root t f u l. at-closed t root a.used u a.c c.requires.live.0 a.g.now.policy.now.family f c.upper-up.result c.upper-up.ensures l (sym c.is_open_for-open.ensures ∙ c.if-not-open.true); left = omega arith }

pub edges_of-m-requires : goal.edges_of-m-requires
edges_of-m-requires c =
    let a = c.args in (sym c.inside.ensures ∙ c.if-not-inside.false, c.requires.live.1)

pub returns-then-not-inside-2 : goal.returns-then-not-inside-2
returns-then-not-inside-2 c = let a = c.args in record { listed = λ p root t f u l. at-lacking t root a.used u a.c c.requires.live.0 a.g.now.policy.now.family f c.upper-up.result c.upper-up.ensures l c.edges_of-m.result c.colours_in-hue.result (c.edges_of-m.ensures p root t.graph.lawful t.by_is l.live_are).0 c.colours_in-hue.ensures (sym c.inside-2.ensures ∙ c.if-not-inside-2.true); left = subst (λ (x : ℕ). x ≤ a.c) (sym c.upper-up.ensures) (upper-le a.used a.c c.requires.live.0 c.ranges.used.fits) }

pub bounds-live-hue-then-hue-c : goal.bounds-live-hue-then-hue-c
bounds-live-hue-then-hue-c c = omega (arith, c.if-hue-c.true, c.requires.live.0, c.requires.live.1)

pub returns-then-hue-c : goal.returns-then-hue-c
returns-then-hue-c c = let a = c.args in record { listed = λ p root t f u l. at-jump t root a.used u a.c c.requires.live.0 a.g.now.policy.now.family f c.upper-up.result c.upper-up.ensures l c.edges_of-m.result c.colours_in-hue.result (c.edges_of-m.ensures p root t.graph.lawful t.by_is l.live_are).0 c.colours_in-hue.ensures c.both.result (c.edges_of-m.ensures p root t.graph.lawful t.by_is l.live_are).1 (sym c.inside-2.ensures ∙ c.if-not-inside-2.false) c.if-hue-c.true c.requires.live.1 c.both.ensures; left = omega (arith, c.if-hue-c.true) }

pub list_set-requires : goal.list_set-requires
list_set-requires c = let a = c.args in record { accepting = c.requires.accepting; rejecting = c.requires.rejecting; live = (omega (arith, c.requires.live.0, c.requires.live.1), subst (λ (x : ℕ). x ≤ a.c) (sym c.upper-up.ensures) (upper-le a.used a.c c.requires.live.0 c.ranges.used.fits)) }

pub returns-then-open : goal.returns-then-open
unfolding in_family
returns-then-open c = let a = c.args in record { listed = λ p root t f u l. c.list_set.ensures.listed p root a.used t f u c.requires.live.0 (sym c.inside.ensures ∙ c.if-not-inside.false) (ap (λ (x : List Bool). get_or x a.c false) f) c.upper-up.ensures (c.edges_of-m.ensures p root t.graph.lawful t.by_is l.live_are).0 (c.edges_of-m.ensures p root t.graph.lawful t.by_is l.live_are).1 l; left = c.list_set.ensures.left }

pub bounds-live-c : goal.bounds-live-c
bounds-live-c c = omega (arith, c.requires.live.0, c.requires.live.1)

pub returns : goal.returns
returns c = let a = c.args in record { listed = λ p root t f u l. at-looked t root a.used u a.c c.requires.live.0 a.g.now.policy.now.family f c.upper-up.result c.upper-up.ensures l c.edges_of-m.result c.colours_in-hue.result (c.edges_of-m.ensures p root t.graph.lawful t.by_is l.live_are).0 c.colours_in-hue.ensures c.edges_on_cycles-edges.result c.left_after.result (c.edges_on_cycles-edges.ensures p a.g.now.by t) c.left_after.ensures (sym c.is_open_for-open.ensures ∙ c.if-open.false); left = subst (λ (x : ℕ). x ≤ a.c) (sym c.left_after.ensures) (left_le c.edges_on_cycles-edges.result c.upper-up.result a.c (subst (λ (x : ℕ). x ≤ a.c) (sym c.upper-up.ensures) (upper-le a.used a.c c.requires.live.0 c.ranges.used.fits))) }
