-- `offspring::look_at` meets its contract: what the cycle is decides where its children are. Assumes nothing.
use mathlib.Core.Path.{sym, ◌∙◌}
use Rattle.offspring.proofs.Looking.{at-outside, at-covered, at-smaller, at-later, at-found, at-full, looked-of, beq-other, beq_same, looking-is}
use native.Mathlib.Omega.{arith}
use Rattle.offspring.proofs.look_at.Goals as goal

pub returns-then-not-inside : goal.returns-then-not-inside
returns-then-not-inside c =
    λ p count to g r low l. looked-of (at-outside g r low l (sym c.inside.ensures ∙ c.if-not-inside.true))

pub returns-then-not-is_outside : goal.returns-then-not-is_outside
returns-then-not-is_outside c =
    λ p count to g r low l. looked-of (at-covered g r low l (sym c.is_outside.ensures ∙ c.if-not-is_outside.true))

pub returns-then-verdict-node : goal.returns-then-verdict-node
returns-then-verdict-node c =
    λ p count to g r low l. looked-of (at-smaller g r low l (beq-other _ _ c.if-verdict-node.true) (omega (arith, c.ranges.s.fits)) c.add_smaller.ensures)

pub returns-then-kids-found : goal.returns-then-kids-found
returns-then-kids-found c =
    let in-n = sym c.inside.ensures ∙ c.if-not-inside.false in
    let free = sym c.is_outside.ensures ∙ c.if-not-is_outside.false in
    let other = beq_same _ _ c.if-verdict-node.false in
    λ p count to g r low l. at-full g r low l c.if-h-s.true other in-n free c.if-kids-found.true

pub insert-requires : goal.insert-requires
insert-requires c =
    (c.requires.places.3, c.if-kids-found.false, c.requires.places.0, omega (arith, c.requires.places.2))

pub returns-then-h-s : goal.returns-then-h-s
returns-then-h-s c =
    let in-n = sym c.inside.ensures ∙ c.if-not-inside.false in
    let free = sym c.is_outside.ensures ∙ c.if-not-is_outside.false in
    let other = beq_same _ _ c.if-verdict-node.false in
    λ p count to g r low l. looked-of (looking-is (sym c.insert.ensures) (at-found g r low l c.if-h-s.true other in-n free c.if-kids-found.false))

pub returns : goal.returns
returns c =
    λ p count to g r low l. looked-of (at-later g r low l c.add_if.ensures.0 c.add_if.ensures.1 (omega (arith, c.type_inv.hues c.args.i)) c.if-h-s.false)
