use native.Mathlib.Omega.{arith}
use native.Mathlib.Nat.{le_antisymm}
use mathlib.Core.Path.{refl}
use mathlib.Core.Bool.{and-true}
use Rattle.masks.specs.Masks.{inside}
use Rattle.policy.specs.Policies.{full, is_quiet, colour_of, legal_quiet}
use Rattle.policy.proofs.LegalTests.{legal-quiet-none, quiet-turn}
use Rattle.policy.proofs.has_legal_quiet.Goals as goal

pub returns-then-p-eq0 : goal.returns-then-p-eq0
returns-then-p-eq0 c = legal-quiet-none c.args.p.now c.if-p-eq0.true

pub full-requires : goal.full-requires
full-requires c = omega (arith, c.edges.ensures, c.requires)

pub loop-e-init : goal.loop-e-init
unfolding full
loop-e-init c = (omega arith, cc (c.inside-b.ensures, c.full.ensures, c.edges.ensures, and-true c.inside-b.result))

pub loop-e-preserved : goal.loop-e-preserved
unfolding is_quiet colour_of
loop-e-preserved c =
    let p = c.args.p.now in
    (omega arith, quiet-turn p (inside p.quiet (full p)) c.loop-e.e _ _ _ c.loop-e.invariant.1 c.has.ensures refl)

pub returns : goal.returns
unfolding legal_quiet
returns c = cc (le_antisymm c.loop-e.invariant.0 c.loop-e-test.false)
