use native.Mathlib.Omega.{arith}
use native.Mathlib.Nat.{le_antisymm}
use mathlib.Core.Path.{refl}
use mathlib.Core.Logic.{inl, inr}
use Rattle.lists.proofs.AnyAll.{all-turn-both}
use Rattle.policy.specs.Policies.{target_of, colour_of, legal_edge, legal_edges}
use Rattle.policy.proofs.LegalTests.{legal-edge-by}
use Rattle.policy.proofs.has_legal_edges.Goals as goal
use Rattle.policy.proofs.has_legal_edges.Goals.{then-e-n, else-e-n, then-e-n-2, else-e-n-2}

pub overflow_cast-n : goal.overflow_cast-n
overflow_cast-n c = omega (arith, c.edges-n.ensures, c.requires)

pub loop-e-init : goal.loop-e-init
loop-e-init c = (omega arith, refl)

pub loop-e-preserved : goal.loop-e-preserved
unfolding target_of colour_of
loop-e-preserved c =
    let p = c.args.p.now in
    let e = c.loop-e.e in (
      omega arith,
      all-turn-both (legal_edge p) e _ _ _ c.loop-e.invariant.1
          (legal-edge-by p e _ _ _ c.edges-n.ensures
          (elim c.if-e-n.branch [ then-e-n w ↦ inl (w.if-e-n.true, w.heads-is) | else-e-n w ↦ inr (w.if-e-n.false, w.heads-is) ])
          (elim c.if-e-n-2.branch [ then-e-n-2 w ↦ inl (w.if-e-n-2.true, w.colours-is) | else-e-n-2 w ↦ inr (w.if-e-n-2.false, w.colours-is) ])),
    )

pub returns : goal.returns
unfolding legal_edges
returns c = cc (le_antisymm c.loop-e.invariant.0 c.loop-e-test.false)
