use mathlib.Core.Path.{sym, subst}
use Prim.Native.Nat.{ℕ, ◌+◌, ◌*◌, ◌^◌, ◌<◌}
use native.Mathlib.Nat.{le_antisymm}
use native.Mathlib.Omega.{arith}
use Rattle.graph.proofs.CodeLaws.{edge-row-none, edge-row-more, edge-row-few}
use mathlib.Core.Path.{◌∙◌, ap}
use Rattle.graph.specs.Through.{with_target}
use Rattle.graph.proofs.edge_row.Goals as goal

pub overflow_mul-first : goal.overflow_mul-first
overflow_mul-first c = omega (arith, c.requires.0)

pub loop-a-init : goal.loop-a-init
loop-a-init c = (omega arith, sym (edge-row-none _ _ _ _))

pub overflow_add-first : goal.overflow_add-first
overflow_add-first c = omega (arith, c.requires.0)

pub with_target-row-requires : goal.with_target-row-requires
with_target-row-requires c =
    (omega (arith, c.requires.0), c.requires.1 (c.args.v * c.args.letters + c.loop-a.a) (omega arith))

pub loop-a-preserved : goal.loop-a-preserved
loop-a-preserved c =
    let a = c.args in
    let at = c.loop-a in (
      omega arith,
      c.with_target-row.ensures
          ∙ ap (λ (r : ℕ). with_target a.t.now a.m r (a.v * a.letters + at.a)) at.invariant.1
          ∙ sym (edge-row-more a.t.now a.letters a.m a.v at.a),
    )

pub overflow_cast-result : goal.overflow_cast-result
overflow_cast-result c =
    let a = c.args in
    let at = c.loop-a in
    omega (arith, subst (λ (r : ℕ). r < 2 ^ 16) (sym at.invariant.1) (edge-row-few a.t.now a.letters a.m a.v at.a (λ e k. c.requires.1 e (omega arith))))

pub returns : goal.returns
returns c = cc (le_antisymm c.loop-a.invariant.0 c.loop-a-test.false)
