use Prim.Native.Nat.{◌<◌}
use native.Mathlib.Nat.{le_antisymm}
use native.Mathlib.Omega.{arith}
use mathlib.Core.Path.{refl, sym, ap, ◌∙◌}
use Rattle.lists.specs.Lists.{all, below}
use Rattle.lists.proofs.AnyAll.{all_more, all-not}
use Rattle.policy.specs.Policies.{edges}
use Rattle.policy.proofs.Laws.{edges_le}
use Rattle.comparing.specs.Pairs.{same_head}
use Rattle.comparing.proofs.Answers.{head-same, head-other, targets_by}
use Rattle.comparing.proofs.has_same_targets.Goals as goal

pub loop-e-init : goal.loop-e-init
loop-e-init c = (omega arith, refl)

pub bounds-p-e : goal.bounds-p-e
bounds-p-e c =
    let within : c.loop-e.e < edges c.args.p.now =
    omega (arith, c.edges-n.ensures, c.loop-e-test.true) in
    omega (arith, within, edges_le c.args.p.now c.requires)

pub bounds-q-e : goal.bounds-q-e
bounds-q-e c =
    let within : c.loop-e.e < edges c.args.p.now =
    omega (arith, c.edges-n.ensures, c.loop-e-test.true) in
    omega (arith, within, edges_le c.args.p.now c.requires)

pub returns-then-p-e : goal.returns-then-p-e
returns-then-p-e c =
    let within : c.loop-e.e < edges c.args.p.now =
    omega (arith, c.edges-n.ensures, c.loop-e-test.true) in
    let a = c.args in
    let e = c.loop-e.e in
    sym (sym (targets_by a.p.now.target a.q.now.target a.p.now a.q.now refl refl) ∙ all-not (same_head a.p.now.target a.q.now.target) (edges a.p.now) e (within) (head-other a.p.now.target a.q.now.target e c.if-p-e.true))

pub loop-e-preserved : goal.loop-e-preserved
loop-e-preserved c =
    let a = c.args in
    let e = c.loop-e.e in
    (omega arith, all_more (same_head a.p.now.target a.q.now.target) e c.loop-e.invariant.1 (head-same a.p.now.target a.q.now.target e c.if-p-e.false))

pub returns : goal.returns
returns c =
    let a = c.args in
    sym (sym (targets_by a.p.now.target a.q.now.target a.p.now a.q.now refl refl)
    ∙ ap (λ k. all (same_head a.p.now.target a.q.now.target) (below k)) (sym c.edges-n.ensures ∙ le_antisymm c.loop-e-test.false c.loop-e.invariant.0) ∙ c.loop-e.invariant.1)
