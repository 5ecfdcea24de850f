use mathlib.Core.Path.{refl}
use Rattle.forest.proofs.Columns.{parents_long}
use Rattle.decomposition.proofs.Raising.{raised-none, raised_long, raised-small, raised-accepting, raised-rejecting, raised-child, raised_all}
use native.Mathlib.Omega.{arith}
use Rattle.decomposition.proofs.raise.Goals as goal
use Rattle.decomposition.proofs.raise.Goals.{then-parents-n+then-priority-eq0, then-parents-n+else-priority-eq0, else-parents-n}

pub loop-n-init : goal.loop-n-init
loop-n-init c = λ p u. (raised-none p _, omega arith)

pub bounds-node_priorities-n : goal.bounds-node_priorities-n
bounds-node_priorities-n c = let v = (c.loop-n.invariant c.args.p.now (c.requires.lawful, (c.requires.nodes, c.requires.table))).0 in omega (arith, (raised_long c.args.p.now (c.requires.lawful, (c.requires.nodes, c.requires.table)) v).0, c.loop-n-test.true, c.requires.table.0)

pub offset_bounds-parents-n : goal.offset_bounds-parents-n
offset_bounds-parents-n c = omega (arith, c.loop-n-test.true, c.requires.nodes.1)

pub bounds-parents-n : goal.bounds-parents-n
bounds-parents-n c = omega (arith, c.loop-n-test.true, c.requires.nodes.0, parents_long c.args.p.now c.requires.nodes.2)

pub overflow_add-node_priorities : goal.overflow_add-node_priorities
overflow_add-node_priorities c =
    let v = c.loop-n.invariant c.args.p.now (c.requires.lawful, (c.requires.nodes, c.requires.table)) in
    let k = raised-small c.args.p.now (c.requires.lawful, (c.requires.nodes, c.requires.table)) v.0 c.loop-n-test.true in
    elim c.if-parents-n.branch [
      | then-parents-n+then-priority-eq0 w ↦ omega (arith, k)
      | then-parents-n+else-priority-eq0 w ↦ omega (arith, k)
      | else-parents-n w ↦ omega (arith, k, v.1)
    ]

pub bounds-node_priorities-n-in-loop-n : goal.bounds-node_priorities-n-in-loop-n
bounds-node_priorities-n-in-loop-n c = let v = (c.loop-n.invariant c.args.p.now (c.requires.lawful, (c.requires.nodes, c.requires.table))).0 in omega (arith, (raised_long c.args.p.now (c.requires.lawful, (c.requires.nodes, c.requires.table)) v).0, c.loop-n-test.true, c.requires.table.0)

pub overflow_step-n : goal.overflow_step-n
overflow_step-n c = omega (arith, c.loop-n-test.true, c.requires.nodes.1)

pub loop-n-smaller : goal.loop-n-smaller
loop-n-smaller c = omega (arith, c.loop-n-test.true)

pub loop-n-preserved : goal.loop-n-preserved
loop-n-preserved c = λ p u.
    let v = c.loop-n.invariant p u in
    let i = c.loop-n-test.true in
    elim c.if-parents-n.branch [
      | then-parents-n+then-priority-eq0 w ↦
          (raised-accepting p u v.0 i w.if-parents-n.true w.if-priority-eq0.true w.more-is refl, omega arith)
      | then-parents-n+else-priority-eq0 w ↦
          (raised-rejecting p u v.0 i w.if-parents-n.true w.if-priority-eq0.false w.more-is refl, omega arith)
      | else-parents-n w ↦ (raised-child p u v.0 i w.if-parents-n.false w.more-is refl, omega (arith, v.1))
    ]

pub shape_of-node_priorities : goal.shape_of-node_priorities
shape_of-node_priorities c = (raised_long c.args.p.now (c.requires.lawful, (c.requires.nodes, c.requires.table)) (c.loop-n.invariant c.args.p.now (c.requires.lawful, (c.requires.nodes, c.requires.table))).0).0

pub returns : goal.returns
returns c = raised_all c.args.p.now (c.requires.lawful, (c.requires.nodes, c.requires.table)) (c.loop-n.invariant c.args.p.now (c.requires.lawful, (c.requires.nodes, c.requires.table))).0 c.loop-n-test.false
