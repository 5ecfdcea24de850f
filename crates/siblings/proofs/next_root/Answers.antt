use native.Mathlib.Omega.{arith}
use Rattle.siblings.specs.NextRoot.{stands_after}
use Rattle.siblings.proofs.NextRoot.{least-none, root-turn, root-end}
use Rattle.siblings.proofs.next_root.Goals as goal
use Rattle.siblings.proofs.next_root.Goals.{then-is_better_root, else-is_better_root}

pub loop-m-init : goal.loop-m-init
loop-m-init c = least-none (stands_after c.args.after)

pub loop-m-preserved : goal.loop-m-preserved
loop-m-preserved c =
    let a = c.args in
    root-turn a.list.now a.after c.loop-m.m-index c.loop-m.best c.if-is_better_root.best c.is_better_root.result (omega arith) c.requires.1 c.is_better_root.ensures (elim c.if-is_better_root.branch [
      | then-is_better_root w ↦ rw w.if-is_better_root.true cc
      | else-is_better_root w ↦ rw w.if-is_better_root.false cc
    ]) c.loop-m.invariant

pub returns : goal.returns
returns c =
    let a = c.args in
    root-end a.list.now a.after c.loop-m.m-index c.loop-m.best c.requires.0 (omega arith) c.loop-m.invariant
