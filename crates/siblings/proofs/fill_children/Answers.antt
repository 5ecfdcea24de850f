use native.Mathlib.Omega.{arith}
use mathlib.Core.Path.{sym, ◌∙◌}
use Rattle.siblings.proofs.Passing.{passing-none, passing-positions, passing-skip, passing-more, passing-all}
use Rattle.siblings.proofs.fill_children.Goals as goal
use Rattle.siblings.proofs.fill_children.Goals.{then-is_kept, else-is_kept}

pub loop-i-init : goal.loop-i-init
loop-i-init c = let a = c.args in passing-none a.list.now a.n a.kids.now

pub is_kept-requires : goal.is_kept-requires
is_kept-requires c = passing-positions c.loop-i.invariant c.requires.2

pub insert-requires : goal.insert-requires
insert-requires c =
    let v = c.loop-i.invariant in
    (passing-positions v c.requires.2, omega (arith, v.few, v.long, c.loop-i-test.true, c.requires.2), omega arith, c.requires.3)

pub overflow_add-count : goal.overflow_add-count
overflow_add-count c = omega (arith, c.loop-i.invariant.few, c.loop-i-test.true)

pub loop-i-preserved : goal.loop-i-preserved
loop-i-preserved c =
    let v = c.loop-i.invariant in
    elim c.if-is_kept.branch [
      | then-is_kept w ↦
          rw (w.kids-is, w.count-is, w.insert.ensures)
          (passing-more v c.requires.2 (omega arith) c.requires.1 (sym c.is_kept.ensures ∙ w.if-is_kept.true))
      | else-is_kept w ↦
          rw (w.kids-is, w.count-is) (passing-skip v c.requires.2 (omega arith) (sym c.is_kept.ensures ∙ w.if-is_kept.false))
    ]

pub shape_of-kids : goal.shape_of-kids
shape_of-kids c = c.loop-i.invariant.long

pub returns : goal.returns
returns c = passing-all c.loop-i.invariant c.requires.2 c.requires.0 (omega arith)
