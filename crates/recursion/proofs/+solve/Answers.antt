use native.Mathlib.Omega.{arith}
use Rattle.recursion.proofs.Going.{going_start, going_end, going-lt, going-head, going-arena, going-listed, going-turning, going_more}
use Rattle.recursion.proofs.Steps.{marks-few}
use Rattle.recursion.proofs.+solve.Goals as goal

pub loop-left-init : goal.loop-left-init
loop-left-init t c = going_start _ _ _ _ _ _ _ _ _ _ _ c.requires.levels.0 c.requires.arena.0 c.requires.arena.1 c.requires.lists

pub solve-requires : goal.solve-requires
solve-requires t c =
    let x = c.loop-left.invariant in
    let lt = going-lt _ _ _ _ _ _ _ _ _ _ _ _ _ _ _ x c.loop-left-test.true c.requires.levels.1 in
    let few = c.requires.long in
    let so_far = c.attract-rest.ensures.0.so_far in
    let head = going-head _ _ _ _ _ _ _ _ _ _ _ _ _ _ _ x _ _ _ _ _ c.rows_task.ensures c.attract-rest.ensures in
    let arena = going-arena _ _ _ _ _ _ _ _ _ _ _ _ _ _ _ x _ _ _ _ _ c.rows_task.ensures c.attract-rest.ensures in
    let listed = going-listed _ _ _ _ _ _ _ _ _ _ _ _ _ _ _ x _ _ _ _ _ c.rows_task.ensures c.attract-rest.ensures in
    let m = marks-few few.0 x.level.marks_long so_far.marks_long in
    let k = marks-few few.1 x.level.choices_long so_far.choices_long in
    (omega (arith, lt, c.decreases), ((omega (arith, lt), c.requires.levels.1), ((m, k), ((head, arena), listed))))

pub turn-left-requires-clause-turning : goal.turn-left-requires-clause-turning
turn-left-requires-clause-turning t c = going-turning _ _ _ _ _ _ _ _ _ _ _ _ _ _ _ c.loop-left.invariant _ _ _ _ _ c.rows_task.ensures c.attract-rest.ensures c.args.g.now.rows _ _ _ c.solve.ensures

pub loop-left-preserved : goal.loop-left-preserved
loop-left-preserved t c = going_more _ _ _ _ _ _ _ _ _ _ _ _ _ _ _ c.loop-left.invariant _ _ _ _ _ c.rows_task.ensures c.attract-rest.ensures c.args.g.now.rows _ _ _ c.solve.ensures _ _ _ _ c.turn-left.ensures c.loop-left-test.true

pub returns : goal.returns
returns t c = going_end _ _ _ _ _ _ _ _ _ _ _ _ _ _ _ c.loop-left-test.false c.loop-left.invariant
