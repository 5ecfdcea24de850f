-- `closed_16` meets its contract, turn by turn. Assumes nothing.
use native.Mathlib.Omega.{arith}
use Rattle.steps.specs.Steps.{row_at}
use Rattle.steps.proofs.WordRows.{turned_none, turned-next}
use Rattle.steps.proofs.closed_16.Goals as goal

pub returns : goal.returns
returns c =
    let a = c.args in
    let f = row_at a.w.a a.w.b a.w.c a.w.d in
    let t1 = turned-next f f (row_at c.turn-w0.result.a c.turn-w0.result.b c.turn-w0.result.c c.turn-w0.result.d) 0 (omega arith) (λ v _. turned_none f v) c.turn-w0.ensures in
    let t2 = turned-next f (row_at c.turn-w0.result.a c.turn-w0.result.b c.turn-w0.result.c c.turn-w0.result.d) (row_at c.turn-w1.result.a c.turn-w1.result.b c.turn-w1.result.c c.turn-w1.result.d) 1 (omega arith) t1 c.turn-w1.ensures in
    let t3 = turned-next f (row_at c.turn-w1.result.a c.turn-w1.result.b c.turn-w1.result.c c.turn-w1.result.d) (row_at c.turn-w2.result.a c.turn-w2.result.b c.turn-w2.result.c c.turn-w2.result.d) 2 (omega arith) t2 c.turn-w2.ensures in
    let t4 = turned-next f (row_at c.turn-w2.result.a c.turn-w2.result.b c.turn-w2.result.c c.turn-w2.result.d) (row_at c.turn-w3.result.a c.turn-w3.result.b c.turn-w3.result.c c.turn-w3.result.d) 3 (omega arith) t3 c.turn-w3.ensures in
    let t5 = turned-next f (row_at c.turn-w3.result.a c.turn-w3.result.b c.turn-w3.result.c c.turn-w3.result.d) (row_at c.turn-w4.result.a c.turn-w4.result.b c.turn-w4.result.c c.turn-w4.result.d) 4 (omega arith) t4 c.turn-w4.ensures in
    let t6 = turned-next f (row_at c.turn-w4.result.a c.turn-w4.result.b c.turn-w4.result.c c.turn-w4.result.d) (row_at c.turn-w5.result.a c.turn-w5.result.b c.turn-w5.result.c c.turn-w5.result.d) 5 (omega arith) t5 c.turn-w5.ensures in
    let t7 = turned-next f (row_at c.turn-w5.result.a c.turn-w5.result.b c.turn-w5.result.c c.turn-w5.result.d) (row_at c.turn-w6.result.a c.turn-w6.result.b c.turn-w6.result.c c.turn-w6.result.d) 6 (omega arith) t6 c.turn-w6.ensures in
    let t8 = turned-next f (row_at c.turn-w6.result.a c.turn-w6.result.b c.turn-w6.result.c c.turn-w6.result.d) (row_at c.turn-w7.result.a c.turn-w7.result.b c.turn-w7.result.c c.turn-w7.result.d) 7 (omega arith) t7 c.turn-w7.ensures in
    let t9 = turned-next f (row_at c.turn-w7.result.a c.turn-w7.result.b c.turn-w7.result.c c.turn-w7.result.d) (row_at c.turn-w8.result.a c.turn-w8.result.b c.turn-w8.result.c c.turn-w8.result.d) 8 (omega arith) t8 c.turn-w8.ensures in
    let t10 = turned-next f (row_at c.turn-w8.result.a c.turn-w8.result.b c.turn-w8.result.c c.turn-w8.result.d) (row_at c.turn-w9.result.a c.turn-w9.result.b c.turn-w9.result.c c.turn-w9.result.d) 9 (omega arith) t9 c.turn-w9.ensures in
    let t11 = turned-next f (row_at c.turn-w9.result.a c.turn-w9.result.b c.turn-w9.result.c c.turn-w9.result.d) (row_at c.turn-w10.result.a c.turn-w10.result.b c.turn-w10.result.c c.turn-w10.result.d) 10 (omega arith) t10 c.turn-w10.ensures in
    let t12 = turned-next f (row_at c.turn-w10.result.a c.turn-w10.result.b c.turn-w10.result.c c.turn-w10.result.d) (row_at c.turn-w11.result.a c.turn-w11.result.b c.turn-w11.result.c c.turn-w11.result.d) 11 (omega arith) t11 c.turn-w11.ensures in
    let t13 = turned-next f (row_at c.turn-w11.result.a c.turn-w11.result.b c.turn-w11.result.c c.turn-w11.result.d) (row_at c.turn-w12.result.a c.turn-w12.result.b c.turn-w12.result.c c.turn-w12.result.d) 12 (omega arith) t12 c.turn-w12.ensures in
    let t14 = turned-next f (row_at c.turn-w12.result.a c.turn-w12.result.b c.turn-w12.result.c c.turn-w12.result.d) (row_at c.turn-w13.result.a c.turn-w13.result.b c.turn-w13.result.c c.turn-w13.result.d) 13 (omega arith) t13 c.turn-w13.ensures in
    let t15 = turned-next f (row_at c.turn-w13.result.a c.turn-w13.result.b c.turn-w13.result.c c.turn-w13.result.d) (row_at c.turn-w14.result.a c.turn-w14.result.b c.turn-w14.result.c c.turn-w14.result.d) 14 (omega arith) t14 c.turn-w14.ensures in
    let t16 = turned-next f (row_at c.turn-w14.result.a c.turn-w14.result.b c.turn-w14.result.c c.turn-w14.result.d) (row_at c.turn.result.a c.turn.result.b c.turn.result.c c.turn.result.d) 15 (omega arith) t15 c.turn.ensures in
    t16
