-- `on_cycles` meets its contract: with rows in one word, in two and in four. Assumes nothing.
use native.Mathlib.Omega.{arith}
use Prim.Native.Nat.{ℕ}
use Rattle.steps.proofs.Columns.{fold-1, fold-2, fold-4}
use Rattle.steps.proofs.on_cycles.Goals as goal

pub returns-then-states-le4 : goal.returns-then-states-le4
returns-then-states-le4 c =
    let x = c.own_bits-a in
    let w = c.args.w in
    λ e l. fold-1 16 (λ (e : ℕ). e) w.a w.b w.c w.d x.result c.folded.result x.ensures c.folded.ensures e (omega (arith, l, c.if-states-le4.true))

pub returns-then-states-le8 : goal.returns-then-states-le8
returns-then-states-le8 c =
    let y = c.own_bits in
    let x = c.own_bits-a in
    let w = c.args.w in
    λ e l. fold-2 16 (λ (e : ℕ). e) w.a w.b w.c w.d x.result y.result c.folded-then-states-le8.result x.ensures y.ensures c.folded-then-states-le8.ensures e (omega (arith, l, c.if-states-le8.true))

pub returns : goal.returns
returns c =
    let u = c.own_bits-3 in
    let z = c.own_bits-2 in
    let y = c.own_bits in
    let x = c.own_bits-a in
    let w = c.args.w in
    λ e l. fold-4 16 (λ (e : ℕ). e) w.a w.b w.c w.d x.result y.result z.result u.result c.folded-2.result x.ensures y.ensures z.ensures u.ensures c.folded-2.ensures e (omega (arith, l, c.requires))
