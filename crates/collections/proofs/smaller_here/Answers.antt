use Prim.Native.Nat.{ℕ}
use native.Mathlib.Omega.{arith}
use mathlib.Core.Path.{subst}
use Rattle.collections.specs.Collections.{Fewer}
use Rattle.collections.proofs.Fewer.{fewer-le, fewer-none, fewer-more}
use Rattle.collections.proofs.smaller_here.Goals as goal

pub loop-i-init : goal.loop-i-init
loop-i-init c = (omega arith, fewer-none c.args.l)

pub with_if-w-requires : goal.with_if-w-requires
with_if-w-requires c = omega (arith, fewer-le c.args.l c.loop-i.i, c.set_without-s.ensures, c.requires)

pub overflow_step-i : goal.overflow_step-i
overflow_step-i c = record { fits = omega (arith, c.loop-i-test.true) }

pub loop-i-smaller : goal.loop-i-smaller
loop-i-smaller c = omega (arith, c.loop-i-test.true)

pub loop-i-preserved : goal.loop-i-preserved
loop-i-preserved c =
    let s = c.set_without-s in
    let b = c.has-b in
    (omega arith, fewer-more c.args.l c.loop-i.i c.loop-i.w s.result c.with_if-w.result b.result s.ensures b.ensures c.with_if-w.ensures c.loop-i.invariant.1)

pub returns : goal.returns
returns c = subst (λ (n : ℕ). Fewer c.args.l n c.loop-i.w) (omega (arith, c.loop-i.invariant.0, c.loop-i-test.false)) c.loop-i.invariant.1
