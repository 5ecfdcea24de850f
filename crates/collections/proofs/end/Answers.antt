use Prim.Native.Nat.{ℕ, ◌+◌, ◌-◌, ◌*◌, ◌<◌}
use native.Mathlib.Omega.{arith}
use mathlib.Core.Path.{◌≡◌, sym, subst}
use Rattle.collections.proofs.Ends.{end-here, end-lower, end_none}
use Rattle.collections.proofs.end.Goals as goal

pub loop-k-init : goal.loop-k-init
loop-k-init c = (omega arith, λ d l _. omega arith)

pub overflow_add-result : goal.overflow_add-result
overflow_add-result c = record { fits = omega (arith, c.word_end.ensures.most) }

pub returns-then-w-ne0 : goal.returns-then-w-ne0
returns-then-w-ne0 c =
    let k = c.loop-k.k in
    let e : k - 1 + 1 ≡ k = omega (arith, c.loop-k-test.true) in
    end-here c.args.t.now (k - 1) c.word_end.result (omega (arith, c.loop-k.invariant.0, e)) (λ d m h. subst (λ (x : ℕ). d < 64 * x) (sym e) (c.loop-k.invariant.1 d m h)) c.if-w-ne0.true c.word_end.ensures

pub loop-k-preserved : goal.loop-k-preserved
loop-k-preserved c =
    let k = c.loop-k.k in
    let e : k - 1 + 1 ≡ k = omega (arith, c.loop-k-test.true) in
    (omega arith, end-lower c.args.t.now (k - 1) c.if-w-ne0.false (λ d m h. subst (λ (x : ℕ). d < 64 * x) (sym e) (c.loop-k.invariant.1 d m h)))

pub returns : goal.returns
returns c = end_none c.args.t.now c.loop-k.k (omega (arith, c.loop-k-test.false)) c.loop-k.invariant.1
