use Prim.Native.Nat.{ℕ}
use native.Mathlib.Omega.{arith}
use mathlib.Core.Bool.{false}
use lib.ListN.{get_or}
use Rattle.collections.proofs.Upward.{pushing-more, pushing-all}
use Rattle.collections.proofs.accepted_word.Goals as goal

pub loop-j-init : goal.loop-j-init
loop-j-init c = (omega arith, λ x l. absurd (omega arith))

pub loop-j-smaller : goal.loop-j-smaller
loop-j-smaller c = omega (arith, c.loop-j-test.true)

pub loop-j-preserved : goal.loop-j-preserved
loop-j-preserved c =
    let a = c.args in
    (omega (arith, c.loop-j.invariant.0), pushing-more (λ (x : ℕ). get_or a.family.now x false) a.n c.loop-j.j c.loop-j.w c.pushed-w.result c.requires c.loop-j-test.true c.loop-j.invariant.1 c.pushed-w.ensures)

pub returns : goal.returns
returns c =
    let a = c.args in
    pushing-all (λ (x : ℕ). get_or a.family.now x false) a.n c.loop-j.j c.loop-j.w c.loop-j-test.false c.loop-j.invariant.1
