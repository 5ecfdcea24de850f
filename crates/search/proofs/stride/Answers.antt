use native.Mathlib.Omega.{arith}
use Prim.Native.Nat.{◌≤◌, ◌<◌}
use Rattle.search.specs.LowerBound.{Narrowed}
use Rattle.search.proofs.Narrowing.{narrowed_none, narrowed-up, narrowed-down}
use Rattle.search.proofs.stride.Goals.{then-this-ne0, else-this-ne0, then-entries-next, else-entries-next}
use Rattle.search.proofs.stride.Goals as goal

pub loop-step-init : goal.loop-step-init
loop-step-init g c = (omega arith, narrowed_none _ _ _ _ c.requires.0)

pub loop-step-preserved : goal.loop-step-preserved
loop-step-preserved g c =
    let at : (c.loop-step.from ≤ c.if-this-ne0.next) × (c.if-this-ne0.next < c.loop-step.to) = elim c.if-this-ne0.branch [ then-this-ne0 w ↦ (omega (arith, w.next-is), omega (arith, w.next-is)) | else-this-ne0 w ↦ (omega (arith, w.next-is, c.loop-step.invariant.0), omega (arith, w.next-is, c.loop-step.invariant.0)) ] in
    let narrowed : Narrowed c.args.entries.now c.args.low c.args.high c.args.x c.if-entries-next.from c.if-entries-next.to =
    elim c.if-entries-next.branch [
      | then-entries-next w ↦ rw (w.from-is, w.to-is) (narrowed-up _ _ _ _ _ _ _ c.requires.2 c.loop-step.invariant.1 at.0 at.1 w.if-entries-next.true)
      | else-entries-next w ↦ rw (w.from-is, w.to-is) (narrowed-down _ _ _ _ _ _ _ c.requires.2 c.loop-step.invariant.1 at.0 at.1 w.if-entries-next.false)
    ]
    in
    (omega (arith, c.loop-step.invariant.0), narrowed)

pub returns : goal.returns
returns g c = c.loop-step.invariant.1
