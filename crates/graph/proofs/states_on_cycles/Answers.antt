use mathlib.Core.Path.{◌≡◌, sym, ap, ◌∙◌}
use mathlib.Core.Bool.{Bool, cond}
use Prim.Native.Nat.{ℕ, ◌-◌, ◌≤◌}
use native.Mathlib.Nat.{le_antisymm}
use native.Mathlib.Omega.{arith}
use lib.ListN.{get_or}
use borrow.Author.Rules.{rules}
use Rattle.masks.specs.Masks.{has, insert, mask_of}
use Rattle.masks.proofs.MaskOf.{mask-of-none}
use Rattle.graph.specs.Through.{states_on_cycles}
use Rattle.graph.proofs.OnCycle.{mask-of-next}
use Rattle.graph.proofs.states_on_cycles.Goals as goal

pub loop-w-init : goal.loop-w-init
loop-w-init c = (omega arith, sym (mask-of-none _))

pub loop-w-preserved : goal.loop-w-preserved
loop-w-preserved c =
    let at = c.loop-w in (
      omega arith,
      mask-of-next _ at.w at.s _ at.invariant.1
          (c.with_if-s.ensures ∙ ap (λ (b : Bool). cond b (insert at.s at.w) at.s) c.has.ensures),
    )

pub returns : goal.returns
unfolding states_on_cycles
returns c = cc (le_antisymm c.loop-w.invariant.0 c.loop-w-test.false)
