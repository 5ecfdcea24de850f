use mathlib.Core.Path.{sym, ap, ◌∙◌}
use Prim.Native.Nat.{ℕ}
use native.Mathlib.Nat.{le_antisymm}
use native.Mathlib.Omega.{arith}
use lib.Bits.{bit_and}
use lib.Dec.{eqb}
use lib.ListN.{get_or}
use Rattle.masks.specs.Masks.{mask_of}
use Rattle.masks.proofs.MaskOf.{mask-of-none}
use Rattle.graph.specs.Through.{cycle_states}
use Rattle.graph.proofs.OnCycle.{mask-of-next}
use Rattle.graph.proofs.cycle_states.Goals as goal

pub loop-w-init : goal.loop-w-init
loop-w-init c = (omega arith, sym (mask-of-none _))

pub loop-w-preserved : goal.loop-w-preserved
loop-w-preserved c = (omega arith, mask-of-next _ _ _ _ c.loop-w.invariant.1 c.with_if-s.ensures)

pub returns : goal.returns
unfolding cycle_states
returns c =
    let at = c.loop-w in
    let rows = c.args.rows.now in
    let row = get_or rows c.args.v 0 in
    c.both.ensures
    ∙ ap (λ (m : ℕ). bit_and m row) (at.invariant.1 ∙ ap (mask_of (λ (u : ℕ). eqb (get_or rows u 0) row)) (le_antisymm at.invariant.0 c.loop-w-test.false))
