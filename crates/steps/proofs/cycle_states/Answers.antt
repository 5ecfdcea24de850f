-- `cycle_states` meets its contract. Assumes nothing.
use Prim.Native.Nat.{ℕ}
use mathlib.Core.Path.{sym, ap, ap₂, ◌∙◌}
use mathlib.Core.Bool.{◌&&◌}
use Rattle.lists.proofs.Bools.{and_l}
use Rattle.masks.specs.Masks.{has}
use Rattle.masks.proofs.Bits.{has-and}
use Rattle.steps.proofs.cycle_states.Goals as goal

pub returns : goal.returns
returns c =
    let x = c.row_at in
    let y = c.states_before in (
      λ u h. ap (λ (r : ℕ). has r u) (sym x.ensures) ∙ and_l (has x.result u) (has y.result u) (sym (has-and u x.result y.result) ∙ h),
      λ u l. has-and u x.result y.result ∙ ap₂ ◌&&◌ (ap (λ (r : ℕ). has r u) x.ensures) (y.ensures u l),
    )
