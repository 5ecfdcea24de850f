use Prim.Native.Nat.{ℕ}
use mathlib.Core.Path.{sym, ap, ◌∙◌}
use native.Mathlib.Nat.{le_antisymm}
use native.Mathlib.Omega.{arith}
use Rattle.masks.specs.Masks.{has}
use Rattle.hanoi_family.proofs.Words.{collected-none, collected-with, collected-without, collected-all}
use Rattle.hanoi_family.proofs.sets_with.Goals as goal
use Rattle.hanoi_family.proofs.sets_with.Goals.{then-has, else-has}

pub loop-c-init : goal.loop-c-init
loop-c-init c = (omega arith, collected-none _ _ _)

pub coloured-r-requires : goal.coloured-r-requires
coloured-r-requires c = (c.requires.0, c.loop-c-test.true)

pub loop-c-preserved : goal.loop-c-preserved
loop-c-preserved c = (
  omega arith,
  elim c.if-has.branch [
    | then-has w ↦ rw w.r-is (collected-with _ _ _ _ _ _ c.loop-c.invariant.1 (ap (λ (x : ℕ). has x c.args.mark) (sym c.from.ensures) ∙ (sym c.has.ensures ∙ w.if-has.true)) w.coloured-r.ensures)
    | else-has w ↦ rw w.r-is (collected-without _ _ _ _ _ c.loop-c.invariant.1 (ap (λ (x : ℕ). has x c.args.mark) (sym c.from.ensures) ∙ (sym c.has.ensures ∙ w.if-has.false)))
  ],
)

pub returns : goal.returns
returns c = collected-all _ _ _ _ _ c.loop-c.invariant.1 (le_antisymm c.loop-c.invariant.0 c.loop-c-test.false)
