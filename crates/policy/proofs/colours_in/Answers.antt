use Prim.Native.Nat.{ℕ}
use native.Mathlib.Omega.{arith}
use native.Mathlib.Nat.{le_antisymm}
use mathlib.Core.Path.{sym, ap, ◌∙◌}
use mathlib.Core.Bool.{not, cond}
use lib.Dec.{eqb}
use lib.ListN.{get_or}
use lib.Bits.{bit_and}
use Rattle.masks.specs.Masks.{insert}
use Rattle.policy.specs.ByColour.{table_colours}
use Rattle.policy.proofs.ByColour.{colours-to-none, colours-to-next}
use Rattle.policy.proofs.colours_in.Goals as goal

pub loop-k-init : goal.loop-k-init
loop-k-init c = (omega arith, sym (colours-to-none c.args.t.now c.args.m))

pub loop-k-preserved : goal.loop-k-preserved
loop-k-preserved c =
    let t = c.args.t.now in
    let m = c.args.m in
    let at = c.loop-k in (
      omega arith,
      c.with_if-s.ensures
          ∙ ap (λ (x : ℕ). cond (not (eqb x 0)) (insert at.s at.k) at.s) c.both.ensures
          ∙ ap (λ (x : ℕ). cond (not (eqb (bit_and m (get_or t at.k 0)) 0)) (insert x at.k) x) at.invariant.1
          ∙ sym (colours-to-next t at.k m),
    )

pub returns : goal.returns
unfolding table_colours
returns c = cc (le_antisymm c.loop-k.invariant.0 c.loop-k-test.false)
