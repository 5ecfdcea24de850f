use native.Mathlib.Omega.{arith}
use native.Mathlib.Nat.{le_antisymm}
use Prim.Native.Nat.{ℕ, ◌*◌}
use mathlib.Core.Path.{sym, ap, ap₂, ◌∙◌}
use mathlib.Core.Bool.{cond}
use lib.Bits.{bit_or}
use Rattle.tables.specs.Copies.{part}
use Rattle.masks.specs.Masks.{has}
use Rattle.policy.specs.ByColour.{table_edges}
use Rattle.policy.proofs.ByColour.{edges_none, edges-next}
use Rattle.steps.proofs.Sets.{entry_at}
use Rattle.steps.proofs.word_of.Goals as goal

pub loop-k-init : goal.loop-k-init
loop-k-init c = let a = c.args in (omega arith, sym (edges_none (part 9 (9 * a.j) a.steps.now) a.s ∙ entry_at a.steps.now (9 * a.j) 8 (omega arith)))

pub loop-k-preserved : goal.loop-k-preserved
loop-k-preserved c =
    let a = c.args in
    let k = c.loop-k.k in
    let t = part 9 (9 * a.j) a.steps.now in
    (omega arith, c.either-w.ensures ∙ ap₂ bit_or c.loop-k.invariant.1 (c.where_has.ensures ∙ ap (λ (z : ℕ). cond (has a.s k) z 0) (sym (entry_at a.steps.now (9 * a.j) k (omega arith)))) ∙ sym (edges-next t k a.s))

pub returns : goal.returns
unfolding table_edges
returns c = cc (le_antisymm c.loop-k.invariant.0 c.loop-k-test.false)
