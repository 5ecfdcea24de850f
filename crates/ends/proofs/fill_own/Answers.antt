use Prim.Native.Nat.{ℕ}
use native.Mathlib.Nat.{le_antisymm}
use mathlib.Core.Path.{ap, ◌∙◌}
use lib.Seq.{sets}
use Rattle.ends.specs.Raising.{successors}
use Rattle.ends.proofs.Raising.{own-none, own-more}
use Rattle.ends.proofs.fill_own.Goals as goal

pub loop-n-init : goal.loop-n-init
loop-n-init c = own-none _

pub loop-n-preserved : goal.loop-n-preserved
loop-n-preserved c = own-more _ c.loop-n.invariant

pub returns : goal.returns
returns c = c.loop-n.invariant.now_is ∙ ap (λ (n : ℕ). sets c.args.ends.now 0 (successors n)) (le_antisymm c.loop-n.auto.n-end c.loop-n-test.false)
