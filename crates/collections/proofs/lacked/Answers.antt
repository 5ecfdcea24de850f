-- `collections::lacked` meets its contract: what a full word has and w lacks. Assumes nothing.
use Prim.Native.Nat.{ℕ}
use mathlib.Core.Path.{ap, ◌∙◌}
use Rattle.masks.specs.Masks.{has}
use Rattle.collections.proofs.Upward.{lacked}
use Rattle.collections.proofs.lacked.Goals as goal

pub returns : goal.returns
returns c = λ e l. ap (λ (x : ℕ). has x e) c.without.ensures ∙ lacked c.args.w e l
