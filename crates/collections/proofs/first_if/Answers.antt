-- `collections::first_if` meets its contract: the flag as a number is bit 0 or nothing. Assumes nothing.
use Prim.Native.Nat.{ℕ}
use mathlib.Core.Path.{ap, ◌∙◌}
use Rattle.masks.specs.Masks.{has}
use Rattle.collections.proofs.Upward.{first-if}
use Rattle.collections.proofs.first_if.Goals as goal

pub returns : goal.returns
returns c = λ e t k. ap (λ (x : ℕ). has x e) c.without.ensures ∙ first-if c.args.w c.args.b e t k
