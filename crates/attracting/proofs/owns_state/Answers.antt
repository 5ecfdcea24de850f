use lib.ListN.{get_or}
use Prim.Native.Nat.{ℕ}
use mathlib.Core.Path.{ap, ◌∙◌}
use Rattle.attracting.specs.Attracting.{owns}
use Rattle.attracting.proofs.owns_state.Goals as goal

pub returns : goal.returns
returns c = c.is_own.ensures ∙ ap (λ (v : ℕ). owns c.args.plant (get_or c.args.owners.now v 0)) c.from.ensures
