-- `states::put` meets its contract: a store past the end is none. Assumes nothing.
use mathlib.Core.Path.{sym}
use lib.Seq.{set_out}
use native.Mathlib.Omega.{arith}
use Rattle.states.proofs.put.Goals as goal

pub returns-else-at-t : goal.returns-else-at-t
returns-else-at-t g c = sym (set_out _ _ _ (omega arith))
