-- `colour_sets::members` meets its contract: the language's count is that of the 8 digits. Assumes nothing.
use native.Mathlib.Omega.{arith}
use mathlib.Core.Path.{sym}
use Rattle.colour_sets.proofs.Counting.{size-ones}
use Rattle.colour_sets.proofs.members.Goals as goal

pub returns : goal.returns
returns c = sym (size-ones c.args.s (omega arith))
