-- `is_covered` meets its contract: none of the masks passed does. Assumes nothing.
use mathlib.Core.Path.{◌≡◌}
use mathlib.Core.Bool.{false}
use lib.ListN.{take}
use Rattle.lists.specs.Lists.{any}
use Rattle.candidates.specs.Candidates.{covers}
use Rattle.looks.proofs.is_covered.Given as goal

abbrev pub invariant-loop-k : goal.invariant-loop-k
invariant-loop-k l = any (covers l.e l.y) (take l.k-index l.same) ≡ false
