-- `is_outside` meets its contract: m lies inside none of the masks passed. Assumes nothing.
use mathlib.Core.Path.{◌≡◌}
use mathlib.Core.Bool.{false}
use lib.ListN.{take}
use Rattle.lists.specs.Lists.{any}
use Rattle.masks.specs.Masks.{inside}
use Rattle.siblings.specs.Positions.{masks_at}
use Rattle.siblings.proofs.is_outside.Given as goal

abbrev pub invariant-loop-k : goal.invariant-loop-k
invariant-loop-k l = any (inside l.m) (masks_at l.list (take l.k-index l.k-items)) ≡ false
