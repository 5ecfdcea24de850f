use Rattle.masks.specs.Masks.{inside}
use Rattle.lists.specs.Lists.{any}
use lib.ListN.{take}
use mathlib.Core.Bool.{false}
use mathlib.Core.Path.{◌≡◌}
use Rattle.looks.proofs.is_open.Given as goal

abbrev pub invariant-loop-hue : goal.invariant-loop-hue
invariant-loop-hue l = any (inside l.c) (take l.hue-index l.hues) ≡ false
