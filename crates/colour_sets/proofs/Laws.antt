-- The order of the colour sets, by one computed test: falling number of members, then ascending mask, each mask present; from 255 to 0. Assumes nothing.
use Prim.Native.Nat.{ℕ, suc}
use mathlib.Core.Path.{◌≡◌, refl}
use mathlib.Core.Bool.{Bool, true, ◌&&◌}
use lib.Count.{ones_in}
use lib.Dec.{eqb, ltb}
use lib.ListN.{length}
use Rattle.lists.specs.Lists.{any, all, below}
use Rattle.colour_sets.specs.Order.{size, before, sized, up_to, ordered, set_at}

-- each set stands before the next, each mask is there, no entry is another number
abbrev pub next : ℕ → Bool
next i = before (set_at i) (set_at (suc i))

abbrev pub present : ℕ → Bool
present s = any (eqb s) ordered

abbrev pub small : ℕ → Bool
small s = ltb s 256

pub sets-in-order : all next (below 255) && (all present (below 256) && all small ordered) ≡ true
unfolding set_at before ordered up_to sized size ones_in
sets-in-order = refl

pub ordered-length : length ordered ≡ 256
unfolding ordered up_to sized size ones_in
ordered-length = refl

pub set_first : set_at 0 ≡ 255
unfolding set_at ordered up_to sized size ones_in
set_first = refl

pub set_last : set_at 255 ≡ 0
unfolding set_at ordered up_to sized size ones_in
set_last = refl
