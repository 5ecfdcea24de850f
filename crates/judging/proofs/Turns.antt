-- One turn of the loops of judging over a list of letters. Assumes nothing.
use Prim.Native.Nat.{ℕ, ◌+◌, ◌≤◌, ◌<◌}
use mathlib.Core.Path.{◌≡◌, refl, ap, ◌∙◌}
use mathlib.Core.Bool.{Bool, true, false, ◌&&◌, and-true}
use mathlib.Core.List.{List}
use lib.Dec.{ltb}
use lib.ListN.{length, get_or, drop, drop_of_length-le}
use Rattle.lists.proofs.Bools.{lt-true}
use Rattle.lists.proofs.Lists.{all-each, get_or-mem, drop-next}
use Rattle.recurrence.specs.Runs.{through}
use Rattle.judging.specs.Judging.{in_range}

-- ---- all letters in range
pub range-turn : (letters : ℕ) (w : List ℕ) (i : ℕ) (b : Bool) → i < length w
    → b && in_range letters (drop i w) ≡ b && ltb (get_or w i 0) letters && in_range letters (drop (i + 1) w)
unfolding in_range
range-turn letters w i b h = ap (λ (l : List ℕ). b && in_range letters l) (drop-next w i 0 h) ∙ go b (ltb (get_or w i 0) letters) (in_range letters (drop (i + 1) w))
  where
    go : (x y z : Bool) → x && (y && z) ≡ x && y && z
    go true y z = refl
    go false y z = refl

pub range-end : (letters : ℕ) (w : List ℕ) (i : ℕ) (b : Bool) → length w ≤ i → b && in_range letters (drop i w) ≡ b
unfolding in_range
range-end letters w i b h = ap (λ (l : List ℕ). b && in_range letters l) (drop_of_length-le w h) ∙ and-true b

-- then each is below the number of letters
pub range_at : (letters : ℕ) (w : List ℕ) → in_range letters w ≡ true → (i : ℕ) → i < length w → get_or w i 0 < letters
unfolding in_range
range_at letters w h i l = lt-true (get_or w i 0) letters (all-each (λ a. ltb a letters) w h (get_or w i 0) (get_or-mem w i 0 l))

-- ---- what the letters lead to
module _ {T : Type 0} (next : T → ℕ → T) (w : List ℕ) (i : ℕ) (t : T) where
  pub through-turn : i < length w → through next (drop i w) t ≡ through next (drop (i + 1) w) (next t (get_or w i 0))
  unfolding through
  through-turn h = ap (λ (l : List ℕ). through next l t) (drop-next w i 0 h)

  pub through-end : length w ≤ i → through next (drop i w) t ≡ t
  unfolding through
  through-end h = ap (λ (l : List ℕ). through next l t) (drop_of_length-le w h)
