-- A row that passes, an owner that is the player, and the first letter whose row passes. Assumes nothing.
use Prim.Native.Nat.{ℕ, ◌+◌, ◌<◌}
use mathlib.Core.Path.{◌≡◌, refl, ap₂}
use mathlib.Core.Bool.{Bool, true, false, not, ◌&&◌, ◌||◌, beq}
use lib.Dec.{eqb, leb}
use mathlib.Core.List.{List}
use lib.ListN.{get_or}
use Rattle.attracting.specs.declared.Task.{Task}
use Rattle.attracting.specs.Attracting.{is_in, nearer, passing, owns}

-- ---- tests of equal truth
same-truth : (x y : Bool) → beq x y ≡ (x && y) || (not x && not y)
same-truth true true = refl
same-truth true false = refl
same-truth false true = refl
same-truth false false = refl

pub owns-is : (plant : Bool) (o : ℕ) → beq (eqb o 1) plant ≡ owns plant o
unfolding owns
owns-is plant o = same-truth (eqb o 1) plant

pub passing-is : (k : Task) (own : Bool) (q m : ℕ) (i : Bool) → i ≡ is_in k m → (leb k.level q && i) && beq (nearer k q m) own ≡ passing k own q m
unfolding passing
passing-is k own q m i e = ap₂ (λ (x y : Bool). (leb k.level q && x) && y) e (same-truth (nearer k q m) own)

-- ---- letters
module _ (k : Task) (own : Bool) (targets priorities marks : List ℕ) (row : ℕ) where
  -- no row before letter a passes
  pub record Passed (a : ℕ) : Type 0 where
    pub none : (b : ℕ) → b < a → passing k own (get_or priorities (row + b) 0) (get_or marks (get_or targets (row + b) 0) 0) ≡ false
