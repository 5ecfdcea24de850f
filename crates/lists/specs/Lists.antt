-- Tests, filters and searches on lists, the greatest and the lowest number of a list. Written to be computed: a recursive call is bound by `let`, and made only where it is needed.
use Rattle.std.specs.Prelude.{ℕ, zero, suc, ◌<◌, min, max, ◌≢◌, Bool, true, false, ◌&&◌, ◌||◌, cond}
use mathlib.Core.List.{List, [], ◌∷◌, ◌++◌, Memᴰ}

module _ {A : Type 0} where
  -- some member passes
  abbrev pub any : (A → Bool) → List A → Bool
  any p [] = false
  any p (x ∷ xs) = let r = any p xs in p x || r

  -- every member passes
  abbrev pub all : (A → Bool) → List A → Bool
  all p [] = true
  all p (x ∷ xs) = let r = all p xs in p x && r

  -- the members that pass, in their order
  abbrev pub filter : (A → Bool) → List A → List A
  filter p [] = []
  filter p (x ∷ xs) = let r = filter p xs in cond (p x) (x ∷ r) r

  -- the first member, or d where there is none
  abbrev pub first_or : A → List A → A
  first_or d [] = d
  first_or d (x ∷ xs) = x

  -- the lists one after the other
  abbrev pub flat : List (List A) → List A
  flat [] = []
  flat (x ∷ xs) = x ++ flat xs

  -- where a member first passes; the length where none does
  abbrev pub position : (A → Bool) → List A → ℕ
  position p [] = 0
  position p (x ∷ xs) = let r = suc (position p xs) in cond (p x) 0 r

-- 0, 1, .., n - 1
abbrev pub below : ℕ → List ℕ
below zero = []
below (suc n) = below n ++ (n ∷ [])

-- the greatest of some numbers; 0 of none
unfoldable pub greatest : List ℕ → ℕ
greatest [] = 0
greatest (k ∷ ks) = max k (greatest ks)

-- the lowest of some numbers; 0 of none
unfoldable pub lowest : List ℕ → ℕ
lowest [] = 0
lowest (k ∷ []) = k
lowest (k ∷ j ∷ ks) = min k (lowest (j ∷ ks))

-- each member is less than those after it
abbrev pub Ascending : List ℕ → Type 0
Ascending [] = Unit {0}
Ascending (x ∷ xs) = ((y : ℕ) → Memᴰ y xs → x < y) × Ascending xs

-- no member stands twice
abbrev pub Distinct : List ℕ → Type 0
Distinct [] = Unit {0}
Distinct (x ∷ xs) = ((y : ℕ) → Memᴰ y xs → x ≢ y) × Distinct xs
