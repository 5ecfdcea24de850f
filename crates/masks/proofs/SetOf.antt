-- The set of the members of a list: it depends on the members alone. Assumes nothing.
use Prim.Native.Nat.{ℕ}
use mathlib.Core.Path.{◌≡◌, sym, ◌∙◌}
use mathlib.Core.Logic.{◌⊎◌, inl, inr, ◌↔◌}
use mathlib.Core.Bool.{true, ◌||◌, false≢true}
use mathlib.Core.List.Memᴰ
use mathlib.Core.List.{List, [], ◌∷◌, ◌++◌, Memᴰ}
use lib.Bits.{bit_or}
use lib.Dec.{eqb}
use Rattle.lists.proofs.Bools.{eqb≡, ≡eqb, or_cases, or_left, or_right, bool-ext}
use Rattle.masks.specs.Masks.{has, set_of}
use Rattle.masks.proofs.Bits.{has-or, has-none, has-insert, mask-ext}

pub set-has : (l : List ℕ) (c : ℕ) → (has (set_of l) c ≡ true) ↔ Memᴰ c l
unfolding set_of
set-has [] c = (λ t. absurd (false≢true (sym (has-none c) ∙ t)), λ m. absurd (Memᴰ.not-nil m))
set-has (x ∷ l) c = (λ t. to (set-has l c) (or_cases (has (set_of l) c) (eqb x c) (sym (has-insert (set_of l) x c) ∙ t)), λ m. has-insert (set_of l) x c ∙ from (set-has l c) m)
  where
    to : (has (set_of l) c ≡ true) ↔ Memᴰ c l → (has (set_of l) c ≡ true) ⊎ (eqb x c ≡ true) → Memᴰ c (x ∷ l)
    to ih (inl t) = Memᴰ.tail (ih.0 t)
    to ih (inr t) = Memᴰ.head (sym (eqb≡ x c t))

    from : (has (set_of l) c ≡ true) ↔ Memᴰ c l → Memᴰ c (x ∷ l) → has (set_of l) c || eqb x c ≡ true
    from ih (Memᴰ.head e) = or_right (has (set_of l) c) (eqb x c) (≡eqb x c (sym e))
    from ih (Memᴰ.tail m) = or_left (has (set_of l) c) (eqb x c) (ih.1 m)

-- two sets with the same members
sets-equal : (s : ℕ) (r : List ℕ) → ((c : ℕ) → (has s c ≡ true) ↔ Memᴰ c r) → s ≡ set_of r
sets-equal s r h = mask-ext s (set_of r) (λ c. bool-ext (has s c) (has (set_of r) c) (λ t. (set-has r c).1 ((h c).0 t)) (λ t. (h c).1 ((set-has r c).0 t)))

pub set_same : (l r : List ℕ) → ((y : ℕ) → Memᴰ y l ↔ Memᴰ y r) → set_of l ≡ set_of r
set_same l r h = sets-equal (set_of l) r (λ c. (λ t. (h c).0 ((set-has l c).0 t), λ m. (set-has l c).1 ((h c).1 m)))

pub set-append : (l r : List ℕ) → set_of (l ++ r) ≡ bit_or (set_of l) (set_of r)
set-append l r = sym (sets-equal (bit_or (set_of l) (set_of r)) (l ++ r) (λ c. (λ t. to c (or_cases (has (set_of l) c) (has (set_of r) c) (sym (has-or c (set_of l) (set_of r)) ∙ t)), λ m. has-or c (set_of l) (set_of r) ∙ from c (Memᴰ.append_cases l m))))
  where
    to : (c : ℕ) → (has (set_of l) c ≡ true) ⊎ (has (set_of r) c ≡ true) → Memᴰ c (l ++ r)
    to c (inl t) = Memᴰ.append_left r ((set-has l c).0 t)
    to c (inr t) = Memᴰ.append_right l ((set-has r c).0 t)

    from : (c : ℕ) → Memᴰ c l ⊎ Memᴰ c r → has (set_of l) c || has (set_of r) c ≡ true
    from c (inl m) = or_left (has (set_of l) c) (has (set_of r) c) ((set-has l c).1 m)
    from c (inr m) = or_right (has (set_of l) c) (has (set_of r) c) ((set-has r c).1 m)
