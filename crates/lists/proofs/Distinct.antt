-- Lists without a member twice: filtered, appended, of numbers below n, joined, of at most one member; the position of a member. Assumes nothing.
use Prim.Native.Nat.{ℕ, zero, suc, ◌≤◌, ◌<◌}
use native.Mathlib.Omega.{arith}
use mathlib.Core.Path.{◌≡◌, refl, sym, ap}
use mathlib.Core.Logic.{◌⊎◌, inl, inr, ◌≢◌}
use mathlib.Core.Bool.{Bool, true, false, cond}
use mathlib.Core.List.Memᴰ
use mathlib.Core.List.{List, [], ◌∷◌, ◌++◌, map, Memᴰ}
use lib.Dec.{eqb}
use lib.ListN.{length, get_or}
use Rattle.lists.specs.Lists.{filter, flat, position, below, Ascending, Distinct}
use Rattle.lists.proofs.Bools.{≡eqb, neqb}
use Rattle.lists.proofs.Lists.{filter-mem, flat-mem, ascending-below, get_or-mem}

pub distinct_filter : (p : ℕ → Bool) (l : List ℕ) → Distinct l → Distinct (filter p l)
distinct_filter p [] d = tt
distinct_filter p (x ∷ l) d = go (p x) (distinct_filter p l d.1)
  where
    go : (b : Bool) → Distinct (filter p l) → Distinct (cond b (x ∷ filter p l) (filter p l))
    go true r = (λ y m. d.0 y (filter-mem p l y m).0, r)
    go false r = r

pub distinct_append : (l r : List ℕ) → Distinct l → Distinct r → ((x : ℕ) → Memᴰ x l → Memᴰ x r → ⊥) → Distinct (l ++ r)
distinct_append [] r a b h = b
distinct_append (x ∷ l) r a b h = (λ y m. go y (Memᴰ.append_cases l m), distinct_append l r a.1 b (λ y m n. h y (Memᴰ.tail m) n))
  where
    go : (y : ℕ) → Memᴰ y l ⊎ Memᴰ y r → x ≢ y
    go y (inl m) = a.0 y m
    go y (inr m) = λ e. h y (Memᴰ.head (sym e)) m

pub distinct-ascending : (l : List ℕ) → Ascending l → Distinct l
distinct-ascending [] a = tt
distinct-ascending (x ∷ l) a = (λ y m e. absurd (omega (arith, a.0 y m)), distinct-ascending l a.1)

pub distinct-below : (n : ℕ) → Distinct (below n)
distinct-below n = distinct-ascending (below n) (ascending-below n)

-- joined lists, of which no two share a member
pub distinct-flat : (f : ℕ → List ℕ) (l : List ℕ) → Distinct l → ((x : ℕ) → Memᴰ x l → Distinct (f x))
    → ((x y z : ℕ) → Memᴰ x l → Memᴰ y l → Memᴰ z (f x) → Memᴰ z (f y) → x ≡ y) → Distinct (flat (map f l))
distinct-flat f [] d each apart = tt
distinct-flat f (x ∷ l) d each apart =
    distinct_append (f x) (flat (map f l)) (each x (Memᴰ.head refl)) (distinct-flat f l d.1 (λ y m. each y (Memᴰ.tail m)) (λ y w z m n. apart y w z (Memᴰ.tail m) (Memᴰ.tail n)))
    (λ z m n. let r = flat-mem f l z n in d.0 r.0 r.1 (apart x r.0 z (Memᴰ.head refl) (Memᴰ.tail r.1) m r.2))

-- ---- each member stands at its position
pub position-once : (l : List ℕ) → Distinct l → (i : ℕ) → i < length l → position (eqb (get_or l i 0)) l ≡ i
position-once [] d i h = absurd (omega arith)
position-once (x ∷ l) d zero h = rw (≡eqb x x refl) refl
position-once (x ∷ l) d (suc i) h = rw (neqb (get_or l i 0) x (λ e. d.0 (get_or l i 0) (get_or-mem l i 0 (omega arith)) (sym e))) (ap suc (position-once l d.1 i (omega arith)))

-- ---- at most one
module _ {A : Type 0} where
  pub one-mem : (b : Bool) (x y : A) → Memᴰ y (cond b (x ∷ []) []) → (b ≡ true) × (y ≡ x)
  one-mem true x y k = (refl, Memᴰ.eq_of_singleton k)
  one-mem false x y k = absurd (Memᴰ.not-nil k)

  pub mem-one : (b : Bool) (x : A) → b ≡ true → Memᴰ x (cond b (x ∷ []) [])
  mem-one b x t = rw t (Memᴰ.head refl)

  pub one-few : (b : Bool) (x : A) → length (cond b (x ∷ []) []) ≤ 1
  one-few true x = omega arith
  one-few false x = omega arith

pub one-distinct : (b : Bool) (x : ℕ) → Distinct (cond b (x ∷ []) [])
one-distinct true x = (λ y k. absurd (Memᴰ.not-nil k), tt)
one-distinct false x = tt
