-- What the values that judging collects say of the lists behind them: the least priority, whether there is a member. Each depends on the members alone.
-- Assumes nothing.
use Prim.Native.Nat.{ℕ, ◌≤◌, min}
use native.Mathlib.Omega.{arith}
use mathlib.Core.Path.{◌≡◌, refl, sym}
use mathlib.Core.Logic.{◌⊎◌, inl, inr, ◌↔◌}
use mathlib.Core.Bool.{true, false, ◌||◌, false≢true}
use mathlib.Core.List.Memᴰ
use mathlib.Core.List.{List, [], ◌∷◌, ◌++◌, Memᴰ}
use lib.Dec.{ltb}
use Rattle.std.specs.Bool.{◌==◌}
use lib.ListN.{length}
use Rattle.lists.proofs.Bools.{test, bool-ext, eqb≡}
use Rattle.lists.proofs.Numbers.{cond-min}
use Rattle.judging.specs.Judging.{non_empty, least_of}

-- ---- the least
pub least-cons : (x : ℕ) (l : List ℕ) → least_of (x ∷ l) ≡ min x (least_of l)
unfolding least_of
least-cons x l = cond-min x (least_of l)

pub least-top : (l : List ℕ) → least_of l ≤ 255
unfolding least_of
least-top [] = omega arith
least-top (x ∷ l) = omega (arith, least-cons x l, least-top l)

pub least-append : (l r : List ℕ) → least_of (l ++ r) ≡ min (least_of l) (least_of r)
unfolding least_of
least-append [] r = omega (arith, least-top r)
least-append (x ∷ l) r = omega (arith, least-cons x (l ++ r), least-cons x l, least-append l r)

-- one more at the end
pub least-with : (l : List ℕ) (k least : ℕ) → least ≡ least_of l → min k least ≡ least_of (l ++ (k ∷ []))
unfolding least_of
least-with l k least e = omega (arith, least-append l (k ∷ []), least-cons k [], least-top l)

pub least-le : (l : List ℕ) (k : ℕ) → Memᴰ k l → least_of l ≤ k
least-le [] k x' = elim x' [ ]
least-le (x ∷ l) k (Memᴰ.head e) = omega (arith, least-cons x l)
least-le (x ∷ l) k (Memᴰ.tail m) = omega (arith, least-cons x l, least-le l k m)

pub least-cases : (l : List ℕ) → (least_of l ≡ 255) ⊎ Memᴰ (least_of l) l
unfolding least_of
least-cases [] = inl refl
least-cases (x ∷ l) = go (test (ltb x (least_of l))) (least-cases l)
  where
    go : (ltb x (least_of l) ≡ true) ⊎ (ltb x (least_of l) ≡ false) → (least_of l ≡ 255) ⊎ Memᴰ (least_of l) l → (least_of (x ∷ l) ≡ 255) ⊎ Memᴰ (least_of (x ∷ l)) (x ∷ l)
    go (inl t) ih = rw t (inr (Memᴰ.head refl))
    go (inr f) (inl e) = rw f (inl e)
    go (inr f) (inr m) = rw f (inr (Memᴰ.tail m))

-- a list with a member of a byte has its least
pub least-mem : (l : List ℕ) (k : ℕ) → Memᴰ k l → k ≤ 255 → Memᴰ (least_of l) l
least-mem l k m low = go (least-cases l)
  where
    go : (least_of l ≡ 255) ⊎ Memᴰ (least_of l) l → Memᴰ (least_of l) l
    go (inl e) = Memᴰ.cast (omega (arith, least-le l k m)) m
    go (inr q) = q

least-up : (l r : List ℕ) → ((y : ℕ) → Memᴰ y r → Memᴰ y l) → least_of l ≤ least_of r
least-up l r h = go (least-cases r)
  where
    go : (least_of r ≡ 255) ⊎ Memᴰ (least_of r) r → least_of l ≤ least_of r
    go (inl e) = omega (arith, least-top l)
    go (inr m) = least-le l (least_of r) (h (least_of r) m)

pub least-same : (l r : List ℕ) → ((y : ℕ) → Memᴰ y l ↔ Memᴰ y r) → least_of l ≡ least_of r
least-same l r h = omega (arith, least-up l r (λ y. (h y).1), least-up r l (λ y. (h y).0))

-- ---- whether there is a member
pub some-member : {A : Type 0} (l : List A) → non_empty l ≡ true → (y : A) × Memᴰ y l
some-member [] e = absurd (false≢true e)
some-member (x ∷ l) e = (x, Memᴰ.head refl)

pub member-some : {A : Type 0} (l : List A) (y : A) → Memᴰ y l → non_empty l ≡ true
member-some [] y m = absurd (Memᴰ.not-nil m)
member-some (x ∷ l) y m = refl

pub non_empty-append : {A : Type 0} (l r : List A) → non_empty (l ++ r) ≡ non_empty l || non_empty r
non_empty-append [] r = refl
non_empty-append (x ∷ l) r = refl

pub non_empty-same : {A : Type 0} (l r : List A) → ((y : A) → Memᴰ y l ↔ Memᴰ y r) → non_empty l ≡ non_empty r
non_empty-same l r h =
    bool-ext (non_empty l) (non_empty r) (λ t. let q = some-member l t in member-some r q.0 ((h q.0).0 q.1)) (λ t. let q = some-member r t in member-some l q.0 ((h q.0).1 q.1))

-- as is_empty says
pub none_of : (l : List ℕ) → true ≡ (length l == 0) → non_empty l ≡ false
none_of [] e = refl
none_of (x ∷ l) e = absurd (omega (arith, eqb≡ (length (x ∷ l)) 0 (sym e)))

pub some_of : (l : List ℕ) → false ≡ (length l == 0) → non_empty l ≡ true
some_of [] e = absurd (false≢true e)
some_of (x ∷ l) e = refl
