-- The greatest and the lowest of some numbers: they are members, and no member lies beyond them; and the greatest of the first places of a table. Assumes nothing.
use Prim.Native.Nat.{ℕ, ◌+◌, ◌≤◌, ◌<◌, min, max}
use native.Mathlib.Omega.{arith}
use native.Mathlib.Decide.{dec_lt}
use native.Mathlib.Numerals.{add-one}
use mathlib.Core.Path.{◌≡◌, refl, ap, ◌∙◌}
use mathlib.Core.List.{List, [], ◌∷◌, ◌++◌, Memᴰ}
use lib.ListN.{length, get_or, take}
use lib.Seq.{take-suc}
use Rattle.lists.specs.Lists.{greatest, lowest}

pub greatest-le : (l : List ℕ) (x : ℕ) → Memᴰ x l → x ≤ greatest l
unfolding greatest
greatest-le [] x x3 = elim x3 [ ]
greatest-le (k ∷ l) x (Memᴰ.head e) = omega (arith, e)
greatest-le (k ∷ l) x (Memᴰ.tail m) = omega (arith, greatest-le l x m)

pub greatest-mem : (l : List ℕ) → 0 < length l → Memᴰ (greatest l) l
unfolding greatest
greatest-mem [] h = absurd (omega arith)
greatest-mem (k ∷ []) h = let e : max k 0 ≡ k = omega arith in Memᴰ.head e
greatest-mem (k ∷ j ∷ l) h = go (greatest-mem (j ∷ l) (omega arith)) (dec_lt k (greatest (j ∷ l)))
  where
    go : Memᴰ (greatest (j ∷ l)) (j ∷ l) → Dec (k < greatest (j ∷ l)) → Memᴰ (max k (greatest (j ∷ l))) (k ∷ j ∷ l)
    go m (yes u) = let e : max k (greatest (j ∷ l)) ≡ greatest (j ∷ l) = omega (arith, u) in rw e (Memᴰ.tail m)
    go m (no u) = let e : max k (greatest (j ∷ l)) ≡ k = omega (arith, u) in Memᴰ.head e

greatest-snoc : (l : List ℕ) (x : ℕ) → greatest (l ++ (x ∷ [])) ≡ max (greatest l) x
unfolding greatest
greatest-snoc [] x = omega arith
greatest-snoc (k ∷ l) x = omega (arith, greatest-snoc l x)

-- among the first places of a table
pub greatest-none : (t : List ℕ) → 0 ≡ greatest (take 0 t)
unfolding greatest
greatest-none t = refl

pub greatest-more : (t : List ℕ) (n : ℕ) → n < length t → greatest (take (n + 1) t) ≡ max (greatest (take n t)) (get_or t n 0)
greatest-more t n h = ap greatest (ap (λ (k : ℕ). take k t) (add-one n) ∙ take-suc t n 0 h) ∙ greatest-snoc (take n t) (get_or t n 0)

pub lowest-le : (l : List ℕ) (x : ℕ) → Memᴰ x l → lowest l ≤ x
unfolding lowest
lowest-le [] x x3 = elim x3 [ ]
lowest-le (k ∷ []) x (mathlib.Core.List.Memᴰ.tail m) = elim m [ ]
lowest-le (k ∷ []) x (Memᴰ.head e) = omega (arith, e)
lowest-le (k ∷ j ∷ l) x (Memᴰ.head e) = omega (arith, e)
lowest-le (k ∷ j ∷ l) x (Memᴰ.tail m) = omega (arith, lowest-le (j ∷ l) x m)

pub lowest-mem : (l : List ℕ) → 0 < length l → Memᴰ (lowest l) l
unfolding lowest
lowest-mem [] h = absurd (omega arith)
lowest-mem (k ∷ []) h = Memᴰ.head refl
lowest-mem (k ∷ j ∷ l) h = go (lowest-mem (j ∷ l) (omega arith)) (dec_lt k (lowest (j ∷ l)))
  where
    go : Memᴰ (lowest (j ∷ l)) (j ∷ l) → Dec (k < lowest (j ∷ l)) → Memᴰ (min k (lowest (j ∷ l))) (k ∷ j ∷ l)
    go m (yes u) = let e : min k (lowest (j ∷ l)) ≡ k = omega (arith, u) in Memᴰ.head e
    go m (no u) = let e : min k (lowest (j ∷ l)) ≡ lowest (j ∷ l) = omega (arith, u) in rw e (Memᴰ.tail m)
