-- The first of a filtered list; the next of an ascending list in cyclic order, and that it comes nearer to any member. Assumes nothing.
use Prim.Native.Nat.{ℕ, ◌+◌, ◌-◌, ◌≤◌, ◌<◌}
use native.Mathlib.Omega.{arith}
use native.Mathlib.Decide.{dec_lt}
use mathlib.Core.Path.{◌≡◌, ap}
use mathlib.Core.Logic.{◌⊎◌, inl, inr, ◌≢◌}
use mathlib.Core.Bool.{true, false, cond}
use mathlib.Core.List.Memᴰ
use mathlib.Core.List.{List, [], Memᴰ}
use lib.Dec.{ltb, leb}
use borrow.Author.Tests.{lt-ltb}
use Rattle.lists.specs.Lists.{filter, first_or, Ascending}
use Rattle.lists.proofs.Bools.{test, lt-true, le-true, le-false}
use Rattle.lists.proofs.Lists.{filter-mem, mem-filter, ascending-filter, first-cases, first-mem, first_le}
use Rattle.automaton.specs.Automaton.{next}

-- ---- the next in cyclic order
-- the next one is the first of all, or above c
next-cases : (c : ℕ) (l : List ℕ) → (next c l ≡ first_or c l) ⊎ (Memᴰ (next c l) l × (c < next c l))
unfolding next
next-cases c l = go (first-cases (first_or c l) (filter (ltb c) l))
  where
    go : (filter (ltb c) l ≡ []) ⊎ Memᴰ (first_or (first_or c l) (filter (ltb c) l)) (filter (ltb c) l)
        → (first_or (first_or c l) (filter (ltb c) l) ≡ first_or c l) ⊎ (Memᴰ (first_or (first_or c l) (filter (ltb c) l)) l × (c < first_or (first_or c l) (filter (ltb c) l)))
    go (inl e) = inl (ap (first_or (first_or c l)) e)
    go (inr m) =
        let r = filter-mem (ltb c) l (first_or (first_or c l) (filter (ltb c) l)) m in
        inr (r.0, lt-true c (first_or (first_or c l) (filter (ltb c) l)) r.1)

pub next-above : (c : ℕ) (l : List ℕ) → Ascending l → (y : ℕ) → Memᴰ y l → c < y → (c < next c l) × (next c l ≤ y)
unfolding next
next-above c l s y m h =
    let k = mem-filter (ltb c) l y m (lt-ltb c y h) in
    let r = filter-mem (ltb c) l (first_or (first_or c l) (filter (ltb c) l)) (first-mem (first_or c l) (filter (ltb c) l) y k) in
    (lt-true c (first_or (first_or c l) (filter (ltb c) l)) r.1, first_le (first_or c l) (filter (ltb c) l) (ascending-filter (ltb c) l s) y k)

pub next-mem : (c : ℕ) (l : List ℕ) (y : ℕ) → Memᴰ y l → Memᴰ (next c l) l
next-mem c l y m = go (next-cases c l)
  where
    go : (next c l ≡ first_or c l) ⊎ (Memᴰ (next c l) l × (c < next c l)) → Memᴰ (next c l) l
    go (inl e) = Memᴰ.cast e (first-mem c l y m)
    go (inr r) = r.0

-- how far from d up to y, round a circle of M numbers
unfoldable pub gap : ℕ → ℕ → ℕ → ℕ
gap M y d = cond (leb d y) (y - d) (y + M - d)

gap-le : (M y d : ℕ) → d ≤ y → gap M y d ≡ y - d
unfolding gap
gap-le M y d h = go (test (leb d y))
  where
    go : (leb d y ≡ true) ⊎ (leb d y ≡ false) → gap M y d ≡ y - d
    go (inl t) = rw t
    go (inr f) = absurd (omega (arith, le-false d y f))

gap-gt : (M y d : ℕ) → y < d → gap M y d ≡ y + M - d
unfolding gap
gap-gt M y d h = go (test (leb d y))
  where
    go : (leb d y ≡ true) ⊎ (leb d y ≡ false) → gap M y d ≡ y + M - d
    go (inl t) = absurd (omega (arith, le-true d y t))
    go (inr f) = rw f

-- each step to the next comes nearer to each member y, unless it starts there
pub next-nearer : (M d : ℕ) (l : List ℕ) → Ascending l → ((x : ℕ) → Memᴰ x l → x < M) → d < M → (y : ℕ) → Memᴰ y l → d ≢ y → gap M y (next d l) < gap M y d
next-nearer M d l s bound hd y m ne = go (dec_lt d y)
  where
    after : (next d l ≡ first_or d l) ⊎ (Memᴰ (next d l) l × (d < next d l)) → y < d → gap M y (next d l) < gap M y d
    after (inl e) h =
        let k : next d l ≤ y = omega (arith, e, first_le d l s y m) in
        omega (arith, gap-le M y (next d l) k, gap-gt M y d h, bound y m)
    after (inr r) h = omega (arith, gap-gt M y (next d l) (omega (arith, r.1)), gap-gt M y d h, bound y m, bound (next d l) r.0, r.1)

    go : Dec (d < y) → gap M y (next d l) < gap M y d
    go (yes h) =
        let r = next-above d l s y m h in
        omega (arith, gap-le M y (next d l) r.1, gap-le M y d (omega arith), r.0, r.1)
    go (no h) = after (next-cases d l) (omega arith)
