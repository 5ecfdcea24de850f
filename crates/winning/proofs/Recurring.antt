-- The least priority that recurs: a list has one at most; a list that comes back has one, the lowest that recurs; and such a list is won by the player whom it serves, and by no other.
-- Assumes nothing.
use Prim.Native.Nat.{ℕ, zero, suc, ◌+◌, ◌-◌, ◌%◌, ◌≤◌, ◌<◌}
use native.Mathlib.Omega.{arith}
use native.Mathlib.Decide.{ℕ_discrete, dec_lt, dec_le}
use mathlib.Core.Path.{◌≡◌, refl, sym, ap, ◌∙◌}
use mathlib.Core.Logic.{◌≢◌}
use mathlib.Core.Bool.{Bool, true, false, not, cond}
use lib.Dec.{eqb}
use Rattle.lists.proofs.Bools.{neqb, not_itself}
use Rattle.forest.specs.Forest.{even}
use Rattle.games.specs.Games.{serves, often, Recurs, Least, Won}
use Rattle.games.proofs.Priorities.{won}
use Rattle.winning.proofs.Periods.{Periodic, met-recurs, recurs-soon}

-- a priority serves the plant exactly if it is not even
pub serves-odd : (k : ℕ) → serves k ≡ not (even k)
unfolding serves even
serves-odd k = go (ℕ_discrete (k % 2) 0)
  where
    go : Dec (k % 2 ≡ 0) → eqb (k % 2) 1 ≡ not (eqb (k % 2) 0)
    go (yes e) = rw e
    go (no e) = let q : k % 2 ≡ 1 = omega arith in rw q

module _ (f : ℕ → ℕ) where
  -- ---- one at most
  least_above : (k l : ℕ) → Least f k → Least f l → k < l → ⊥
  least_above k l a b h = a.recurs b.from (λ t. omega (arith, b.lowest t.0 t.1, t.2))

  pub least-only : (k l : ℕ) → Least f k → Least f l → k ≡ l
  least-only k l a b = go (dec_lt k l) (dec_lt l k)
    where
      go : Dec (k < l) → Dec (l < k) → k ≡ l
      go (yes h) d = absurd (least_above k l a b h)
      go (no h) (yes g) = absurd (least_above l k b a g)
      go (no h) (no g) = omega arith

  -- ---- how often a priority is met
  often-none : (k n : ℕ) → often f k n 0 ≡ 0
  unfolding often
  often-none k n = refl

  often-other : (k n m : ℕ) → f (n + m) ≢ k → often f k n (suc m) ≡ often f k n m
  unfolding often
  often-other k n m e = rw (neqb (f (n + m)) k e)

  often-next : (k n m : ℕ) → often f k n (suc m) ≤ suc (often f k n m)
  unfolding often
  often-next k n m = go (eqb (f (n + m)) k)
    where
      go : (b : Bool) → cond b (suc (often f k n m)) (often f k n m) ≤ suc (often f k n m)
      go true = omega arith
      go false = omega arith

  often-le : (k n m : ℕ) → often f k n m ≤ m
  often-le k n zero = omega (arith, often-none k n)
  often-le k n (suc m) = omega (arith, often-next k n m, often-le k n m)

  -- a priority that is met before place b alone
  often-early : (k b : ℕ) → ((m : ℕ) → b ≤ m → f m ≢ k) → (n m : ℕ) → often f k n m ≤ b
  often-early k b late n zero = omega (arith, often-none k n)
  often-early k b late n (suc m) = go (dec_le b (n + m)) (often-early k b late n m)
    where
      go : Dec (b ≤ n + m) → often f k n m ≤ b → often f k n (suc m) ≤ b
      go (yes h) ih = omega (arith, often-other k n m (late (n + m) h))
      go (no h) ih = omega (arith, often-le k n (suc m))

  -- ---- a list that comes back, with the lowest priority that recurs in it
  module _ (from period : ℕ) (h : Periodic f from period) (k : ℕ) (recurs : Recurs f k) (lowest : (l : ℕ) → Recurs f l → k ≤ l) where
    low : (m : ℕ) → from ≤ m → k ≤ f m
    low m l = lowest (f m) (met-recurs f from period h m l)

    pub lowest-least : Least f k
    lowest-least = record { from = from; lowest = low; recurs = λ n none. none (recurs n) }

    -- it is won by the player whom that priority serves: another priority is met only early, or in stretches shorter than a period
    pub lowest-won : (levels : ℕ) → ((n : ℕ) → f n < levels) → Won f (serves k) (from + period)
    lowest-won levels high = won f levels high (serves k) (from + period) (λ l bad n m above. few l bad n m above (dec_lt l k))
      where
        apart : (l : ℕ) → serves l ≡ not (serves k) → l ≢ k
        apart l bad e = not_itself (serves k) (sym (ap serves e) ∙ bad)

        few : (l : ℕ) → serves l ≡ not (serves k) → (n m : ℕ) → ((i : ℕ) → i < m → l ≤ f (n + i)) → Dec (l < k) → often f l n m ≤ from + period
        few l bad n m above (yes g) = omega (arith, often-early l from (λ i late e. omega (arith, low i late)) n m)
        few l bad n m above (no g) = short (dec_le m (from + period))
          where
            short : Dec (m ≤ from + period) → often f l n m ≤ from + period
            short (yes s) = omega (arith, often-le l n m)
            short (no s) =
                let t = recurs-soon f from period h k recurs (n + (m - period)) (omega arith) in
                let e : n + (m - period) + t.0 ≡ n + ((m - period) + t.0) = omega arith in
                absurd (apart l bad (omega (arith, above ((m - period) + t.0) (omega (arith, t.1)), ap f e, t.2)))
