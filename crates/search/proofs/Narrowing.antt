-- A search that narrows down where the lower bound stands: one place more at either end, one search after another, and the end of it. Assumes nothing.
use Prim.Native.Nat.{ℕ, ◌+◌, ◌≤◌, ◌<◌}
use native.Mathlib.Omega.{arith}
use native.Mathlib.Nat.{le_refl}
use native.Mathlib.Decide.{ℕ_discrete, dec_lt}
use mathlib.Core.Path.{◌≡◌, ap}
use mathlib.Core.List.{List}
use lib.ListN.{get_or}
use Rattle.search.specs.LowerBound.{AscendsIn, LowerBound, Narrowed}

module _ (l : List ℕ) (from to x : ℕ) where
  pub narrowed-up : (low high m : ℕ) → AscendsIn l from to → Narrowed l from to x low high → low ≤ m → m < high → get_or l m 0 < x → Narrowed l from to x (m + 1) high
  narrowed-up low high m s r a b q = record { from_low = omega (arith, r.from_low); low_high = omega arith; high_to = r.high_to; before = λ i j k. go i j (ℕ_discrete i m) k; after = r.after }
    where
      go : (i : ℕ) → from ≤ i → Dec (i ≡ m) → i < m + 1 → get_or l i 0 < x
      go i j (yes e) k = omega (arith, ap (λ (z : ℕ). get_or l z 0) e)
      go i j (no e) k = omega (arith, s i m j (omega arith) (omega (arith, r.high_to)))

  pub narrowed-down : (low high m : ℕ) → AscendsIn l from to → Narrowed l from to x low high → low ≤ m → m < high → x ≤ get_or l m 0 → Narrowed l from to x low m
  narrowed-down low high m s r a b q = record { from_low = r.from_low; low_high = a; high_to = omega (arith, r.high_to); before = r.before; after = λ i j k. go i j k (ℕ_discrete i m) }
    where
      go : (i : ℕ) → m ≤ i → i < to → Dec (i ≡ m) → x ≤ get_or l i 0
      go i j k (yes e) = omega (arith, ap (λ (z : ℕ). get_or l z 0) e)
      go i j k (no e) = omega (arith, s m i (omega (arith, r.from_low)) (omega arith) k)

  pub narrowed-done : (low high : ℕ) → Narrowed l from to x low high → high ≤ low → LowerBound l from to x low
  narrowed-done low high r h = record { low = r.from_low; high = omega (arith, r.low_high, r.high_to); before = r.before; after = λ i a b. r.after i (omega arith) b }

  pub narrowed_none : from ≤ to → Narrowed l from to x from to
  narrowed_none h = record { from_low = le_refl from; low_high = h; high_to = le_refl to; before = λ i a b. absurd (omega arith); after = λ i a b. absurd (omega arith) }

  pub narrowed-bound : (low high r : ℕ) → Narrowed l from to x low high → LowerBound l low high x r → LowerBound l from to x r
  narrowed-bound low high r n b = record {
    low = omega (arith, n.from_low, b.low);
    high = omega (arith, n.high_to, b.high);
    before = λ i p q. under i p q (dec_lt i low);
    after = λ i p q. over i p q (dec_lt i high);
  }
    where
      under : (i : ℕ) → from ≤ i → i < r → Dec (i < low) → get_or l i 0 < x
      under i p q (yes d) = n.before i p d
      under i p q (no d) = b.before i (omega arith) q

      over : (i : ℕ) → r ≤ i → i < to → Dec (i < high) → x ≤ get_or l i 0
      over i p q (yes d) = b.after i p d
      over i p q (no d) = n.after i (omega arith) q

  pub narrowed-both : (low high u v : ℕ) → Narrowed l from to x low high → Narrowed l low high x u v → Narrowed l from to x u v
  narrowed-both low high u v n b = record {
    from_low = omega (arith, n.from_low, b.from_low);
    low_high = b.low_high;
    high_to = omega (arith, n.high_to, b.high_to);
    before = λ i p q. under i p q (dec_lt i low);
    after = λ i p q. over i p q (dec_lt i high);
  }
    where
      under : (i : ℕ) → from ≤ i → i < u → Dec (i < low) → get_or l i 0 < x
      under i p q (yes d) = n.before i p d
      under i p q (no d) = b.before i (omega arith) q

      over : (i : ℕ) → v ≤ i → i < to → Dec (i < high) → x ≤ get_or l i 0
      over i p q (yes d) = b.after i p d
      over i p q (no d) = n.after i (omega arith) q
