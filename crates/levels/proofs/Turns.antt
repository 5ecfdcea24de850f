-- A turn of a level, once the level above is solved: what it asks for, and what it comes to. Assumes nothing.
use Prim.Native.Nat.{ℕ, ◌+◌, ◌≤◌, ◌<◌}
use native.Mathlib.Omega.{arith}
use mathlib.Core.Path.{◌≡◌, sym, ◌∙◌, subst}
use mathlib.Core.Logic.{◌⊎◌, inl, inr, ◌≢◌}
use mathlib.Core.Bool.{true, false, not}
use mathlib.Core.List.{List}
use lib.ListN.{get_or}
use Rattle.lists.proofs.Bools.{test}
use Rattle.orders.specs.Orders.{Lists, Rearranged}
use Rattle.orders.proofs.Orders.{order-of-order, wider-order, lists-moved}
use Rattle.attracting.specs.Attracting.{Rows}
use Rattle.levels.specs.Levels.{taken_mark, live, Turning, Turns, all_own, some_lost}
use Rattle.levels.proofs.Marks.{won-high, live_state, not-mark}
use Rattle.levels.proofs.Turning.{Turn, Above, i, X, Next, same_above, Spot, taken, gone, held, spot, own-step, own-listed}
use Rattle.levels.proofs.Held.{Held, held-listed}
use Rattle.levels.proofs.Fates.{held-step}

module _ (b : Above) where
  abbrev t : Turn
  t = b.turn

  module _ (rows : Rows t.owners t.sources t.targets t.priorities t.letters t.states) (n : ℕ) (o : List ℕ) (listed : Lists (X t) n o) where
    -- what a turn asks for
    pub turning : Turning t.owners t.sources t.targets t.priorities t.letters t.states t.p n o b.m₂
    turning = record {
      long = listed.long;
      inside = λ j k. live_state t.states t.m (get_or o j 0) (listed.each j k);
      marked_in = λ s h e. listed.all s (high s h e (test (X t s)));
      none_live = λ s h. none s h (test (X t s));
    }
      where
        high : (s : ℕ) → s < t.states → taken_mark t.p ≤ get_or b.m₂ s 0 → (X t s ≡ true) ⊎ (X t s ≡ false) → X t s ≡ true
        high s h e (inl q) = q
        high s h e (inr f) = absurd (omega (arith, (same_above b s f).0, t.low s h f))

        dead : (s : ℕ) → Spot b s → get_or b.m₂ s 0 ≢ 255
        dead s (taken k e) = λ z. absurd (omega (arith, t.small))
        dead s (gone k e) = λ z. absurd (omega (arith, t.small, won-high (t.p + 1) (not (i t))))
        dead s (held k e) = λ z. absurd (omega (arith, t.small, won-high (t.p + 1) (i t)))

        none : (s : ℕ) → s < t.states → (X t s ≡ true) ⊎ (X t s ≡ false) → get_or b.m₂ s 0 ≢ 255
        none s h (inl e) = dead s (spot b s e)
        none s h (inr f) = λ z. not-mark t.states t.m s h f (sym (same_above b s f).0 ∙ z)

    -- after it
    pub record Turned (again : ℕ) (o' m' c' : List ℕ) : Type 0 where
      pub step : Next t m' c'
      pub fewer : 0 < n → again < n
      pub moved : Rearranged n o o'
      pub listed' : Lists (live t.states m') again o'

    pub turned : (again : ℕ) (o' m' c' : List ℕ) → Turns t.owners t.sources t.targets t.priorities t.letters t.states t.p n o b.m₂ b.c₂ again o' m' c'
        → Turned again o' m' c'
    turned again o' m' c' (all_own none all painted same) = record {
      step = own-step b n o o' m' c' listed all painted same;
      fewer = λ h. omega arith;
      moved = all.moved;
      listed' = subst (λ (z : ℕ). Lists (live t.states m') z o') (sym none) (own-listed b n o o' m' c' listed all painted same);
    }
    turned again o' m' c' (some_lost kept rest o₁ o₂ m₃ c₃ few gathered loses holds) = record {
      step = held-step h;
      fewer = λ _. omega (arith, holds.waits.few, holds.released.few, loses.waits.few);
      moved = order-of-order n o o₁ o' gathered.moved
          (order-of-order n o₁ o₂ o' (wider-order kept n o₁ o₂ (omega arith) loses.waits.moved)
          (order-of-order n o₂ holds.o₁ o' (wider-order rest n o₂ holds.o₁ (omega (arith, loses.waits.few)) holds.released.moved)
          (wider-order holds.freed n holds.o₁ o' (omega (arith, holds.released.few, loses.waits.few)) holds.waits.moved)));
      listed' = held-listed h;
    }
      where
        h : Held
        h = record {
          lost = record {
            above = b;
            rows = rows;
            n = n;
            kept = kept;
            o = o₁;
            listed = lists-moved (X t) n o o₁ listed gathered.moved;
            few = omega arith;
            rest = rest;
            o' = o₂;
            m₃ = m₃;
            c₃ = c₃;
            loses = loses;
          };
          again = again;
          o'' = o';
          m₄ = m';
          c₄ = c';
          holds = holds;
        }
