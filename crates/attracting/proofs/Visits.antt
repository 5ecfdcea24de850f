-- One state, by the first letter whose row passes. Assumes nothing.
use Prim.Native.Nat.{ℕ, ◌+◌, ◌*◌, ◌≤◌, ◌<◌}
use native.Mathlib.Omega.{arith}
use mathlib.Core.Path.{◌≡◌, refl, sym, ◌∙◌, subst}
use mathlib.Core.Logic.{inr}
use mathlib.Core.Bool.{Bool, true, false, not, ◌&&◌, ◌||◌, true≢false, false≢true}
use mathlib.Core.List.{List}
use lib.ListN.{get_or, set}
use Rattle.attracting.specs.declared.Task.{Task}
use Rattle.attracting.specs.Attracting.{opens, nearer, passing, First, waiting, owns, owns_at, chosen, forced, Visited}

-- ---- what passing says
own-true : (x y : Bool) → x && ((y && true) || (not y && not true)) ≡ true → (x ≡ true) × (y ≡ true)
own-true true true e = (refl, refl)
own-true true false e = absurd (false≢true e)
own-true false y e = absurd (false≢true e)

own-false : (x y : Bool) → x && ((y && true) || (not y && not true)) ≡ false → x ≡ true → y ≡ false
own-false true true e t = absurd (true≢false e)
own-false true false e t = refl
own-false false y e t = absurd (false≢true t)

other-true : (x y : Bool) → x && ((y && false) || (not y && not false)) ≡ true → (x ≡ true) × (y ≡ false)
other-true true true e = absurd (false≢true e)
other-true true false e = (refl, refl)
other-true false y e = absurd (false≢true e)

other-false : (x y : Bool) → x && ((y && false) || (not y && not false)) ≡ false → x ≡ true → y ≡ true
other-false true true e t = refl
other-false true false e t = absurd (true≢false e)
other-false false y e t = absurd (false≢true t)

module _ (k : Task) (q m : ℕ) where
  pass-own : passing k true q m ≡ true → (opens k q m ≡ true) × (nearer k q m ≡ true)
  unfolding passing
  pass-own e = own-true (opens k q m) (nearer k q m) e

  fail-own : passing k true q m ≡ false → opens k q m ≡ true → nearer k q m ≡ false
  unfolding passing
  fail-own e t = own-false (opens k q m) (nearer k q m) e t

  pass-other : passing k false q m ≡ true → (opens k q m ≡ true) × (nearer k q m ≡ false)
  unfolding passing
  pass-other e = other-true (opens k q m) (nearer k q m) e

  fail-other : passing k false q m ≡ false → opens k q m ≡ true → nearer k q m ≡ true
  unfolding passing
  fail-other e t = other-false (opens k q m) (nearer k q m) e t

-- ---- places
-- ---- one state
module _ (owners sources targets priorities : List ℕ) (letters states : ℕ) (k : Task) (s : ℕ) (m c : List ℕ) (a : ℕ) (own : Bool)
    (own_is : own ≡ owns k.plant (get_or owners (get_or sources s 0) 0)) (first : First k own targets priorities m (s * letters) letters a) where
  owned : owns_at owners sources targets priorities letters states k s ≡ own
  owned = sym own_is

  found_at : (b : Bool) → own ≡ b → a < letters → passing k b (get_or priorities (s * letters + a) 0) (get_or m (get_or targets (s * letters + a) 0) 0) ≡ true
  found_at b e l = subst (λ (z : Bool). passing k z (get_or priorities (s * letters + a) 0) (get_or m (get_or targets (s * letters + a) 0) 0) ≡ true) e (first.found l)

  none-at : (b : Bool) → own ≡ b → letters ≤ a → (x : ℕ) → x < letters → passing k b (get_or priorities (s * letters + x) 0) (get_or m (get_or targets (s * letters + x) 0) 0) ≡ false
  none-at b e l x h = subst (λ (z : Bool). passing k z (get_or priorities (s * letters + x) 0) (get_or m (get_or targets (s * letters + x) 0) 0) ≡ false) e (first.before x (omega arith))

  pub visit-chosen : waiting k (get_or m s 0) ≡ true → a < letters → own ≡ true → Visited owners sources targets priorities letters states k s m c own (set m s k.to) (set c s a)
  visit-chosen w l e = record {
    stays = λ f. absurd (true≢false (sym e ∙ f));
    goes = λ _. let q = pass-own k (get_or priorities (s * letters + a) 0) (get_or m (get_or targets (s * letters + a) 0) 0) (found_at true e l) in inr (w, refl, chosen (owned ∙ e) a l q.0 q.1 refl);
  }

  pub visit-open : waiting k (get_or m s 0) ≡ true → a < letters → own ≡ false → Visited owners sources targets priorities letters states k s m c own m c
  visit-open w l e = record {
    stays = λ _. (
      refl,
      refl,
      w,
      record {
        own = λ o. absurd (true≢false (sym o ∙ owned ∙ e));
        other = λ _. let q = pass-other k (get_or priorities (s * letters + a) 0) (get_or m (get_or targets (s * letters + a) 0) 0) (found_at false e l) in (a, l, q.0, q.1);
      },
    );
    goes = λ t. absurd (true≢false (sym t ∙ e));
  }

  pub visit-none : waiting k (get_or m s 0) ≡ true → letters ≤ a → own ≡ true → Visited owners sources targets priorities letters states k s m c false m c
  visit-none w l e = record {
    stays = λ _. (
      refl,
      refl,
      w,
      record {
        own = λ _ x h o. fail-own k (get_or priorities (s * letters + x) 0) (get_or m (get_or targets (s * letters + x) 0) 0) (none-at true e l x h) o;
        other = λ o. absurd (true≢false (sym e ∙ sym owned ∙ o));
      },
    );
    goes = λ t. absurd (false≢true t);
  }

  pub visit-forced : waiting k (get_or m s 0) ≡ true → letters ≤ a → own ≡ false → Visited owners sources targets priorities letters states k s m c true (set m s k.to) c
  visit-forced w l e = record {
    stays = λ f. absurd (true≢false f);
    goes = λ _. inr (w, refl, forced (owned ∙ e) (λ x h o. fail-other k (get_or priorities (s * letters + x) 0) (get_or m (get_or targets (s * letters + x) 0) 0) (none-at false e l x h) o) refl);
  }
