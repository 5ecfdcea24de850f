-- Tests as equations, and cases on a test. Assumes nothing.
use Prim.Native.Nat.{ℕ, ◌≤◌, ◌<◌}
use mathlib.Core.Path.{◌≡◌, refl, sym, ap}
use mathlib.Core.Logic.{◌⊎◌, inl, inr, ◌≢◌}
use mathlib.Core.Bool.{Bool, true, false, not, ◌&&◌, ◌||◌, cond, true≢false, false≢true}
use lib.Dec.{T, eqb, ltb, leb, eqb→eq, eqb_refl, ltb→lt, nltb→le, leb→le, nleb→lt}
use Rattle.lists.specs.Bools.{differs}

-- a Boolean is one or the other, with the equation
pub test : (b : Bool) → (b ≡ true) ⊎ (b ≡ false)
test true = inl refl
test false = inr refl

pub T→≡ : (b : Bool) → T b → b ≡ true
T→≡ true t = refl
T→≡ false t = absurd t

pub ≡→T : (b : Bool) → b ≡ true → T b
≡→T true e = tt
≡→T false e = absurd (false≢true e)

-- ---- numbers
pub eqb≡ : (m n : ℕ) → eqb m n ≡ true → m ≡ n
eqb≡ m n e = eqb→eq m n (≡→T (eqb m n) e)

pub ≡eqb : (m n : ℕ) → m ≡ n → eqb m n ≡ true
≡eqb m n e = rw e (T→≡ (eqb n n) (eqb_refl n))

pub neqb : (m n : ℕ) → m ≢ n → eqb m n ≡ false
neqb m n h = go (eqb m n) refl
  where
    go : (b : Bool) → eqb m n ≡ b → eqb m n ≡ false
    go true e = absurd (h (eqb≡ m n e))
    go false e = e

pub lt-true : (a b : ℕ) → ltb a b ≡ true → a < b
lt-true a b e = ltb→lt a b (≡→T (ltb a b) e)

pub lt-false : (a b : ℕ) → ltb a b ≡ false → b ≤ a
lt-false a b e = nltb→le a b (≡→T (not (ltb a b)) (ap not e))

pub le-true : (a b : ℕ) → leb a b ≡ true → a ≤ b
le-true a b e = leb→le a b (≡→T (leb a b) e)

pub le-false : (a b : ℕ) → leb a b ≡ false → b < a
le-false a b e = nleb→lt a b (≡→T (not (leb a b)) (ap not e))

-- ---- and, or, not
pub and_l : (a b : Bool) → a && b ≡ true → a ≡ true
and_l true b e = refl
and_l false b e = e

pub and_r : (a b : Bool) → a && b ≡ true → b ≡ true
and_r true b e = e
and_r false b e = absurd (false≢true e)

pub both : (a b : Bool) → a ≡ true → b ≡ true → a && b ≡ true
both true b e f = f
both false b e f = e

pub or_cases : (a b : Bool) → a || b ≡ true → (a ≡ true) ⊎ (b ≡ true)
or_cases true b e = inl refl
or_cases false b e = inr e

pub or_left : (a b : Bool) → a ≡ true → a || b ≡ true
or_left true b e = refl
or_left false b e = absurd (false≢true e)

pub or_right : (a b : Bool) → b ≡ true → a || b ≡ true
or_right true b e = refl
or_right false b e = e

pub not-true : (b : Bool) → not b ≡ true → b ≡ false
not-true true e = absurd (false≢true e)
not-true false e = refl

pub not-false : (b : Bool) → (b ≡ true → ⊥) → not b ≡ true
not-false true h = absurd (h refl)
not-false false h = refl

pub unnot : (b : Bool) → not b ≡ false → b ≡ true
unnot true e = refl
unnot false e = absurd (true≢false e)

pub not_itself : (a : Bool) → a ≡ not a → ⊥
not_itself true e = true≢false e
not_itself false e = false≢true e

pub and-absent : (a b : Bool) → b ≡ false → a && b ≡ false
and-absent true b f = f
and-absent false b f = refl

-- a condition that follows from the other
pub and-absorb : (a b : Bool) → (a ≡ true → b ≡ true) → a && b ≡ a
and-absorb true b h = h refl
and-absorb false b h = refl

pub and-implied : (a b c : Bool) → (c ≡ true → b ≡ true) → a && b && c ≡ a && c
and-implied true true c h = refl
and-implied true false true h = h refl
and-implied true false false h = refl
and-implied false b c h = refl

pub or-none : (a b : Bool) → a || b ≡ false → a ≡ false
or-none true b e = e
or-none false b e = refl

pub or-rest : (a b : Bool) → a || b ≡ false → b ≡ false
or-rest true b e = absurd (true≢false e)
or-rest false b e = e

-- a choice between two tests that is one of them
pub cond-not : (b : Bool) → not b ≡ cond b false true
cond-not true = refl
cond-not false = refl

pub cond-true : (b : Bool) → b ≡ cond b true false
cond-true true = refl
cond-true false = refl

pub bool-ext : (x y : Bool) → (x ≡ true → y ≡ true) → (y ≡ true → x ≡ true) → x ≡ y
bool-ext true y f g = sym (f refl)
bool-ext false true f g = g refl
bool-ext false false f g = refl

pub same_or_not : (a b : Bool) → (a ≡ b) ⊎ (a ≡ not b)
same_or_not true true = inl refl
same_or_not true false = inr refl
same_or_not false true = inr refl
same_or_not false false = inl refl

-- ---- two answers that differ, or agree
pub differs-not : (a b : Bool) → differs a b ≡ true → b ≡ not a
differs-not true b t = not-true b t
differs-not false b t = t

pub differs-other : (a b : Bool) → b ≡ not a → differs a b ≡ true
differs-other true b t = ap not t
differs-other false b t = t

pub differs-same : (a b : Bool) → b ≡ a → differs a b ≡ false
differs-same true b e = ap not e
differs-same false b e = e

pub agrees-same : (a b : Bool) → not (differs a b) ≡ true → b ≡ a
agrees-same true true t = refl
agrees-same true false t = absurd (false≢true t)
agrees-same false true t = absurd (false≢true t)
agrees-same false false t = refl

pub same-agrees : (a b : Bool) → b ≡ a → not (differs a b) ≡ true
same-agrees a b e = ap not (differs-same a b e)
