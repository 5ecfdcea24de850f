-- The loops of this crate: what holds after each turn. Assumes nothing.
use Prim.Native.Nat.{ℕ, ◌+◌, ◌≤◌, ◌<◌}
use native.Mathlib.Omega.{arith}
use mathlib.Core.Path.{◌≡◌, sym, ap, ◌∙◌}
use mathlib.Core.Logic.{◌⊎◌, inl, inr}
use mathlib.Core.Bool.{Bool, true, false, ◌||◌, cond, true≢false}
use mathlib.Core.List.{List}
use lib.Dec.{eqb}
use lib.ListN.{length, get_or, take, length-take}
use Rattle.lists.proofs.Bools.{test}
use Rattle.orders.specs.Orders.{Lists, Kept, marked, Painted}
use Rattle.orders.proofs.Orders.{Parted, parted-more, front-more, others-more}

-- ---- gathering
pub record Gathering (a b n : ℕ) (m o o' : List ℕ) (w i : ℕ) : Type 0 where
  pub parted : Parted n o o' w i
  pub front : (h : ℕ) → h < w → marked a b m (get_or o' h 0) ≡ true
  pub others : (h : ℕ) → w ≤ h → h < i → marked a b m (get_or o' h 0) ≡ false

module _ (a b n : ℕ) (m o o' o'' : List ℕ) (w i r s : ℕ) (wanted : Bool) (x : Gathering a b n m o o' w i) (lt : i < n) (at : s ≡ get_or o' i 0)
    (is : wanted ≡ eqb (get_or m s 0) a || eqb (get_or m s 0) b) (k : Kept wanted w i o' r o'') where
  here : wanted ≡ marked a b m (get_or o' i 0)
  here = is ∙ ap (marked a b m) at

  pub gathering-more : Gathering a b n m o o'' r (i + 1)
  gathering-more = record {
    parted = parted-more n o o' o'' w i r wanted x.parted lt k;
    front = front-more n o o' o'' w i r wanted x.parted lt k (λ z. marked a b m z ≡ true) (λ t. sym here ∙ t) x.front;
    others = others-more n o o' o'' w i r wanted x.parted lt k (λ z. marked a b m z ≡ false) (λ f. sym here ∙ f) x.others;
  }

-- ---- a beginning of a list
pub front-long : (n : ℕ) (o : List ℕ) → n ≤ length o → length (take n o) ≡ n
front-long n o le = simp length-take (omega arith)

-- ---- painting
-- a set that is listed, painted
pub painted-set : (P : ℕ → Bool) (b n : ℕ) (o m m' : List ℕ) → Lists P n o → Painted b n o m m' → (s : ℕ) → get_or m' s 0 ≡ cond (P s) b (get_or m s 0)
painted-set P b n o m m' l x s = go (test (P s))
  where
    go : (P s ≡ true) ⊎ (P s ≡ false) → get_or m' s 0 ≡ cond (P s) b (get_or m s 0)
    go (inl t) = let q = l.all s t in rw t (ap (λ (z : ℕ). get_or m' z 0) (sym q.2) ∙ x.on q.0 q.1)
    go (inr f) = rw f (x.off s (λ q. true≢false (sym (l.each q.0 q.1) ∙ ap P q.2 ∙ f)))
