-- Lists of states in another order, and their fronts. Assumes nothing.
use Prim.Native.Nat.{ℕ, ◌+◌, ◌≤◌, ◌<◌}
use native.Mathlib.Omega.{arith}
use native.Mathlib.Decide.{ℕ_discrete, dec_lt}
use mathlib.Core.Path.{◌≡◌, refl, sym, ap, ◌∙◌, subst}
use mathlib.Core.Logic.{◌⊎◌, inl, inr, ◌≢◌}
use mathlib.Core.Bool.{Bool, true, false, true≢false}
use mathlib.Core.List.{List}
use lib.ListN.{get_or}
use Rattle.lists.proofs.Bools.{test}
use Rattle.orders.specs.Orders.{Among, Lists, Rearranged, Swapped, Kept}

-- ---- another order
pub same-order : (n : ℕ) (o : List ℕ) → Rearranged n o o
same-order n o = record { long = refl; forth = λ s h. h; back = λ s h. h; rest = λ i h. refl }

pub order-of-order : (n : ℕ) (o o' o'' : List ℕ) → Rearranged n o o' → Rearranged n o' o'' → Rearranged n o o''
order-of-order n o o' o'' a b = record {
  long = b.long ∙ a.long;
  forth = λ s h. b.forth s (a.forth s h);
  back = λ s h. a.back s (b.back s h);
  rest = λ i h. b.rest i h ∙ a.rest i h;
}

-- a beginning in another order
pub wider-order : (n m : ℕ) (o o' : List ℕ) → n ≤ m → Rearranged n o o' → Rearranged m o o'
wider-order n m o o' le a = record {
  long = a.long;
  forth = λ s h. go o o' s h (dec_lt h.0 n) (a.forth s) (λ i l. a.rest i l);
  back = λ s h. go o' o s h (dec_lt h.0 n) (a.back s) (λ i l. sym (a.rest i l));
  rest = λ i h. a.rest i (omega arith);
}
  where
    go : (x y : List ℕ) (s : ℕ) (h : Among x m s) → Dec (h.0 < n) → (Among x n s → Among y n s) → ((i : ℕ) → n ≤ i → get_or y i 0 ≡ get_or x i 0) → Among y m s
    go x y s h (yes l) f r = let q = f (h.0, l, h.2) in (q.0, omega (arith, q.1), q.2)
    go x y s h (no l) f r = (h.0, h.1, r h.0 (omega arith) ∙ h.2)

-- the entries stay below a bound
pub inside-moved : (n b : ℕ) (o o' : List ℕ) → Rearranged n o o' → ((i : ℕ) → i < n → get_or o i 0 < b) → (i : ℕ) → i < n → get_or o' i 0 < b
inside-moved n b o o' a h i l = let q = a.back (get_or o' i 0) (i, l, refl) in subst (λ (z : ℕ). z < b) q.2 (h q.0 q.1)

-- the set that is listed stays the same
pub lists-moved : (P : ℕ → Bool) (n : ℕ) (o o' : List ℕ) → Lists P n o → Rearranged n o o' → Lists P n o'
lists-moved P n o o' l a = record {
  long = omega (arith, l.long, a.long);
  each = λ i h. let q = a.back (get_or o' i 0) (i, h, refl) in ap P (sym q.2) ∙ l.each q.0 q.1;
  all = λ s e. a.forth s (l.all s e);
}

pub lists-same : (P Q : ℕ → Bool) (n : ℕ) (o : List ℕ) → ((s : ℕ) → P s ≡ Q s) → Lists P n o → Lists Q n o
lists-same P Q n o e l = record { long = l.long; each = λ i h. sym (e (get_or o i 0)) ∙ l.each i h; all = λ s q. l.all s (e s ∙ q) }

-- the front has all entries of Q
pub in-front : (Q : ℕ → Bool) (n r : ℕ) (o : List ℕ) → ((i : ℕ) → r ≤ i → i < n → Q (get_or o i 0) ≡ false) → (s : ℕ) → Q s ≡ true → Among o n s → Among o r s
in-front Q n r o others s e h = go (dec_lt h.0 r)
  where
    go : Dec (h.0 < r) → Among o r s
    go (yes q) = (h.0, q, h.2)
    go (no q) = absurd (true≢false (sym e ∙ ap Q (sym h.2) ∙ others h.0 (omega arith) h.1))

-- ---- two entries change places
-- the first n places hold the same entries
swap-among : (n w i : ℕ) (o o' : List ℕ) → w < n → i < n → get_or o' w 0 ≡ get_or o i 0 → get_or o' i 0 ≡ get_or o w 0 → ((h : ℕ) → h ≢ w → h ≢ i → get_or o' h 0 ≡ get_or o h 0)
    → (s : ℕ) → Among o n s → Among o' n s
swap-among n w i o o' lw li first second rest s h = go (ℕ_discrete h.0 w) (ℕ_discrete h.0 i)
  where
    go : Dec (h.0 ≡ w) → Dec (h.0 ≡ i) → Among o' n s
    go (yes e) d = (i, li, second ∙ ap (λ (z : ℕ). get_or o z 0) (sym e) ∙ h.2)
    go (no e) (yes f) = (w, lw, first ∙ ap (λ (z : ℕ). get_or o z 0) (sym f) ∙ h.2)
    go (no e) (no f) = (h.0, h.1, rest h.0 e f ∙ h.2)

pub swap-order : (n w i : ℕ) (o o' : List ℕ) → w < n → i < n → Swapped w i o o' → Rearranged n o o'
swap-order n w i o o' lw li x = record {
  long = x.long;
  forth = swap-among n w i o o' lw li x.first x.second x.rest;
  back = swap-among n w i o' o lw li (sym x.second) (sym x.first) (λ h a b. sym (x.rest h a b));
  rest = λ h l. x.rest h (λ e. absurd (omega arith)) (λ e. absurd (omega arith));
}

-- ---- a list parted while it is walked: before w the wanted entries, from w to i the others, from i on as it was
pub record Parted (n : ℕ) (o o' : List ℕ) (w i : ℕ) : Type 0 where
  pub before : w ≤ i
  pub few : i ≤ n
  pub moved : Rearranged n o o'
  pub unseen : (h : ℕ) → i ≤ h → get_or o' h 0 ≡ get_or o h 0

module _ (n : ℕ) (o o' o'' : List ℕ) (w i r : ℕ) (wanted : Bool) (x : Parted n o o' w i) (lt : i < n) (k : Kept wanted w i o' r o'') where
  pub parted-more : Parted n o o'' r (i + 1)
  parted-more = go (test wanted)
    where
      go : (wanted ≡ true) ⊎ (wanted ≡ false) → Parted n o o'' r (i + 1)
      go (inl t) = let y = k.yes t in record {
        before = omega (arith, x.before, y.0);
        few = omega arith;
        moved = order-of-order n o o' o'' x.moved (swap-order n w i o' o'' (omega (arith, x.before)) lt y.1);
        unseen = λ h l. y.1.rest h (λ e. absurd (omega (arith, x.before))) (λ e. absurd (omega arith)) ∙ x.unseen h (omega arith);
      }
      go (inr f) = let y = k.no f in record {
        before = omega (arith, x.before, y.0);
        few = omega arith;
        moved = subst (λ (z : List ℕ). Rearranged n o z) (sym y.1) x.moved;
        unseen = λ h l. ap (λ (z : List ℕ). get_or z h 0) y.1 ∙ x.unseen h (omega arith);
      }

  -- what holds of the front, and of the entry at i if it is wanted
  pub front-more : (Q : ℕ → Type 0) → (wanted ≡ true → Q (get_or o' i 0)) → ((h : ℕ) → h < w → Q (get_or o' h 0)) → (h : ℕ) → h < r → Q (get_or o'' h 0)
  front-more Q here old h l = go (test wanted)
    where
      which : wanted ≡ true → Dec (h ≡ w) → Q (get_or o'' h 0)
      which t (yes e) = subst Q (sym (ap (λ (z : ℕ). get_or o'' z 0) e ∙ (k.yes t).1.first)) (here t)
      which t (no e) = subst Q (sym ((k.yes t).1.rest h e (λ f. absurd (omega (arith, x.before, (k.yes t).0))))) (old h (omega (arith, (k.yes t).0)))

      go : (wanted ≡ true) ⊎ (wanted ≡ false) → Q (get_or o'' h 0)
      go (inl t) = which t (ℕ_discrete h w)
      go (inr f) = subst (λ (z : List ℕ). Q (get_or z h 0)) (sym (k.no f).1) (old h (omega (arith, (k.no f).0)))

  -- what holds of the others, and of the entry at i if it is not
  pub others-more : (Q : ℕ → Type 0) → (wanted ≡ false → Q (get_or o' i 0)) → ((h : ℕ) → w ≤ h → h < i → Q (get_or o' h 0)) → (h : ℕ) → r ≤ h → h < i + 1 → Q (get_or o'' h 0)
  others-more Q here old h a b = go (test wanted)
    where
      which : wanted ≡ true → Dec (h ≡ i) → Q (get_or o'' h 0)
      which t (yes e) = subst Q (sym (ap (λ (z : ℕ). get_or o'' z 0) e ∙ (k.yes t).1.second)) (old w (omega arith) (omega (arith, (k.yes t).0)))
      which t (no e) = subst Q (sym ((k.yes t).1.rest h (λ f. absurd (omega (arith, (k.yes t).0))) e)) (old h (omega (arith, (k.yes t).0)) (omega arith))

      last : wanted ≡ false → Dec (h ≡ i) → Q (get_or o'' h 0)
      last f (yes e) = subst (λ (z : List ℕ). Q (get_or z h 0)) (sym (k.no f).1) (subst (λ (z : ℕ). Q (get_or o' z 0)) (sym e) (here f))
      last f (no e) = subst (λ (z : List ℕ). Q (get_or z h 0)) (sym (k.no f).1) (old h (omega (arith, (k.no f).0)) (omega arith))

      go : (wanted ≡ true) ⊎ (wanted ≡ false) → Q (get_or o'' h 0)
      go (inl t) = which t (ℕ_discrete h i)
      go (inr f) = last f (ℕ_discrete h i)
