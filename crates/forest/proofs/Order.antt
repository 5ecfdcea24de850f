-- The sibling order is a strict total order, and `in_order` puts masks in it: the same members, as many, each before those after it. Two lists in
-- that order with the same members are equal. Only the first three lemmas look at what the order is. Assumes nothing.
use Prim.Native.Nat.{ℕ, suc}
use native.Mathlib.Omega.{arith}
use mathlib.Core.Path.{◌≡◌, refl, sym, ap, ◌∙◌}
use mathlib.Core.Logic.{◌⊎◌, inl, inr, ◌≢◌}
use mathlib.Core.Bool.{Bool, true, false, cond, true≢false}
use mathlib.Core.List.Memᴰ
use mathlib.Core.List.{List, [], ◌∷◌, Memᴰ}
use lib.Dec.{ltb}
use lib.ListN.{length}
use Rattle.lists.specs.Lists.{filter, Distinct}
use Rattle.lists.proofs.Bools.{test, lt-true, lt-false}
use Rattle.lists.proofs.Lists.{filter-mem}
use Rattle.forest.specs.Forest.{before, place, in_order}
use Rattle.forest.specs.Laws.{Ordered}

-- ---- a strict total order
pub before-irreflexive : (a : ℕ) → before a a ≡ false
unfolding before
before-irreflexive a = go (test (ltb a a))
  where
    go : (ltb a a ≡ true) ⊎ (ltb a a ≡ false) → ltb a a ≡ false
    go (inl t) = absurd (omega (arith, lt-true a a t))
    go (inr f) = f

pub before-transitive : (a b c : ℕ) → before a b ≡ true → before b c ≡ true → before a c ≡ true
unfolding before
before-transitive a b c s t = go (test (ltb a c))
  where
    go : (ltb a c ≡ true) ⊎ (ltb a c ≡ false) → ltb a c ≡ true
    go (inl u) = u
    go (inr f) = absurd (omega (arith, lt-true a b s, lt-true b c t, lt-false a c f))

pub before-total : (a b : ℕ) → a ≢ b → (before a b ≡ true) ⊎ (before b a ≡ true)
unfolding before
before-total a b n = go (test (ltb a b)) (test (ltb b a))
  where
    go : (ltb a b ≡ true) ⊎ (ltb a b ≡ false) → (ltb b a ≡ true) ⊎ (ltb b a ≡ false) → (ltb a b ≡ true) ⊎ (ltb b a ≡ true)
    go (inl t) k = inl t
    go (inr f) (inl t) = inr t
    go (inr f) (inr g) = absurd (n (omega (arith, lt-false a b f, lt-false b a g)))

-- ---- one mask put in its place
pub place-mem : (m : ℕ) (l : List ℕ) (x : ℕ) → Memᴰ x (place m l) → (x ≡ m) ⊎ Memᴰ x l
unfolding place
place-mem m [] x k = Memᴰ.cases_cons k
place-mem m (y ∷ l) x k = go (test (before m y)) (place-mem m l x)
  where
    behind : (Memᴰ x (place m l) → (x ≡ m) ⊎ Memᴰ x l) → (x ≡ y) ⊎ Memᴰ x (place m l) → (x ≡ m) ⊎ Memᴰ x (y ∷ l)
    behind ih (inl e) = inr (Memᴰ.head e)
    behind ih (inr q) = pick (ih q)
      where
        pick : (x ≡ m) ⊎ Memᴰ x l → (x ≡ m) ⊎ Memᴰ x (y ∷ l)
        pick (inl e) = inl e
        pick (inr r) = inr (Memᴰ.tail r)

    go : (before m y ≡ true) ⊎ (before m y ≡ false) → (Memᴰ x (place m l) → (x ≡ m) ⊎ Memᴰ x l) → (x ≡ m) ⊎ Memᴰ x (y ∷ l)
    go (inl t) ih = Memᴰ.cases_cons (rw t at k)
    go (inr f) ih = behind ih (Memᴰ.cases_cons (rw f at k))

pub mem-place : (m : ℕ) (l : List ℕ) (x : ℕ) → Memᴰ x (m ∷ l) → Memᴰ x (place m l)
unfolding place
mem-place m [] x k = k
mem-place m (y ∷ l) x k = go (test (before m y)) (mem-place m l x) (Memᴰ.cases_cons k)
  where
    go : (before m y ≡ true) ⊎ (before m y ≡ false) → (Memᴰ x (m ∷ l) → Memᴰ x (place m l)) → (x ≡ m) ⊎ Memᴰ x (y ∷ l) → Memᴰ x (place m (y ∷ l))
    go (inl t) ih q = rw t k
    go (inr f) ih (inl e) = rw f (Memᴰ.tail (ih (Memᴰ.head e)))
    go (inr f) ih (inr (Memᴰ.head e)) = rw f (Memᴰ.head e)
    go (inr f) ih (inr (Memᴰ.tail q)) = rw f (Memᴰ.tail (ih (Memᴰ.tail q)))

pub place-ordered : (m : ℕ) (l : List ℕ) → Ordered l → ((y : ℕ) → Memᴰ y l → m ≢ y) → Ordered (place m l)
unfolding place
place-ordered m [] o new = (λ y k. absurd (Memᴰ.not-nil k), tt)
place-ordered m (y ∷ l) o new = go (test (before m y)) (place-ordered m l o.1 (λ z k. new z (Memᴰ.tail k)))
  where
    after-m : before m y ≡ true → (z : ℕ) → (z ≡ y) ⊎ Memᴰ z l → before m z ≡ true
    after-m t z (inl e) = rw e t
    after-m t z (inr k) = before-transitive m y z t (o.0 z k)

    first : before m y ≡ false → (before m y ≡ true) ⊎ (before y m ≡ true) → before y m ≡ true
    first f (inl t) = absurd (true≢false (sym t ∙ f))
    first f (inr t) = t

    after-y : before y m ≡ true → (z : ℕ) → (z ≡ m) ⊎ Memᴰ z l → before y z ≡ true
    after-y t z (inl e) = rw e t
    after-y t z (inr k) = o.0 z k

    go : (before m y ≡ true) ⊎ (before m y ≡ false) → Ordered (place m l) → Ordered (place m (y ∷ l))
    go (inl t) ih = rw t (λ z k. after-m t z (Memᴰ.cases_cons k), o)
    go (inr f) ih = rw f (λ z k. after-y (first f (before-total m y (new y (Memᴰ.head refl)))) z (place-mem m l z k), ih)

length-place : (m : ℕ) (l : List ℕ) → length (place m l) ≡ suc (length l)
unfolding place
length-place m [] = refl
length-place m (y ∷ l) = go (before m y) (length-place m l)
  where
    go : (b : Bool) → length (place m l) ≡ suc (length l) → length (cond b (m ∷ y ∷ l) (y ∷ place m l)) ≡ suc (suc (length l))
    go true ih = refl
    go false ih = ap suc ih

-- ---- a list put in order
pub order-mem : (l : List ℕ) (x : ℕ) → Memᴰ x (in_order l) → Memᴰ x l
unfolding in_order
order-mem [] x k = elim k [ ]
order-mem (m ∷ l) x k = go (place-mem m (in_order l) x k) (order-mem l x)
  where
    go : (x ≡ m) ⊎ Memᴰ x (in_order l) → (Memᴰ x (in_order l) → Memᴰ x l) → Memᴰ x (m ∷ l)
    go (inl e) ih = Memᴰ.head e
    go (inr q) ih = Memᴰ.tail (ih q)

pub mem-order : (l : List ℕ) (x : ℕ) → Memᴰ x l → Memᴰ x (in_order l)
unfolding in_order
mem-order [] x x3 = elim x3 [ ]
mem-order (m ∷ l) x (Memᴰ.head e) = mem-place m (in_order l) x (Memᴰ.head e)
mem-order (m ∷ l) x (Memᴰ.tail k) = mem-place m (in_order l) x (Memᴰ.tail (mem-order l x k))

pub length-order : (l : List ℕ) → length (in_order l) ≡ length l
unfolding in_order
length-order [] = refl
length-order (m ∷ l) = length-place m (in_order l) ∙ ap suc (length-order l)

pub distinct-ordered : (l : List ℕ) → Distinct l → Ordered (in_order l)
unfolding in_order
distinct-ordered [] d = tt
distinct-ordered (m ∷ l) d = place-ordered m (in_order l) (distinct-ordered l d.1) (λ y k. d.0 y (order-mem l y k))

-- ---- lists in order
pub ordered-filter : (t : ℕ → Bool) (l : List ℕ) → Ordered l → Ordered (filter t l)
ordered-filter t [] o = tt
ordered-filter t (x ∷ l) o = go (t x) (ordered-filter t l o.1)
  where
    go : (b : Bool) → Ordered (filter t l) → Ordered (cond b (x ∷ filter t l) (filter t l))
    go true r = (λ y k. o.0 y (filter-mem t l y k).0, r)
    go false r = r

-- two lists in order with the same members are one
pub ordered_same : (l r : List ℕ) → Ordered l → Ordered r → ((x : ℕ) → Memᴰ x l → Memᴰ x r) → ((x : ℕ) → Memᴰ x r → Memᴰ x l) → l ≡ r
ordered_same [] [] a b f g = refl
ordered_same [] (y ∷ r) a b f g = absurd (Memᴰ.not-nil (g y (Memᴰ.head refl)))
ordered_same (x ∷ l) [] a b f g = absurd (Memᴰ.not-nil (f x (Memᴰ.head refl)))
ordered_same (x ∷ l) (y ∷ r) a b f g = joined heads (ordered_same l r a.1 b.1 (λ z k. to z k (Memᴰ.cases_cons (f z (Memᴰ.tail k)))) (λ z k. from z k (Memᴰ.cases_cons (g z (Memᴰ.tail k)))))
  where
    never : (z : ℕ) → before z z ≡ true → ⊥
    never z t = true≢false (sym t ∙ before-irreflexive z)

    heads : x ≡ y
    heads = pick (Memᴰ.cases_cons (f x (Memᴰ.head refl))) (Memᴰ.cases_cons (g y (Memᴰ.head refl)))
      where
        pick : (x ≡ y) ⊎ Memᴰ x r → (y ≡ x) ⊎ Memᴰ y l → x ≡ y
        pick (inl e) q = e
        pick (inr m) (inl e) = sym e
        pick (inr m) (inr n) = absurd (never x (before-transitive x y x (a.0 y n) (b.0 x m)))

    to : (z : ℕ) → Memᴰ z l → (z ≡ y) ⊎ Memᴰ z r → Memᴰ z r
    to z k (inl e) = absurd (never z (ap (λ (u : ℕ). before u z) (e ∙ sym heads) ∙ a.0 z k))
    to z k (inr m) = m

    from : (z : ℕ) → Memᴰ z r → (z ≡ x) ⊎ Memᴰ z l → Memᴰ z l
    from z k (inl e) = absurd (never z (ap (λ (u : ℕ). before u z) (e ∙ heads) ∙ b.0 z k))
    from z k (inr m) = m

    joined : x ≡ y → l ≡ r → ◌≡◌ {A = List ℕ} (x ∷ l) (y ∷ r)
    joined p q = λ i. p i ∷ q i
