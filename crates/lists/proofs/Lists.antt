-- Membership in a filtered list, in a list of numbers below n, at a position; what `any` and `all` say of the members; the first of a list; places of lists one after
-- the other. Assumes nothing.
use Prim.Native.Nat.{ℕ, zero, suc, ◌+◌, ◌*◌, ◌≤◌, ◌<◌}
use native.Mathlib.Omega.{arith}
use native.Mathlib.Decide.{ℕ_discrete}
use native.Mathlib.Nat.{zero-mul, suc-mul}
use native.Mathlib.Numerals.{add-one}
use mathlib.Core.Path.{◌≡◌, refl, sym, ap, ap₂, ◌∙◌, subst}
use mathlib.Core.Logic.{◌⊎◌, inl, inr}
use mathlib.Core.Bool.{Bool, true, false, cond, true≢false, false≢true}
use mathlib.Core.List.Memᴰ
use mathlib.Core.List.{List, [], ◌∷◌, ◌++◌, map, map-append, append-nil, append_assoc, Memᴰ}
use lib.Arith.{digits_lt}
use lib.ListN.{length, get_or, drop, replicate, length-append, length-map, get_or-append}
use lib.Seq.{drop-cons, get_or_at, get_or-append-add}
use Rattle.lists.specs.Lists.{any, all, filter, first_or, flat, position, below, Ascending}
use Rattle.lists.proofs.Bools.{test, and_l, and_r, or_right}

module _ {A : Type 0} where
  pub any_some : (p : A → Bool) (l : List A) → any p l ≡ true → (x : A) × Memᴰ x l × (p x ≡ true)
  any_some p [] e = absurd (false≢true e)
  any_some p (x ∷ xs) e = go (test (p x)) (any_some p xs)
    where
      go : (p x ≡ true) ⊎ (p x ≡ false) → (any p xs ≡ true → (y : A) × Memᴰ y xs × (p y ≡ true)) → (y : A) × Memᴰ y (x ∷ xs) × (p y ≡ true)
      go (inl t) ih = (x, Memᴰ.head refl, t)
      go (inr f) ih = let r = ih (rw f at e) in (r.0, Memᴰ.tail r.1, r.2)

  pub some-any : (p : A → Bool) (l : List A) (x : A) → Memᴰ x l → p x ≡ true → any p l ≡ true
  some-any p [] x x4 t = elim x4 [ ]
  some-any p (y ∷ ys) x (Memᴰ.head e) t = rw (← e, t)
  some-any p (y ∷ ys) x (Memᴰ.tail m) t = or_right (p y) (any p ys) (some-any p ys x m t)

  pub none_any : (p : A → Bool) (l : List A) → any p l ≡ false → (x : A) → Memᴰ x l → p x ≡ false
  none_any p l e x m = go (test (p x))
    where
      go : (p x ≡ true) ⊎ (p x ≡ false) → p x ≡ false
      go (inl t) = absurd (true≢false (sym (some-any p l x m t) ∙ e))
      go (inr f) = f

  pub none_true : (p : A → Bool) (l : List A) → ((x : A) → Memᴰ x l → p x ≡ false) → any p l ≡ false
  none_true p [] h = refl
  none_true p (y ∷ ys) h = rw (h y (Memᴰ.head refl)) (none_true p ys (λ x m. h x (Memᴰ.tail m)))

  pub filter-mem : (p : A → Bool) (l : List A) (x : A) → Memᴰ x (filter p l) → Memᴰ x l × (p x ≡ true)
  filter-mem p [] x m = elim m [ ]
  filter-mem p (y ∷ ys) x m = go (test (p y)) (filter-mem p ys x)
    where
      wrap : Memᴰ x ys × (p x ≡ true) → Memᴰ x (y ∷ ys) × (p x ≡ true)
      wrap r = (Memᴰ.tail r.0, r.1)

      at_head : p y ≡ true → (Memᴰ x (filter p ys) → Memᴰ x ys × (p x ≡ true)) → (x ≡ y) ⊎ Memᴰ x (filter p ys) → Memᴰ x (y ∷ ys) × (p x ≡ true)
      at_head t ih (inl e) = (Memᴰ.head e, rw e t)
      at_head t ih (inr k) = wrap (ih k)

      go : (p y ≡ true) ⊎ (p y ≡ false) → (Memᴰ x (filter p ys) → Memᴰ x ys × (p x ≡ true)) → Memᴰ x (y ∷ ys) × (p x ≡ true)
      go (inl t) ih = at_head t ih (Memᴰ.cases_cons (rw t at m))
      go (inr f) ih = wrap (ih (rw f at m))

  pub mem-filter : (p : A → Bool) (l : List A) (x : A) → Memᴰ x l → p x ≡ true → Memᴰ x (filter p l)
  mem-filter p [] x x4 t = elim x4 [ ]
  mem-filter p (y ∷ ys) x (Memᴰ.head e) t = rw (← e, t) (Memᴰ.head refl)
  mem-filter p (y ∷ ys) x (Memᴰ.tail m) t = go (test (p y)) (mem-filter p ys x m t)
    where
      go : (p y ≡ true) ⊎ (p y ≡ false) → Memᴰ x (filter p ys) → Memᴰ x (filter p (y ∷ ys))
      go (inl k) ih = rw k (Memᴰ.tail ih)
      go (inr k) ih = rw k ih

  pub all-each : (p : A → Bool) (l : List A) → all p l ≡ true → (x : A) → Memᴰ x l → p x ≡ true
  all-each p [] e x x4 = elim x4 [ ]
  all-each p (y ∷ ys) e x (Memᴰ.head k) = rw k (and_l (p y) (all p ys) e)
  all-each p (y ∷ ys) e x (Memᴰ.tail m) = all-each p ys (and_r (p y) (all p ys) e) x m

  pub each_all : (p : A → Bool) (l : List A) → ((x : A) → Memᴰ x l → p x ≡ true) → all p l ≡ true
  each_all p [] h = refl
  each_all p (y ∷ ys) h = rw (h y (Memᴰ.head refl)) (each_all p ys (λ x m. h x (Memᴰ.tail m)))

pub mem_below : (n x : ℕ) → x < n → Memᴰ x (below n)
mem_below zero x h = absurd (omega arith)
mem_below (suc n) x h = go (mem_below n x) (ℕ_discrete x n)
  where
    go : (x < n → Memᴰ x (below n)) → Dec (x ≡ n) → Memᴰ x (below (suc n))
    go ih (yes e) = Memᴰ.append_right (below n) (Memᴰ.head e)
    go ih (no k) = Memᴰ.append_left (n ∷ []) (ih (omega arith))

pub below-lt : (n x : ℕ) → Memᴰ x (below n) → x < n
below-lt zero x m = elim m [ ]
below-lt (suc n) x m = go (below-lt n x) (Memᴰ.append_cases (below n) m)
  where
    go : (Memᴰ x (below n) → x < n) → Memᴰ x (below n) ⊎ Memᴰ x (n ∷ []) → x < suc n
    go ih (inl k) = omega (arith, ih k)
    go ih (inr k) = omega (arith, Memᴰ.eq_of_singleton k)

-- functions that agree on the members
pub map_same : {A B : Type 0} (f g : A → B) (l : List A) → ((x : A) → Memᴰ x l → f x ≡ g x) → map f l ≡ map g l
map_same f g [] h = refl
map_same f g (x ∷ l) h = ap₂ ◌∷◌ (h x (Memᴰ.head refl)) (map_same f g l (λ y m. h y (Memᴰ.tail m)))

-- ---- places of a list
module _ {A : Type 0} where
  pub get_or-mem : (l : List A) (i : ℕ) (d : A) → i < length l → Memᴰ (get_or l i d) l
  get_or-mem [] i d h = absurd (omega arith)
  get_or-mem (x ∷ l) zero d h = Memᴰ.head refl
  get_or-mem (x ∷ l) (suc i) d h = Memᴰ.tail (get_or-mem l i d (omega arith))

  pub mem-at : (l : List A) (d x : A) → Memᴰ x l → (i : ℕ) × (i < length l) × (get_or l i d ≡ x)
  mem-at [] d x x3 = elim x3 [ ]
  mem-at (a ∷ l) d x (Memᴰ.head e) = (zero, omega arith, sym e)
  mem-at (a ∷ l) d x (Memᴰ.tail m) = let r = mem-at l d x m in (suc r.0, omega arith, r.2)

  -- a member that passes gives a position in range, whose entry passes
  pub position_at : (p : A → Bool) (d : A) (l : List A) (x : A) → Memᴰ x l → p x ≡ true → (position p l < length l) × (p (get_or l (position p l) d) ≡ true)
  position_at p d [] x m t = elim m [ ]
  position_at p d (y ∷ l) x m t = go (test (p y)) (position_at p d l x)
    where
      go : (p y ≡ true) ⊎ (p y ≡ false) → (Memᴰ x l → p x ≡ true → (position p l < length l) × (p (get_or l (position p l) d) ≡ true)) → (position p (y ∷ l) < length (y ∷ l)) × (p (get_or (y ∷ l) (position p (y ∷ l)) d) ≡ true)
      go (inl u) ih = (rw u (omega arith), rw u u)
      go (inr f) ih = let r = ih (rest (Memᴰ.cases_cons m)) t in (rw f (omega (arith, r.0)), rw f r.1)
        where
          rest : (x ≡ y) ⊎ Memᴰ x l → Memᴰ x l
          rest (inl e) = absurd (true≢false (sym t ∙ ap p e ∙ f))
          rest (inr k) = k

module _ {A B : Type 0} where
  pub flat-mem : (f : B → List A) (l : List B) (y : A) → Memᴰ y (flat (map f l)) → (x : B) × Memᴰ x l × Memᴰ y (f x)
  flat-mem f [] y m = elim m [ ]
  flat-mem f (a ∷ l) y m = go (Memᴰ.append_cases (f a) m) (flat-mem f l y)
    where
      go : Memᴰ y (f a) ⊎ Memᴰ y (flat (map f l)) → (Memᴰ y (flat (map f l)) → (x : B) × Memᴰ x l × Memᴰ y (f x)) → (x : B) × Memᴰ x (a ∷ l) × Memᴰ y (f x)
      go (inl k) ih = (a, Memᴰ.head refl, k)
      go (inr k) ih = let r = ih k in (r.0, Memᴰ.tail r.1, r.2)

  pub mem-flat : (f : B → List A) (l : List B) (x : B) (y : A) → Memᴰ x l → Memᴰ y (f x) → Memᴰ y (flat (map f l))
  mem-flat f [] x y x4 k = elim x4 [ ]
  mem-flat f (a ∷ l) x y (Memᴰ.head e) k = Memᴰ.append_left (flat (map f l)) (subst (λ (z : B). Memᴰ y (f z)) e k)
  mem-flat f (a ∷ l) x y (Memᴰ.tail m) k = Memᴰ.append_right (f a) (mem-flat f l x y m k)

  pub map-mem : (f : B → A) (l : List B) (y : A) → Memᴰ y (map f l) → (x : B) × Memᴰ x l × (y ≡ f x)
  map-mem f [] y x' = elim x' [ ]
  map-mem f (a ∷ l) y (Memᴰ.head e) = (a, Memᴰ.head refl, e)
  map-mem f (a ∷ l) y (Memᴰ.tail m) = let r = map-mem f l y m in (r.0, Memᴰ.tail r.1, r.2)

  pub mem-map : (f : B → A) (l : List B) (x : B) → Memᴰ x l → Memᴰ (f x) (map f l)
  mem-map f [] x x3 = elim x3 [ ]
  mem-map f (a ∷ l) x (Memᴰ.head e) = Memᴰ.head (ap f e)
  mem-map f (a ∷ l) x (Memᴰ.tail m) = Memᴰ.tail (mem-map f l x m)

-- ---- the same in every place, and past the last one too
pub replicate-at : {A : Type 0} (n i : ℕ) (d : A) → get_or (replicate n d) i d ≡ d
replicate-at zero i d = refl
replicate-at (suc n) zero d = refl
replicate-at (suc n) (suc i) d = replicate-at n i d

-- ---- no member, and the first one
module _ {A : Type 0} where
  pub none-mem : (l : List A) → ((x : A) → Memᴰ x l → ⊥) → l ≡ []
  none-mem [] h = refl
  none-mem (x ∷ l) h = absurd (h x (Memᴰ.head refl))

  pub first-cases : (d : A) (l : List A) → (l ≡ []) ⊎ Memᴰ (first_or d l) l
  first-cases d [] = inl refl
  first-cases d (x ∷ xs) = inr (Memᴰ.head refl)

  pub first-mem : (d : A) (l : List A) (y : A) → Memᴰ y l → Memᴰ (first_or d l) l
  first-mem d [] y m = elim m [ ]
  first-mem d (x ∷ xs) y m = Memᴰ.head refl

  pub first-at : (d : A) (l : List A) → first_or d l ≡ get_or l 0 d
  first-at d [] = refl
  first-at d (x ∷ l) = refl

pub first_le : (d : ℕ) (l : List ℕ) → Ascending l → (y : ℕ) → Memᴰ y l → first_or d l ≤ y
first_le d [] s y x'' = elim x'' [ ]
first_le d (x ∷ xs) s y (Memᴰ.head e) = omega arith
first_le d (x ∷ xs) s y (Memᴰ.tail k) = omega (arith, s.0 y k)

-- ---- ascending lists
pub ascending-filter : (p : ℕ → Bool) (l : List ℕ) → Ascending l → Ascending (filter p l)
ascending-filter p [] s = tt
ascending-filter p (x ∷ xs) s = go (p x) (ascending-filter p xs s.1)
  where
    go : (b : Bool) → Ascending (filter p xs) → Ascending (cond b (x ∷ filter p xs) (filter p xs))
    go true r = (λ y m. s.0 y (filter-mem p xs y m).0, r)
    go false r = r

pub ascending-append : (l r : List ℕ) → Ascending l → Ascending r → ((x y : ℕ) → Memᴰ x l → Memᴰ y r → x < y) → Ascending (l ++ r)
ascending-append [] r a b h = b
ascending-append (x ∷ l) r a b h = (λ y m. go y (Memᴰ.append_cases l m), ascending-append l r a.1 b (λ x y m n. h x y (Memᴰ.tail m) n))
  where
    go : (y : ℕ) → Memᴰ y l ⊎ Memᴰ y r → x < y
    go y (inl m) = a.0 y m
    go y (inr m) = h x y (Memᴰ.head refl) m

pub ascending-below : (n : ℕ) → Ascending (below n)
ascending-below zero = tt
ascending-below (suc n) = ascending-append (below n) (n ∷ []) (ascending-below n) (λ y m. absurd (Memᴰ.not-nil m), tt) (λ x y a b. omega (arith, below-lt n x a, Memᴰ.eq_of_singleton b))

-- ---- numbers below n, and lists of one length one after the other
pub length-below : (n : ℕ) → length (below n) ≡ n
length-below zero = refl
length-below (suc n) = length-append (below n) (n ∷ []) ∙ omega (arith, length-below n)

module _ {A : Type 0} where
  pub length-map-below : (g : ℕ → A) (n : ℕ) → length (map g (below n)) ≡ n
  length-map-below g n = length-map (below n) g ∙ length-below n

  pub get_or-map-below : (g : ℕ → A) (n i : ℕ) (d : A) → i < n → get_or (map g (below n)) i d ≡ g i
  get_or-map-below g zero i d h = absurd (omega arith)
  get_or-map-below g (suc n) i d h = ap (λ (l : List A). get_or l i d) (map-append g (below n) (n ∷ [])) ∙ go (ℕ_discrete i n) (get_or-map-below g n i d)
    where
      long : length (map g (below n)) ≡ n
      long = length-map-below g n

      go : Dec (i ≡ n) → (i < n → get_or (map g (below n)) i d ≡ g i) → get_or (map g (below n) ++ (g n ∷ [])) i d ≡ g i
      go (yes e) ih = get_or_at (map g (below n)) (g n) [] d i (long ∙ sym e) ∙ ap g (sym e)
      go (no k) ih = get_or-append (map g (below n)) (g n ∷ []) d i (omega (arith, long)) ∙ ih (omega arith)

  -- the suffix from a place on
  pub drop-next : (l : List A) (i : ℕ) (d : A) → i < length l → drop i l ≡ get_or l i d ∷ drop (i + 1) l
  drop-next l i d h = drop-cons l i d h ∙ ap (λ (j : ℕ). get_or l i d ∷ drop j l) (sym (add-one i))

  flat-last : (f : ℕ → List A) (l : List ℕ) (n : ℕ) → flat (map f (l ++ (n ∷ []))) ≡ flat (map f l) ++ f n
  flat-last f [] n = append-nil (f n)
  flat-last f (x ∷ l) n = ap (λ (r : List A). f x ++ r) (flat-last f l n) ∙ sym (append_assoc (f x) (flat (map f l)) (f n))

  pub flat-next : (f : ℕ → List A) (n : ℕ) → flat (map f (below (n + 1))) ≡ flat (map f (below n)) ++ f n
  flat-next f n = ap (λ (k : ℕ). flat (map f (below k))) (add-one n) ∙ flat-last f (below n) n

  pub flat-few : (f : ℕ → List A) (k : ℕ) → ((x : ℕ) → length (f x) ≤ k) → (l : List ℕ) → length (flat (map f l)) ≤ length l * k
  flat-few f k h [] = omega arith
  flat-few f k h (x ∷ l) = omega (arith, length-append (f x) (flat (map f l)), h x, flat-few f k h l, suc-mul (length l) k)

  module _ (f : ℕ → List A) (k : ℕ) (long : (i : ℕ) → length (f i) ≡ k) where
    pub length-pieces : (n : ℕ) → length (flat (map f (below n))) ≡ n * k
    length-pieces zero = sym (zero-mul k)
    length-pieces (suc n) =
        ap length (flat-last f (below n) n) ∙ length-append (flat (map f (below n))) (f n) ∙ ap₂ ◌+◌ (length-pieces n) (long n) ∙ sym (suc-mul n k)

    -- place j of the i-th list
    pub get_or-pieces : (n i j : ℕ) (d : A) → i < n → j < k → get_or (flat (map f (below n))) (i * k + j) d ≡ get_or (f i) j d
    get_or-pieces zero i j d h l = absurd (omega arith)
    get_or-pieces (suc n) i j d h l = ap (λ (z : List A). get_or z (i * k + j) d) (flat-last f (below n) n) ∙ go (ℕ_discrete i n) (get_or-pieces n i j d)
      where
        go : Dec (i ≡ n) → (i < n → j < k → get_or (flat (map f (below n))) (i * k + j) d ≡ get_or (f i) j d) → get_or (flat (map f (below n)) ++ f n) (i * k + j) d ≡ get_or (f i) j d
        go (yes e) ih =
            ap (λ (z : ℕ). get_or (flat (map f (below n)) ++ f n) (z + j) d) (ap (λ (z : ℕ). z * k) e ∙ sym (length-pieces n))
            ∙ get_or-append-add (flat (map f (below n))) (f n) j d ∙ ap (λ (z : ℕ). get_or (f z) j d) (sym e)
        go (no q) ih = get_or-append (flat (map f (below n))) (f n) d (i * k + j) (subst (λ (z : ℕ). i * k + j < z) (sym (length-pieces n)) (digits_lt (omega arith) l)) ∙ ih (omega arith) l
