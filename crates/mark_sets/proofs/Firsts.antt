-- The different members of a list by first appearance, and their colours: which they are, each once; and that a longer list keeps the colours of a shorter one. Assumes nothing.
use Prim.Native.Nat.{ℕ, suc, ◌+◌, ◌≤◌, ◌<◌}
use native.Mathlib.Omega.{arith}
use native.Mathlib.Decide.{ℕ_discrete}
use mathlib.Core.Path.{◌≡◌, refl, sym, ap, ◌∙◌, subst}
use mathlib.Core.Logic.{◌⊎◌, inl, inr, ◌↔◌}
use mathlib.Core.Bool.{Bool, true, false, not, ◌&&◌, ◌||◌, true≢false}
use mathlib.Core.List.{List, [], ◌∷◌, ◌++◌, append-nil, Memᴰ}
use lib.Dec.{eqb}
use lib.ListN.{length, get_or, length-append}
use Rattle.lists.specs.Lists.{any, filter, position, Distinct}
use Rattle.lists.proofs.Bools.{test, eqb≡, ≡eqb, neqb, not-true, bool-ext}
use Rattle.lists.proofs.Lists.{some-any, any_some, filter-mem, mem-filter, position_at}
use Rattle.lists.proofs.Filters.{filter-append, filter_same}
use Rattle.lists.proofs.Distinct.{distinct_filter, position-once}
use Rattle.mark_sets.specs.MarkSets.{firsts, colour_in}

-- ---- positions in a longer list
module _ {A : Type 0} (p : A → Bool) where
  pub position-found : (l r : List A) → position p l < length l → position p (l ++ r) ≡ position p l
  position-found [] r h = absurd (omega arith)
  position-found (x ∷ l) r h = go (test (p x)) (position-found l r)
    where
      go : (p x ≡ true) ⊎ (p x ≡ false) → (position p l < length l → position p (l ++ r) ≡ position p l) → position p (x ∷ l ++ r) ≡ position p (x ∷ l)
      go (inl t) ih = rw t refl
      go (inr f) ih = let k : suc (position p l) < suc (length l) = rw f at h in rw f (ap suc (ih (omega arith)))

  pub position-missed : (l r : List A) → position p l ≡ length l → position p (l ++ r) ≡ length l + position p r
  position-missed [] r h = omega arith
  position-missed (x ∷ l) r h = go (test (p x)) (position-missed l r)
    where
      go : (p x ≡ true) ⊎ (p x ≡ false) → (position p l ≡ length l → position p (l ++ r) ≡ length l + position p r) → position p (x ∷ l ++ r) ≡ suc (length l) + position p r
      go (inl t) ih = let k : 0 ≡ suc (length l) = rw t at h in absurd (omega (arith, k))
      go (inr f) ih = let k : suc (position p l) ≡ suc (length l) = rw f at h in rw f (omega (arith, ih (omega arith)))

  pub position-none : (l : List A) → any p l ≡ false → position p l ≡ length l
  position-none [] h = refl
  position-none (x ∷ l) h = go (test (p x)) (position-none l)
    where
      go : (p x ≡ true) ⊎ (p x ≡ false) → (any p l ≡ false → position p l ≡ length l) → position p (x ∷ l) ≡ suc (length l)
      go (inl t) ih = absurd (true≢false (rw t at h))
      go (inr f) ih = rw f (ap suc (ih (rw f at h)))

-- ---- the members
pub firsts-has : (l : List ℕ) (x : ℕ) → Memᴰ x l ↔ Memᴰ x (firsts l)
unfolding firsts
firsts-has [] x = (λ m. m, λ m. m)
firsts-has (y ∷ l) x = (to (firsts-has l x), from (firsts-has l x))
  where
    other : ℕ → Bool
    other z = not (eqb y z)

    to : Memᴰ x l ↔ Memᴰ x (firsts l) → Memᴰ x (y ∷ l) → Memᴰ x (y ∷ filter other (firsts l))
    to ih (Memᴰ.head e) = Memᴰ.head e
    to ih (Memᴰ.tail m) = go (ℕ_discrete x y)
      where
        go : Dec (x ≡ y) → Memᴰ x (y ∷ filter other (firsts l))
        go (yes e) = Memᴰ.head e
        go (no n) = Memᴰ.tail (mem-filter other (firsts l) x (ih.0 m) (ap not (neqb y x (λ e. n (sym e)))))

    from : Memᴰ x l ↔ Memᴰ x (firsts l) → Memᴰ x (y ∷ filter other (firsts l)) → Memᴰ x (y ∷ l)
    from ih (Memᴰ.head e) = Memᴰ.head e
    from ih (Memᴰ.tail m) = Memᴰ.tail (ih.1 (filter-mem other (firsts l) x m).0)

pub firsts-distinct : (l : List ℕ) → Distinct (firsts l)
unfolding firsts
firsts-distinct [] = tt
firsts-distinct (x ∷ l) =
    (λ y m e. true≢false (sym (≡eqb x y e) ∙ not-true (eqb x y) (filter-mem (λ (z : ℕ). not (eqb x z)) (firsts l) y m).1), distinct_filter (λ (z : ℕ). not (eqb x z)) (firsts l) (firsts-distinct l))

-- ---- their colours
pub colour-below : (l : List ℕ) (x : ℕ) → Memᴰ x l → colour_in l x < length (firsts l)
unfolding colour_in
colour-below l x m = (position_at (eqb x) 0 (firsts l) x ((firsts-has l x).0 m) (≡eqb x x refl)).0

pub colour-set : (l : List ℕ) (x : ℕ) → Memᴰ x l → get_or (firsts l) (colour_in l x) 0 ≡ x
unfolding colour_in
colour-set l x m = sym (eqb≡ x (get_or (firsts l) (colour_in l x) 0) (position_at (eqb x) 0 (firsts l) x ((firsts-has l x).0 m) (≡eqb x x refl)).1)

pub set-colour : (l : List ℕ) (c : ℕ) → c < length (firsts l) → colour_in l (get_or (firsts l) c 0) ≡ c
unfolding colour_in
set-colour l c h = position-once (firsts l) (firsts-distinct l) c h

-- ---- a longer list
filter-both : (p q : ℕ → Bool) (l : List ℕ) → filter p (filter q l) ≡ filter (λ (x : ℕ). p x && q x) l
filter-both p q [] = refl
filter-both p q (x ∷ l) = go (test (p x)) (test (q x)) (filter-both p q l)
  where
    go : (p x ≡ true) ⊎ (p x ≡ false) → (q x ≡ true) ⊎ (q x ≡ false) → filter p (filter q l) ≡ filter (λ (x : ℕ). p x && q x) l → filter p (filter q (x ∷ l)) ≡ filter (λ (x : ℕ). p x && q x) (x ∷ l)
    go (inl t) (inl u) ih = rw (u, t) (ap (λ (z : List ℕ). x ∷ z) ih)
    go (inl t) (inr u) ih = rw (u, t) ih
    go (inr f) (inl u) ih = rw (u, f) ih
    go (inr f) (inr u) ih = rw (u, f) ih

-- what a list has besides the members of l
abbrev besides : List ℕ → ℕ → Bool
besides l y = not (any (eqb y) l)

firsts-append : (l m : List ℕ) → firsts (l ++ m) ≡ firsts l ++ filter (besides l) (firsts m)
unfolding firsts
firsts-append [] m = sym (filter-every (firsts m))
  where
    filter-every : (l : List ℕ) → filter (besides []) l ≡ l
    filter-every [] = refl
    filter-every (x ∷ l) = ap (λ (z : List ℕ). x ∷ z) (filter-every l)
firsts-append (x ∷ l) m =
    ap (λ (z : List ℕ). x ∷ z)
    (ap (filter other) (firsts-append l m) ∙ filter-append other (firsts l) (filter (besides l) (firsts m))
    ∙ ap (λ (z : List ℕ). filter other (firsts l) ++ z) (filter-both other (besides l) (firsts m) ∙ filter_same (λ (y : ℕ). other y && besides l y) (besides (x ∷ l)) same (firsts m)))
  where
    other : ℕ → Bool
    other y = not (eqb x y)

    same : (y : ℕ) → other y && besides l y ≡ besides (x ∷ l) y
    same y = ap (λ (b : Bool). not b && besides l y) (bool-ext (eqb x y) (eqb y x) (λ t. ≡eqb y x (sym (eqb≡ x y t))) (λ t. ≡eqb x y (sym (eqb≡ y x t)))) ∙ go (eqb y x) (any (eqb y) l)
      where
        go : (a b : Bool) → not a && not b ≡ not (a || b)
        go true b = refl
        go false b = refl

-- no fewer different members
pub firsts-grow : (l m : List ℕ) → length (firsts l) ≤ length (firsts (l ++ m))
firsts-grow l m = omega (arith, ap length (firsts-append l m), length-append (firsts l) (filter (besides l) (firsts m)))

pub colour-kept : (l m : List ℕ) (x : ℕ) → Memᴰ x l → colour_in (l ++ m) x ≡ colour_in l x
unfolding colour_in
colour-kept l m x k = ap (position (eqb x)) (firsts-append l m) ∙ position-found (eqb x) (firsts l) (filter (besides l) (firsts m)) (colour-below l x k)

-- ---- one member more
-- a member, or unlike all of them
pub met : (l : List ℕ) (x : ℕ) → Memᴰ x l ⊎ (any (eqb x) l ≡ false)
met l x = go (test (any (eqb x) l))
  where
    go : (any (eqb x) l ≡ true) ⊎ (any (eqb x) l ≡ false) → Memᴰ x l ⊎ (any (eqb x) l ≡ false)
    go (inl t) = let r = any_some (eqb x) l t in inl (subst (λ (y : ℕ). Memᴰ y l) (sym (eqb≡ x r.0 r.2)) r.1)
    go (inr f) = inr f

pub firsts-old : (l : List ℕ) (x : ℕ) → Memᴰ x l → firsts (l ++ (x ∷ [])) ≡ firsts l
unfolding firsts
firsts-old l x m = firsts-append l (x ∷ []) ∙ rw (some-any (eqb x) l x m (≡eqb x x refl)) (append-nil (firsts l))

pub firsts-new : (l : List ℕ) (x : ℕ) → any (eqb x) l ≡ false → firsts (l ++ (x ∷ [])) ≡ firsts l ++ (x ∷ [])
unfolding firsts
firsts-new l x f = firsts-append l (x ∷ []) ∙ rw f refl

-- the colour that is not yet given
pub colour-none : (l : List ℕ) (x : ℕ) → any (eqb x) l ≡ false → colour_in l x ≡ length (firsts l)
unfolding colour_in
colour-none l x f = position-none (eqb x) (firsts l) (go (test (any (eqb x) (firsts l))))
  where
    go : (any (eqb x) (firsts l) ≡ true) ⊎ (any (eqb x) (firsts l) ≡ false) → any (eqb x) (firsts l) ≡ false
    go (inl t) = let r = any_some (eqb x) (firsts l) t in absurd (true≢false (sym (some-any (eqb x) l r.0 ((firsts-has l r.0).1 r.1) r.2) ∙ f))
    go (inr k) = k
