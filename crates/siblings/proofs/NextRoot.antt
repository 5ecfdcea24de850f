-- A search through a list of masks that keeps the best mask so far ends with the next sibling: the least by the sibling order of the masks that pass is the first
-- of the ordered list of them. In an ordered list the next of a member is the member after it. Assumes nothing.
use Prim.Native.Nat.{ℕ, zero, suc, ◌+◌, ◌≤◌, ◌<◌}
use native.Mathlib.Omega.{arith}
use native.Mathlib.Decide.{ℕ_discrete}
use native.Mathlib.Numerals.{add-one}
use mathlib.Core.Path.{◌≡◌, refl, sym, ap, ◌∙◌, subst}
use mathlib.Core.Logic.{◌⊎◌, inl, inr, ◌≢◌}
use mathlib.Core.Bool.{Bool, true, false, ◌&&◌, cond, true≢false}
use mathlib.Core.List.Memᴰ
use mathlib.Core.List.{List, [], ◌∷◌, ◌++◌, Memᴰ}
use lib.ListN.{length, get_or, take}
use lib.Seq.{take-suc, take_all}
use Rattle.lists.specs.Lists.{filter, first_or, Distinct}
use Rattle.lists.proofs.Bools.{test, ≡eqb, neqb}
use Rattle.lists.proofs.Lists.{filter-mem, mem-filter, get_or-mem, first-at}
use Rattle.lists.proofs.Filters.{filter-all, filter_same}
use Rattle.forest.specs.Forest.{before, in_order}
use Rattle.forest.specs.Laws.{Ordered}
use Rattle.forest.proofs.Order.{before-irreflexive, before-transitive, before-total, order-mem, mem-order, distinct-ordered, ordered-filter}
use Rattle.siblings.specs.NextRoot.{next_in, stands_after, better, root_better}

-- ---- the least of the members that pass
-- r is 0 and none passes, or r is the member that passes and stands before the others
abbrev pub Least : (ℕ → Bool) → List ℕ → ℕ → Type 0
Least t l r =
    ((r ≡ 0) × ((x : ℕ) → Memᴰ x l → t x ≡ false))
    ⊎ ((r ≢ 0) × Memᴰ r l × (t r ≡ true) × ((x : ℕ) → Memᴰ x l → t x ≡ true → (x ≡ r) ⊎ (before r x ≡ true)))

-- none is seen yet
pub least-none : (t : ℕ → Bool) → Least t [] 0
least-none t = inl (refl, λ x k. absurd (Memᴰ.not-nil k))

-- one more member
least_more : (t : ℕ → Bool) (s : List ℕ) (b m : ℕ) → m ≢ 0 → Least t s b → Least t (s ++ (m ∷ [])) (cond (t m && better b m) m b)
unfolding better
least_more t s b m nonzero v = go (test (t m)) v
  where
    last : {x : ℕ} → Memᴰ x (m ∷ []) → x ≡ m
    last k = Memᴰ.eq_of_singleton k

    cases : {x : ℕ} → Memᴰ x (s ++ (m ∷ [])) → Memᴰ x s ⊎ Memᴰ x (m ∷ [])
    cases k = Memᴰ.append_cases s k

    here : Memᴰ m (s ++ (m ∷ []))
    here = Memᴰ.append_right s (Memᴰ.head refl)

    -- m is the first that passes
    first : t m ≡ true → ((x : ℕ) → Memᴰ x s → t x ≡ false) → (x : ℕ) → Memᴰ x s ⊎ Memᴰ x (m ∷ []) → t x ≡ true → (x ≡ m) ⊎ (before m x ≡ true)
    first u none x (inl k) w = absurd (true≢false (sym w ∙ none x k))
    first u none x (inr k) w = inl (last k)

    none_yet : t m ≡ false → ((x : ℕ) → Memᴰ x s → t x ≡ false) → (x : ℕ) → Memᴰ x s ⊎ Memᴰ x (m ∷ []) → t x ≡ false
    none_yet u none x (inl k) = none x k
    none_yet u none x (inr k) = ap t (last k) ∙ u

    -- m stands before b
    sooner : before m b ≡ true → ((x : ℕ) → Memᴰ x s → t x ≡ true → (x ≡ b) ⊎ (before b x ≡ true)) → (x : ℕ) → Memᴰ x s ⊎ Memᴰ x (m ∷ []) → t x ≡ true → (x ≡ m) ⊎ (before m x ≡ true)
    sooner h least x (inr k) w = inl (last k)
    sooner h least x (inl k) w = pick (least x k w)
      where
        pick : (x ≡ b) ⊎ (before b x ≡ true) → (x ≡ m) ⊎ (before m x ≡ true)
        pick (inl e) = inr (ap (before m) e ∙ h)
        pick (inr g) = inr (before-transitive m b x h g)

    -- b stays
    stays : (t m ≡ true → before m b ≡ false) → ((x : ℕ) → Memᴰ x s → t x ≡ true → (x ≡ b) ⊎ (before b x ≡ true)) → (x : ℕ) → Memᴰ x s ⊎ Memᴰ x (m ∷ []) → t x ≡ true
        → (x ≡ b) ⊎ (before b x ≡ true)
    stays h least x (inl k) w = least x k w
    stays h least x (inr k) w = same (ℕ_discrete m b)
      where
        other : (before m b ≡ true) ⊎ (before b m ≡ true) → before b m ≡ true
        other (inl u) = absurd (true≢false (sym u ∙ h (sym (ap t (last k)) ∙ w)))
        other (inr u) = u

        same : Dec (m ≡ b) → (x ≡ b) ⊎ (before b x ≡ true)
        same (yes e) = inl (last k ∙ e)
        same (no n) = inr (ap (before b) (last k) ∙ other (before-total m b n))

    go : (t m ≡ true) ⊎ (t m ≡ false) → Least t s b → Least t (s ++ (m ∷ [])) (cond (t m && better b m) m b)
    go (inl u) (inl w) = rw u (rw (≡eqb b 0 w.0) (inr (nonzero, here, u, λ x k. first u w.1 x (cases k))))
    go (inr u) (inl w) = rw u (inl (w.0, λ x k. none_yet u w.1 x (cases k)))
    go (inr u) (inr w) = rw u (inr (w.0, Memᴰ.append_left (m ∷ []) w.1, w.2, λ x k. stays (λ f. absurd (true≢false (sym f ∙ u))) w.3 x (cases k)))
    go (inl u) (inr w) = rw u (rw (neqb b 0 w.0) (compare (test (before m b))))
      where
        compare : (before m b ≡ true) ⊎ (before m b ≡ false) → Least t (s ++ (m ∷ [])) (cond (before m b) m b)
        compare (inl h) = rw h (inr (nonzero, here, u, λ x k. sooner h w.3 x (cases k)))
        compare (inr h) = rw h (inr (w.0, Memᴰ.append_left (m ∷ []) w.1, w.2, λ x k. stays (λ _. h) w.3 x (cases k)))

-- one turn of the search: i members are seen, and b is the best of them
least-turn : (t : ℕ → Bool) (l : List ℕ) (i b r : ℕ) (u : Bool) → i < length l → ((x : ℕ) → Memᴰ x l → x ≢ 0) → u ≡ t (get_or l i 0) && better b (get_or l i 0) → r ≡ cond u (get_or l i 0) b → Least t (take i l) b
    → Least t (take (i + 1) l) r
least-turn t l i b r u h nonzero d c v =
    let m : ℕ = get_or l i 0 in
    let s : take (i + 1) l ≡ take i l ++ (m ∷ []) = ap (λ (j : ℕ). take j l) (add-one i) ∙ take-suc l i 0 h in
    subst (λ (z : ℕ). Least t (take (i + 1) l) z) (sym (c ∙ ap (λ (z : Bool). cond z m b) d))
    (subst (λ (z : List ℕ). Least t z (cond (t m && better b m) m b)) (sym s) (least_more t (take i l) b m (nonzero m (get_or-mem l i 0 h)) v))

-- the least is the first of the ordered list of those that pass
least_first : (t : ℕ → Bool) (l o : List ℕ) (r : ℕ) → Ordered o → ((x : ℕ) → Memᴰ x o → Memᴰ x l × (t x ≡ true)) → ((x : ℕ) → Memᴰ x l → t x ≡ true → Memᴰ x o) → Least t l r → r ≡ first_or 0 o
least_first t l [] r ordered sound complete (inl w) = w.0
least_first t l [] r ordered sound complete (inr w) = absurd (Memᴰ.not-nil (complete r w.1 w.2))
least_first t l (y ∷ o) r ordered sound complete (inl w) =
    let k = sound y (Memᴰ.head refl) in
    absurd (true≢false (sym k.1 ∙ w.1 y k.0))
least_first t l (y ∷ o) r ordered sound complete (inr w) = go (Memᴰ.cases_cons (complete r w.1 w.2))
  where
    later : before y r ≡ true → (y ≡ r) ⊎ (before r y ≡ true) → r ≡ y
    later h (inl e) = sym e
    later h (inr g) = absurd (true≢false (sym (before-transitive y r y h g) ∙ before-irreflexive y))

    go : (r ≡ y) ⊎ Memᴰ r o → r ≡ y
    go (inl e) = e
    go (inr k) = let q = sound y (Memᴰ.head refl) in later (ordered.0 r k) (w.3 y q.0 q.1)

-- ---- the search among roots
pub root-turn : (l : List ℕ) (a i b r : ℕ) (u : Bool) → i < length l → ((x : ℕ) → Memᴰ x l → x ≢ 0) → u ≡ root_better a b (get_or l i 0) → r ≡ cond u (get_or l i 0) b → Least (stands_after a) (take i l) b
    → Least (stands_after a) (take (i + 1) l) r
unfolding root_better
root-turn l a i b r u h nonzero d c v = least-turn (stands_after a) l i b r u h nonzero d c v

-- all are seen
pub root-end : (l : List ℕ) (a i r : ℕ) → Distinct l → length l ≤ i → Least (stands_after a) (take i l) r → r ≡ next_in a (in_order l)
unfolding next_in
root-end l a i r d h v =
    least_first (stands_after a) l (filter (stands_after a) (in_order l)) r (ordered-filter (stands_after a) (in_order l) (distinct-ordered l d)) sound
    (λ x k u. mem-filter (stands_after a) (in_order l) x (mem-order l x k) u) (subst (λ (z : List ℕ). Least (stands_after a) z r) (take_all i l h) v)
  where
    sound : (x : ℕ) → Memᴰ x (filter (stands_after a) (in_order l)) → Memᴰ x l × (stands_after a x ≡ true)
    sound x k = let q = filter-mem (stands_after a) (in_order l) x k in (order-mem l x q.0, q.1)

-- ---- in an ordered list
after_none : (m : ℕ) → stands_after 0 m ≡ true
unfolding stands_after
after_none m = refl

after-some : (a m : ℕ) → a ≢ 0 → stands_after a m ≡ before a m
unfolding stands_after
after-some a m z = rw (neqb a 0 z) refl

pub next-first : (l : List ℕ) → next_in 0 l ≡ get_or l 0 0
unfolding next_in
next-first l = ap (first_or 0) (filter-all (stands_after 0) l (λ m k. after_none m)) ∙ first-at 0 l

after-at : (l : List ℕ) → Ordered l → (j : ℕ) → j < length l → first_or 0 (filter (before (get_or l j 0)) l) ≡ get_or l (suc j) 0
after-at [] o j h = absurd (omega arith)
after-at (x ∷ l) o zero h = rw (before-irreflexive x) (ap (first_or 0) (filter-all (before x) l o.0) ∙ first-at 0 l)
after-at (x ∷ l) o (suc j) h = rw (back (test (before (get_or l j 0) x))) (after-at l o.1 j (omega arith))
  where
    back : (before (get_or l j 0) x ≡ true) ⊎ (before (get_or l j 0) x ≡ false) → before (get_or l j 0) x ≡ false
    back (inl t) = absurd (true≢false (sym (before-transitive x (get_or l j 0) x (o.0 (get_or l j 0) (get_or-mem l j 0 (omega arith))) t) ∙ before-irreflexive x))
    back (inr f) = f

pub next-at : (l : List ℕ) → Ordered l → (j : ℕ) → j < length l → get_or l j 0 ≢ 0 → next_in (get_or l j 0) l ≡ get_or l (j + 1) 0
unfolding next_in
next-at l o j h z =
    let a : ℕ = get_or l j 0 in
    ap (first_or 0) (filter_same (stands_after a) (before a) (λ m. after-some a m z) l) ∙ after-at l o j h ∙ ap (λ (i : ℕ). get_or l i 0) (sym (add-one j))
