-- What is not wanted is listed: a child of a listed cycle that a look at the lists leaves out stands in them already. And a list with the wanted ones of some cycles
-- after it: what its members are, that a child among them is one, and that it stays distinct. Assumes nothing.
use Prim.Native.Nat.{ℕ, zero, suc, ◌+◌, ◌≤◌, ◌<◌}
use native.Mathlib.Omega.{arith}
use mathlib.Core.Path.{◌≡◌, refl, sym, ap, ap₂, ◌∙◌, subst}
use mathlib.Core.Logic.{◌⊎◌, inl, inr, ◌≢◌}
use mathlib.Core.Bool.{true, false, not, ◌&&◌, true≢false}
use mathlib.Core.List.Memᴰ
use mathlib.Core.List.{List, [], ◌∷◌, ◌++◌, map, Memᴰ}
use lib.Bits.{bit_and}
use lib.Dec.{eqb}
use lib.ListN.{length, get_or, length-append}
use Rattle.lists.specs.Lists.{any, below, Distinct}
use Rattle.lists.proofs.Bools.{test, eqb≡, ≡eqb, neqb, and_l, and_r, both, or-rest}
use Rattle.lists.proofs.Lists.{any_some, none_any, mem_below, mem-at}
use Rattle.lists.proofs.Distinct.{distinct_append}
use Rattle.masks.specs.Masks.{has, inside}
use Rattle.masks.proofs.Bits.{has-and, inside-all, all-inside, inside-refl, inside-trans, inside-le, properly-inside}
use Rattle.policy.specs.declared.Policy.{Policy}
use Rattle.policy.specs.Policies.{colours_of, accepting}
use Rattle.policy.proofs.Laws.{colours-up}
use Rattle.graph.specs.Cycles.{is_cycle}
use Rattle.graph.proofs.Cycles.{cycle-some}
use Rattle.forest.specs.Forest.{opposed, children}
use Rattle.forest.proofs.Largest.{inside-same, largest-order-mem}
use Rattle.forest.proofs.Children.{child, mem-opposed}
use Rattle.candidates.proofs.LargerFirst.{Falling, falling-append}
use Rattle.candidates.specs.Candidates.{covers, may_hold, are_long, wanted, is_wanted, with_cycle, with_cycles}

-- nothing lies inside the empty set
pub in-none : (x : ℕ) → inside x 0 ≡ true → x ≡ 0
in-none x i = omega (arith, inside-le x 0 i)

get_d_map : (f : ℕ → ℕ) (l : List ℕ) (i : ℕ) → i < length l → get_or (map f l) i 0 ≡ f (get_or l i 0)
get_d_map f [] i h = absurd (omega arith)
get_d_map f (x ∷ l) zero h = refl
get_d_map f (x ∷ l) (suc i) h = get_d_map f l i (omega arith)

module _ (p : Policy) where
  -- a child lies inside no larger cycle of its verdict inside its parent
  pub child-largest : (y x k : ℕ) → Memᴰ x (children p y) → is_cycle p k ≡ true → inside k y ≡ true → accepting p k ≡ accepting p x → inside x k ≡ true → x ≡ k
  unfolding children
  child-largest y x k m cy i v t = inside-same x k t ((largest-order-mem (opposed p y) x m).1 k (mem-opposed p y k cy i (v ∙ (child p y x m).turned)))

  -- ---- what is not wanted
  none-held : (c m : ℕ) (other same : List ℕ) → is_wanted (colours_of p) c m other same ≡ false → (y : ℕ) → Memᴰ y other → may_hold c m same (colours_of p y) y ≡ false
  unfolding is_wanted wanted
  none-held c m other same w y k =
      let long = are_long (length other) (length same) in
      let here = any (λ (i : ℕ). may_hold c m same (get_or (map (colours_of p) other) i 0) (get_or other i 0)) (below (length other)) in
      let at = mem-at other 0 y k in
      let none = none_any (λ (i : ℕ). may_hold c m same (get_or (map (colours_of p) other) i 0) (get_or other i 0)) (below (length other)) (or-rest long here w) at.0 (mem_below (length other) at.0 at.1) in
      subst (λ (z : ℕ). may_hold c m same (colours_of p z) z ≡ false) at.2 (ap (λ (h : ℕ). may_hold c m same h (get_or other at.0 0)) (sym (get_d_map (colours_of p) other at.0 at.1)) ∙ none)

  -- the listed cycles with the verdict of x
  abbrev Alike : List ℕ → ℕ → Type 0
  Alike same x = (k : ℕ) → Memᴰ k same → (is_cycle p k ≡ true) × (accepting p k ≡ accepting p x)

  pub not-wanted : (m : ℕ) (other same : List ℕ) (y x : ℕ) → Memᴰ y other → Memᴰ x (children p y) → inside x m ≡ true → Alike same x
      → is_wanted (colours_of p) (colours_of p x) m other same ≡ false → Memᴰ x same
  unfolding may_hold covers
  not-wanted m other same y x k ch i alike w = go (test (any (covers e y) same))
    where
      e : ℕ
      e = bit_and m y

      up : inside x y ≡ true
      up = properly-inside x y (child p y x ch).within

      x-in : inside x e ≡ true
      x-in = all-inside x e (λ f t. has-and f m y ∙ both (has m f) (has y f) (inside-all x m i f t) (inside-all x y up f t))

      some : e ≢ 0
      some z = cycle-some p x (child p y x ch).cycle (in-none x (subst (λ (n : ℕ). inside x n ≡ true) z x-in))

      go : (any (covers e y) same ≡ true) ⊎ (any (covers e y) same ≡ false) → Memᴰ x same
      go (inl t) =
          let r = any_some (covers e y) same t in
          let n = r.0 in
          let a = alike n r.1 in
          Memᴰ.cast (child-largest y x n ch a.0 (and_r (inside e n) (inside n y) r.2) a.1 (inside-trans x e n x-in (and_l (inside e n) (inside n y) r.2))) r.1
      go (inr f) =
          absurd (true≢false (
          sym (both (inside (colours_of p x) (colours_of p y) && not (eqb e 0)) (not (any (covers e y) same))
          (both (inside (colours_of p x) (colours_of p y)) (not (eqb e 0)) (colours-up p x y up) (ap not (neqb e 0 some))) (ap not f))
          ∙ none-held (colours_of p x) m other same w y k
          ))

  -- ---- a list with the wanted ones of some cycles after it
  module _ (c : ℕ) (other : List ℕ) where
    with-cycle-cases : (same : List ℕ) (x : ℕ)
        → ((colours_of p x ≡ c) × (with_cycle (colours_of p) c other same x ≡ same ++ (x ∷ []))) ⊎ ((colours_of p x ≡ c → is_wanted (colours_of p) c x other same ≡ false) × (with_cycle (colours_of p) c other same x ≡ same))
    unfolding with_cycle
    with-cycle-cases same x = go (test (eqb (colours_of p x) c)) (test (is_wanted (colours_of p) c x other same))
      where
        go : (eqb (colours_of p x) c ≡ true) ⊎ (eqb (colours_of p x) c ≡ false) → (is_wanted (colours_of p) c x other same ≡ true) ⊎ (is_wanted (colours_of p) c x other same ≡ false)
            → ((colours_of p x ≡ c) × (with_cycle (colours_of p) c other same x ≡ same ++ (x ∷ []))) ⊎ ((colours_of p x ≡ c → is_wanted (colours_of p) c x other same ≡ false) × (with_cycle (colours_of p) c other same x ≡ same))
        go (inl e) (inl w) = inl (eqb≡ (colours_of p x) c e, rw (e, w) refl)
        go (inl e) (inr w) = inr (λ _. w, rw (e, w) refl)
        go (inr e) w = inr (λ q. absurd (true≢false (sym (≡eqb (colours_of p x) c q) ∙ e)), rw e refl)

    cycle-kept : (same : List ℕ) (x z : ℕ) → Memᴰ z same → Memᴰ z (with_cycle (colours_of p) c other same x)
    cycle-kept same x z m = go (with-cycle-cases same x)
      where
        go : ((colours_of p x ≡ c) × (with_cycle (colours_of p) c other same x ≡ same ++ (x ∷ []))) ⊎ ((colours_of p x ≡ c → is_wanted (colours_of p) c x other same ≡ false) × (with_cycle (colours_of p) c other same x ≡ same)) → Memᴰ z (with_cycle (colours_of p) c other same x)
        go (inl r) = subst (Memᴰ z) (sym r.1) (Memᴰ.append_left (x ∷ []) m)
        go (inr r) = subst (Memᴰ z) (sym r.1) m

    -- a law of a list that holds with one more after it, where that one may follow, holds with the wanted ones after it
    with_each : (P : List ℕ → Type 0) (same : List ℕ) (x : ℕ) → P same → (colours_of p x ≡ c → P (same ++ (x ∷ []))) → P (with_cycle (colours_of p) c other same x)
    with_each P same x stays more = go (with-cycle-cases same x)
      where
        go : ((colours_of p x ≡ c) × (with_cycle (colours_of p) c other same x ≡ same ++ (x ∷ []))) ⊎ ((colours_of p x ≡ c → is_wanted (colours_of p) c x other same ≡ false) × (with_cycle (colours_of p) c other same x ≡ same)) → P (with_cycle (colours_of p) c other same x)
        go (inl r) = subst P (sym r.1) (more r.0)
        go (inr r) = subst P (sym r.1) stays

    pub cycles-kept : (same xs : List ℕ) (z : ℕ) → Memᴰ z same → Memᴰ z (with_cycles (colours_of p) c other same xs)
    unfolding with_cycles
    cycles-kept same [] z m = m
    cycles-kept same (x ∷ xs) z m = cycles-kept (with_cycle (colours_of p) c other same x) xs z (cycle-kept same x z m)

    -- what they are
    pub cycles-mem : (same xs : List ℕ) (z : ℕ) → Memᴰ z (with_cycles (colours_of p) c other same xs) → Memᴰ z same ⊎ (Memᴰ z xs × (colours_of p z ≡ c))
    unfolding with_cycles
    cycles-mem same [] z m = inl m
    cycles-mem same (x ∷ xs) z m = go (cycles-mem (with_cycle (colours_of p) c other same x) xs z m)
      where
        one : Memᴰ z (with_cycle (colours_of p) c other same x) → Memᴰ z same ⊎ (Memᴰ z (x ∷ xs) × (colours_of p z ≡ c))
        one = with_each (λ (l : List ℕ). Memᴰ z l → Memᴰ z same ⊎ (Memᴰ z (x ∷ xs) × (colours_of p z ≡ c))) same x inl (λ e n. last e (Memᴰ.append_cases same n))
          where
            last : colours_of p x ≡ c → Memᴰ z same ⊎ Memᴰ z (x ∷ []) → Memᴰ z same ⊎ (Memᴰ z (x ∷ xs) × (colours_of p z ≡ c))
            last e (inl n) = inl n
            last e (inr n) = let q = Memᴰ.eq_of_singleton n in inr (Memᴰ.head q, ap (colours_of p) q ∙ e)

        go : Memᴰ z (with_cycle (colours_of p) c other same x) ⊎ (Memᴰ z xs × (colours_of p z ≡ c)) → Memᴰ z same ⊎ (Memᴰ z (x ∷ xs) × (colours_of p z ≡ c))
        go (inl n) = one n
        go (inr n) = inr (Memᴰ.tail n.0, n.1)

    pub cycles-few : (same xs : List ℕ) → length (with_cycles (colours_of p) c other same xs) ≤ length same + length xs
    unfolding with_cycles
    cycles-few same [] = omega arith
    cycles-few same (x ∷ xs) = omega (arith, cycles-few (with_cycle (colours_of p) c other same x) xs, one)
      where
        one : length (with_cycle (colours_of p) c other same x) ≤ length same + 1
        one = with_each (λ (l : List ℕ). length l ≤ length same + 1) same x (omega arith) (λ e. omega (arith, length-append same (x ∷ [])))

    pub cycles-distinct : (same xs : List ℕ) → Distinct same → Distinct xs → ((z : ℕ) → Memᴰ z same → Memᴰ z xs → ⊥) → Distinct (with_cycles (colours_of p) c other same xs)
    unfolding with_cycles
    cycles-distinct same [] d e apart = d
    cycles-distinct same (x ∷ xs) d e apart =
        let r = with_each (λ (l : List ℕ). Distinct l × ((z : ℕ) → Memᴰ z l → Memᴰ z xs → ⊥)) same x (d, λ z m n. apart z m (Memᴰ.tail n))
        (λ q. (distinct_append same (x ∷ []) d (λ y m. absurd (Memᴰ.not-nil m), tt) (λ z m n. apart z m (Memᴰ.head (Memᴰ.eq_of_singleton n))), λ z m n. last z n (Memᴰ.append_cases same m))) in
        cycles-distinct (with_cycle (colours_of p) c other same x) xs r.0 e.1 r.1
      where
        last : (z : ℕ) → Memᴰ z xs → Memᴰ z same ⊎ Memᴰ z (x ∷ []) → ⊥
        last z n (inl m) = apart z m (Memᴰ.tail n)
        last z n (inr m) = e.0 z n (sym (Memᴰ.eq_of_singleton m))

    -- colours fall on
    pub cycles-falling : (same xs : List ℕ) → Falling (colours_of p) same → ((z : ℕ) → Memᴰ z same → c ≤ colours_of p z) → Falling (colours_of p) (with_cycles (colours_of p) c other same xs)
    unfolding with_cycles
    cycles-falling same [] f above = f
    cycles-falling same (x ∷ xs) f above =
        let r = with_each (λ (l : List ℕ). Falling (colours_of p) l × ((z : ℕ) → Memᴰ z l → c ≤ colours_of p z)) same x (f, above)
        (λ q. (falling-append (colours_of p) same (x ∷ []) f (λ y m. absurd (Memᴰ.not-nil m), tt) (λ y z m n. omega (arith, above y m, ap (colours_of p) (Memᴰ.eq_of_singleton n))), λ z m. last q z (Memᴰ.append_cases same m))) in
        cycles-falling (with_cycle (colours_of p) c other same x) xs r.0 r.1
      where
        last : colours_of p x ≡ c → (z : ℕ) → Memᴰ z same ⊎ Memᴰ z (x ∷ []) → c ≤ colours_of p z
        last q z (inl m) = above z m
        last q z (inr m) = omega (arith, ap (colours_of p) (Memᴰ.eq_of_singleton m))

    -- a child of one of the other list is among them, if it is among the cycles
    pub cycles-child : (same xs : List ℕ) (y x : ℕ) → colours_of p x ≡ c → Memᴰ y other → Memᴰ x (children p y) → Alike same x
        → ((k : ℕ) → Memᴰ k xs → colours_of p k ≡ c → (is_cycle p k ≡ true) × (accepting p k ≡ accepting p x)) → Memᴰ x xs → Memᴰ x (with_cycles (colours_of p) c other same xs)
    unfolding with_cycles
    cycles-child same [] y x e k ch alike each m = absurd (Memᴰ.not-nil m)
    cycles-child same (z ∷ xs) y x e k ch alike each m =
        go (Memᴰ.cases_cons m) (λ n. cycles-child (with_cycle (colours_of p) c other same z) xs y x e k ch next (λ j o. each j (Memᴰ.tail o)) n)
      where
        next : Alike (with_cycle (colours_of p) c other same z) x
        next = with_each (λ (l : List ℕ). Alike l x) same z alike (λ q n o. last q n (Memᴰ.append_cases same o))
          where
            last : colours_of p z ≡ c → (n : ℕ) → Memᴰ n same ⊎ Memᴰ n (z ∷ []) → (is_cycle p n ≡ true) × (accepting p n ≡ accepting p x)
            last q n (inl o) = alike n o
            last q n (inr o) = let s = Memᴰ.eq_of_singleton o in each n (Memᴰ.head s) (ap (colours_of p) s ∙ q)

        here : x ≡ z → Memᴰ x (with_cycle (colours_of p) c other same z)
        here q = here_in (with-cycle-cases same z)
          where
            here_in : ((colours_of p z ≡ c) × (with_cycle (colours_of p) c other same z ≡ same ++ (z ∷ []))) ⊎ ((colours_of p z ≡ c → is_wanted (colours_of p) c z other same ≡ false) × (with_cycle (colours_of p) c other same z ≡ same)) → Memᴰ x (with_cycle (colours_of p) c other same z)
            here_in (inl r) = subst (Memᴰ x) (sym r.1) (Memᴰ.append_right same (Memᴰ.head q))
            here_in (inr r) =
                let w : is_wanted (colours_of p) c z other same ≡ false = r.0 (ap (colours_of p) (sym q) ∙ e) in
                subst (Memᴰ x) (sym r.1) (not-wanted x other same y x k ch (inside-refl x) alike (ap₂ (λ (d n : ℕ). is_wanted (colours_of p) d n other same) e q ∙ w))

        go : (x ≡ z) ⊎ Memᴰ x xs → (Memᴰ x xs → Memᴰ x (with_cycles (colours_of p) c other (with_cycle (colours_of p) c other same z) xs)) → Memᴰ x (with_cycles (colours_of p) c other (with_cycle (colours_of p) c other same z) xs)
        go (inl q) ih = cycles-kept (with_cycle (colours_of p) c other same z) xs x (here q)
        go (inr n) ih = ih n
