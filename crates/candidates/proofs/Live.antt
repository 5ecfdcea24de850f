-- What need not be searched. An edge set that is not wanted has no wanted cycle inside it, nor a part of a cycle that is not wanted, and one that lacks a colour of c has no cycle with
-- exactly the colours c; where no listed cycle of the other verdict has all the colours c, nothing is wanted. And the cycles with exactly the colours c are looked for among live
-- edges, which have all cycles with colours in c. Assumes nothing.
use Prim.Native.Nat.{ℕ, ◌<◌}
use native.Mathlib.Omega.{arith}
use native.Mathlib.Decide.{ℕ_discrete}
use mathlib.Core.Path.{◌≡◌, refl, sym, ap, ◌∙◌, subst}
use mathlib.Core.Logic.{◌⊎◌, inl, inr, ◌≢◌}
use mathlib.Core.Bool.{Bool, true, false, not, ◌&&◌, ◌||◌, cond, true≢false, false≢true}
use mathlib.Core.List.{List, [], ◌∷◌, ◌++◌, map, Memᴰ}
use lib.Bits.{bit_and}
use lib.Dec.{eqb}
use lib.ListN.{length, get_or, length-map}
use Rattle.lists.specs.Lists.{any, flat, below}
use Rattle.lists.proofs.Bools.{test, ≡eqb, neqb, and_l, and_r, both, or_left, or_right, or_cases, not-true}
use Rattle.lists.proofs.Lists.{any_some, some-any, below-lt, get_or-mem}
use Rattle.masks.specs.Masks.{has, inside}
use Rattle.masks.proofs.Bits.{has-and, has-none, inside-all, all-inside, inside-refl, inside-trans, inside-antisym, and-within, and-inside, inside-and}
use Rattle.policy.specs.declared.Policy.{Policy}
use Rattle.policy.specs.Policies.{colours_of, legal}
use Rattle.policy.specs.ByColour.{edges_in}
use Rattle.policy.proofs.Laws.{legal-target, colours-up}
use Rattle.policy.proofs.ByColour.{edges-in-colours}
use Rattle.graph.specs.Cycles.{is_cycle}
use Rattle.graph.specs.Through.{cycle_through}
use Rattle.graph.proofs.Cycles.{Targets, contains-inside}
use Rattle.graph.proofs.Through.{through-inside, through-cycle, through-largest, through_same}
use Rattle.graph.proofs.Inside.{contains-lt, cycle-state}
use Rattle.components.specs.Components.{lowest_is, largest_at, largest_in}
use Rattle.components.proofs.Components.{lowest-some, some-lowest, largest-in-mem, mem-largest-in}
use Rattle.candidates.specs.Candidates.{covers, may_hold, are_long, wanted, is_open, is_wanted, with_cycle, with_cycles, with_set, Live}
use Rattle.candidates.proofs.Full.{inside-colours}

-- ---- what is wanted inside an edge set makes it wanted
and-more : (m x y : ℕ) → inside x m ≡ true → inside (bit_and x y) (bit_and m y) ≡ true
and-more m x y i = all-inside (bit_and x y) (bit_and m y) (λ e t. let h = sym (has-and e x y) ∙ t in has-and e m y ∙ both (has m e) (has y e) (inside-all x m i e (and_l (has x e) (has y e) h)) (and_r (has x e) (has y e) h))

held_more : (c d m x : ℕ) (same : List ℕ) (h y : ℕ) → inside x m ≡ true → inside d h ≡ true → may_hold c x same h y ≡ true → may_hold d m same h y ≡ true
unfolding may_hold covers
held_more c d m x same h y i k t =
    both (inside d h && not (eqb (bit_and m y) 0)) (not (any (covers (bit_and m y) y) same)) (both (inside d h) (not (eqb (bit_and m y) 0)) k (ap not (neqb (bit_and m y) 0 some))) (ap not none)
  where
    first : inside c h && not (eqb (bit_and x y) 0) ≡ true
    first = and_l (inside c h && not (eqb (bit_and x y) 0)) (not (any (covers (bit_and x y) y) same)) t

    some : bit_and m y ≢ 0
    some z = true≢false (sym (≡eqb (bit_and x y) 0 (inside-antisym (bit_and x y) 0 (subst (λ (n : ℕ). inside (bit_and x y) n ≡ true) z (and-more m x y i)) (all-inside 0 (bit_and x y) (λ e q. absurd (false≢true (sym (has-none e) ∙ q))))))
        ∙ not-true (eqb (bit_and x y) 0) (and_r (inside c h) (not (eqb (bit_and x y) 0)) first))

    none : any (covers (bit_and m y) y) same ≡ false
    none = go (test (any (covers (bit_and m y) y) same))
      where
        go : (any (covers (bit_and m y) y) same ≡ true) ⊎ (any (covers (bit_and m y) y) same ≡ false) → any (covers (bit_and m y) y) same ≡ false
        go (inr f) = f
        go (inl q) =
            let r = any_some (covers (bit_and m y) y) same q in
            let n = r.0 in
            absurd (true≢false (
            sym (some-any (covers (bit_and x y) y) same n r.1 (both (inside (bit_and x y) n) (inside n y) (inside-trans (bit_and x y) (bit_and m y) n (and-more m x y i) (and_l (inside (bit_and m y) n) (inside n y) r.2)) (and_r (inside (bit_and m y) n) (inside n y) r.2)))
            ∙ not-true (any (covers (bit_and x y) y) same) (and_r (inside c h && not (eqb (bit_and x y) 0)) (not (any (covers (bit_and x y) y) same)) t)
            ))

-- what may hold has all the colours
holding : (c x : ℕ) (same : List ℕ) (h y : ℕ) → may_hold c x same h y ≡ true → inside c h ≡ true
unfolding may_hold
holding c x same h y t = and_l (inside c h) (not (eqb (bit_and x y) 0)) (and_l (inside c h && not (eqb (bit_and x y) 0)) (not (any (covers (bit_and x y) y) same)) t)

wanted-more : (c m x : ℕ) (other hues same : List ℕ) → inside x m ≡ true → wanted c x other hues same ≡ true → wanted c m other hues same ≡ true
unfolding wanted
wanted-more c m x other hues same i t = go (or_cases long (any (λ (j : ℕ). may_hold c x same (get_or hues j 0) (get_or other j 0)) (below (length other))) t)
  where
    long : Bool
    long = are_long (length other) (length same)

    go : (long ≡ true) ⊎ (any (λ (j : ℕ). may_hold c x same (get_or hues j 0) (get_or other j 0)) (below (length other)) ≡ true) → long || any (λ (j : ℕ). may_hold c m same (get_or hues j 0) (get_or other j 0)) (below (length other)) ≡ true
    go (inl l) = or_left long (any (λ (j : ℕ). may_hold c m same (get_or hues j 0) (get_or other j 0)) (below (length other))) l
    go (inr q) =
        let r = any_some (λ (j : ℕ). may_hold c x same (get_or hues j 0) (get_or other j 0)) (below (length other)) q in
        or_right long (any (λ (j : ℕ). may_hold c m same (get_or hues j 0) (get_or other j 0)) (below (length other)))
        (some-any (λ (j : ℕ). may_hold c m same (get_or hues j 0) (get_or other j 0)) (below (length other)) r.0 r.1 (held_more c c m x same (get_or hues r.0 0) (get_or other r.0 0) i (holding c x same (get_or hues r.0 0) (get_or other r.0 0) r.2) r.2))

-- a part of a cycle m that is not wanted for its own colours d is not wanted for c, where every listed cycle of the other verdict with the colours c has those too
pub part-unwanted : (c d m x : ℕ) (other hues same : List ℕ) → inside x m ≡ true → length hues ≡ length other → ((h : ℕ) → Memᴰ h hues → inside c h ≡ true → inside d h ≡ true) → wanted d m other hues same ≡ false → wanted c x other hues same ≡ false
unfolding wanted
part-unwanted c d m x other hues same i e above f = go (test (long || any held (below (length other))))
  where
    long : Bool
    long = are_long (length other) (length same)

    held : ℕ → Bool
    held j = may_hold c x same (get_or hues j 0) (get_or other j 0)

    more : (long ≡ true) ⊎ (any held (below (length other)) ≡ true) → long || any (λ (j : ℕ). may_hold d m same (get_or hues j 0) (get_or other j 0)) (below (length other)) ≡ true
    more (inl t) = or_left long (any (λ (j : ℕ). may_hold d m same (get_or hues j 0) (get_or other j 0)) (below (length other))) t
    more (inr t) =
        let r = any_some held (below (length other)) t in
        let j = r.0 in
        let b = below-lt (length other) j r.1 in
        or_right long (any (λ (j : ℕ). may_hold d m same (get_or hues j 0) (get_or other j 0)) (below (length other)))
        (some-any (λ (j : ℕ). may_hold d m same (get_or hues j 0) (get_or other j 0)) (below (length other)) j r.1
        (held_more c d m x same (get_or hues j 0) (get_or other j 0) i (above (get_or hues j 0) (get_or-mem hues j 0 (omega (arith, e, b))) (holding c x same (get_or hues j 0) (get_or other j 0) r.2)) r.2))

    go : (long || any held (below (length other)) ≡ true) ⊎ (long || any held (below (length other)) ≡ false) → long || any held (below (length other)) ≡ false
    go (inl t) = absurd (true≢false (sym (more (or_cases long (any held (below (length other))) t)) ∙ f))
    go (inr q) = q

-- what is wanted is open
wanted-open : (c x : ℕ) (other hues same : List ℕ) → length hues ≡ length other → wanted c x other hues same ≡ true → is_open c hues (length same) ≡ true
unfolding wanted is_open may_hold
wanted-open c x other hues same e t = go (or_cases (are_long (length other) (length same)) (any held (below (length other))) t)
  where
    held : ℕ → Bool
    held j = may_hold c x same (get_or hues j 0) (get_or other j 0)

    go : (are_long (length other) (length same) ≡ true) ⊎ (any held (below (length other)) ≡ true) → are_long (length hues) (length same) || any (inside c) hues ≡ true
    go (inl l) = or_left (are_long (length hues) (length same)) (any (inside c) hues) (ap (λ (k : ℕ). are_long k (length same)) e ∙ l)
    go (inr q) =
        let r = any_some held (below (length other)) q in
        let i = r.0 in
        let first = and_l (inside c (get_or hues i 0) && not (eqb (bit_and x (get_or other i 0)) 0)) (not (any (covers (bit_and x (get_or other i 0)) (get_or other i 0)) same)) r.2 in
        or_right (are_long (length hues) (length same)) (any (inside c) hues)
        (some-any (inside c) hues (get_or hues i 0) (get_or-mem hues i 0 (omega (arith, e, below-lt (length other) i r.1))) (and_l (inside c (get_or hues i 0)) (not (eqb (bit_and x (get_or other i 0)) 0)) first))

-- where nothing is open for a set, nothing is for one that has all its colours
pub closed-more : (u c : ℕ) (hues : List ℕ) (k : ℕ) → inside u c ≡ true → is_open u hues k ≡ false → is_open c hues k ≡ false
unfolding is_open
closed-more u c hues k i f = go (test (are_long (length hues) k || any (inside c) hues))
  where
    some : any (inside c) hues ≡ true → any (inside u) hues ≡ true
    some t = let r = any_some (inside c) hues t in some-any (inside u) hues r.0 r.1 (inside-trans u c r.0 i r.2)

    more : (are_long (length hues) k ≡ true) ⊎ (any (inside c) hues ≡ true) → are_long (length hues) k || any (inside u) hues ≡ true
    more (inl t) = or_left (are_long (length hues) k) (any (inside u) hues) t
    more (inr t) = or_right (are_long (length hues) k) (any (inside u) hues) (some t)

    go : (are_long (length hues) k || any (inside c) hues ≡ true) ⊎ (are_long (length hues) k || any (inside c) hues ≡ false) → are_long (length hues) k || any (inside c) hues ≡ false
    go (inl t) = absurd (true≢false (sym (more (or_cases (are_long (length hues) k) (any (inside c) hues) t)) ∙ f))
    go (inr q) = q

-- ---- nothing is listed
pub and_none : (b : Bool) → b && false ≡ false
and_none true = refl
and_none false = refl

module _ (hue : ℕ → ℕ) (c : ℕ) (other : List ℕ) where
  pub none-listed : (same xs : List ℕ) → ((x : ℕ) → Memᴰ x xs → eqb (hue x) c && is_wanted hue c x other same ≡ false) → with_cycles hue c other same xs ≡ same
  unfolding with_cycles with_cycle
  none-listed same [] h = refl
  none-listed same (x ∷ xs) h =
      ap (λ (b : Bool). with_cycles hue c other (cond b (same ++ (x ∷ [])) same) xs) (h x (Memᴰ.head refl)) ∙ none-listed same xs (λ y k. h y (Memᴰ.tail k))

  -- of cycles inside an edge set that is not wanted
  pub unwanted-none : (m : ℕ) (same xs : List ℕ) → is_wanted hue c m other same ≡ false → ((x : ℕ) → Memᴰ x xs → inside x m ≡ true) → with_cycles hue c other same xs ≡ same
  unfolding is_wanted
  unwanted-none m same xs w within = none-listed same xs (λ x k. go x k (test (wanted c x other (map hue other) same)))
    where
      go : (x : ℕ) → Memᴰ x xs → (wanted c x other (map hue other) same ≡ true) ⊎ (wanted c x other (map hue other) same ≡ false) → eqb (hue x) c && wanted c x other (map hue other) same ≡ false
      go x k (inl t) = absurd (true≢false (sym (wanted-more c m x other (map hue other) same (within x k) t) ∙ w))
      go x k (inr f) = ap (λ (b : Bool). eqb (hue x) c && b) f ∙ and_none (eqb (hue x) c)

  -- where nothing is open
  pub closed_none : (same xs : List ℕ) → is_open c (map hue other) (length same) ≡ false → with_cycles hue c other same xs ≡ same
  unfolding is_wanted
  closed_none same xs w = none-listed same xs (λ x k. go x (test (wanted c x other (map hue other) same)))
    where
      go : (x : ℕ) → (wanted c x other (map hue other) same ≡ true) ⊎ (wanted c x other (map hue other) same ≡ false) → eqb (hue x) c && wanted c x other (map hue other) same ≡ false
      go x (inl t) = absurd (true≢false (sym (wanted-open c x other (map hue other) same (length-map other hue) t) ∙ w))
      go x (inr f) = ap (λ (b : Bool). eqb (hue x) c && b) f ∙ and_none (eqb (hue x) c)

  -- of cycles with other colours
  pub coloured-none : (same xs : List ℕ) → ((x : ℕ) → Memᴰ x xs → hue x ≢ c) → with_cycles hue c other same xs ≡ same
  coloured-none same xs h = none-listed same xs (λ x k. ap (λ (b : Bool). b && is_wanted hue c x other same) (neqb (hue x) c (h x k)))

-- ---- lists of lists
module _ (hue : ℕ → ℕ) (c : ℕ) (other : List ℕ) where
  cycles-append : (same xs ys : List ℕ) → with_cycles hue c other same (xs ++ ys) ≡ with_cycles hue c other (with_cycles hue c other same xs) ys
  unfolding with_cycles
  cycles-append same [] ys = refl
  cycles-append same (x ∷ xs) ys = cycles-append (with_cycle hue c other same x) xs ys

  each_same : (f g : ℕ → List ℕ) (vs : List ℕ) → ((v : ℕ) → Memᴰ v vs → (same : List ℕ) → with_cycles hue c other same (f v) ≡ with_cycles hue c other same (g v))
      → (same : List ℕ) → with_cycles hue c other same (flat (map f vs)) ≡ with_cycles hue c other same (flat (map g vs))
  each_same f g [] h same = refl
  each_same f g (v ∷ vs) h same =
      cycles-append same (f v) (flat (map f vs)) ∙ ap (λ (l : List ℕ). with_cycles hue c other l (flat (map f vs))) (h v (Memᴰ.head refl) same)
      ∙ each_same f g vs (λ w k. h w (Memᴰ.tail k)) (with_cycles hue c other same (g v)) ∙ sym (cycles-append same (g v) (flat (map g vs)))

module _ (p : Policy) (lawful : legal p ≡ true) where
  targets : Targets p
  targets e l = legal-target p lawful e l

  -- one of the largest lies inside the edge set, and each cycle inside it in one of them
  pub largest-within : (m x : ℕ) → Memᴰ x (largest_in p m) → inside x m ≡ true
  largest-within m x k = let s = largest-in-mem p m x k in subst (λ (z : ℕ). inside z m ≡ true) (sym s.2) (through-inside p m s.0)

  pub largest-cycle : (m x : ℕ) → Memᴰ x (largest_in p m) → is_cycle p x ≡ true
  largest-cycle m x k =
      let s = largest-in-mem p m x k in
      ap (is_cycle p) s.2 ∙ (through-cycle p targets m s.0 s.1 (λ z. (lowest-some p s.0 x s.3).0 (s.2 ∙ z))).0

  pub in-largest : (m x : ℕ) → is_cycle p x ≡ true → inside x m ≡ true → (y : ℕ) × Memᴰ y (largest_in p m) × (inside x y ≡ true)
  in-largest m x cy i =
      let s = cycle-state p lawful x cy in
      let y = cycle_through p m s.0 in
      let up = through-largest p targets m s.0 s.1 x cy i s.2 in
      let r = some-lowest p s.0 y (contains-inside p s.0 x y up s.2) in
      (y, mem-largest-in p m r.0 y (contains-lt p lawful r.0 y r.1) (sym (through_same p targets m s.0 r.0 s.1 r.1)) r.2, up)

  -- ---- live edges
  pub live-root : (r c : ℕ) → Live p r c r
  live-root r c = record { within = inside-refl r; cycles = λ x cy i k. i }

  -- those of a larger colour set do, and those of two sets have them in common
  pub live-less : (r d c l : ℕ) → inside c d ≡ true → Live p r d l → Live p r c l
  live-less r d c l i v = record { within = v.within; cycles = λ x cy k q. v.cycles x cy k (inside-trans (colours_of p x) c d q i) }

  pub live_both : (r c l m : ℕ) → Live p r c l → Live p r c m → Live p r c (bit_and l m)
  live_both r c l m v w = record {
    within = inside-trans (bit_and l m) l r (and-within l m) v.within;
    cycles = λ x cy k q. inside-and x l m (v.cycles x cy k q) (w.cycles x cy k q);
  }

  -- and so have the edges with these colours
  pub live-coloured : (r c l : ℕ) → Live p r c l → Live p r c (bit_and (edges_in p c) l)
  live-coloured r c l v = record {
    within = inside-trans (bit_and (edges_in p c) l) l r (and-inside (edges_in p c) l) v.within;
    cycles = λ x cy k q. inside-and x (edges_in p c) l (inside-colours p lawful x c cy q) (v.cycles x cy k q);
  }

  -- and those of them that are on cycles
  pub live-found : (r c m e : ℕ) → Live p r c m → inside e m ≡ true → ((x : ℕ) → is_cycle p x ≡ true → inside x m ≡ true → inside x e ≡ true) → Live p r c e
  live-found r c m e v i h = record { within = inside-trans e m r i v.within; cycles = λ x cy k q. h x cy (v.cycles x cy k q) }

  -- no cycle has exactly these colours
  pub absent-in : (r c l x : ℕ) → Live p r c l → inside x c ≡ true → inside x (colours_of p l) ≡ false → (y : ℕ) → is_cycle p y ≡ true → inside y r ≡ true → colours_of p y ≢ x
  absent-in r c l x v i f y cy k e =
      true≢false (sym (subst (λ (d : ℕ). inside d (colours_of p l) ≡ true) e (colours-up p y l (v.cycles y cy k (subst (λ (d : ℕ). inside d c ≡ true) (sym e) i)))) ∙ f)

  pub absent_none : (r c : ℕ) (other same : List ℕ) → ((y : ℕ) → is_cycle p y ≡ true → inside y r ≡ true → colours_of p y ≢ c) → with_set p r c other same ≡ same
  unfolding with_set
  absent_none r c other same h =
      let m = bit_and (edges_in p c) r in
      coloured-none (colours_of p) c other same (largest_in p m) (λ y k. h y (largest-cycle m y k) (inside-trans y m r (largest-within m y k) (and-inside (edges_in p c) r)))

  -- the largest cycles among them with exactly the colours c are those inside the root
  module _ (r c m : ℕ) (v : Live p r c m) (em : inside m (edges_in p c) ≡ true) (other : List ℕ) where
    abbrev all_edges : ℕ
    all_edges = bit_and (edges_in p c) r

    smaller : inside m all_edges ≡ true
    smaller = inside-and m (edges_in p c) r em v.within

    exact : (x : ℕ) → is_cycle p x ≡ true → inside x all_edges ≡ true → colours_of p x ≡ c → inside x m ≡ true
    exact x cy i e = v.cycles x cy (inside-trans x all_edges r i (and-inside (edges_in p c) r)) (subst (λ (d : ℕ). inside d c ≡ true) (sym e) (inside-refl c))

    fewer : (x : ℕ) → inside x all_edges ≡ true → inside (colours_of p x) c ≡ true
    fewer x i =
        inside-trans (colours_of p x) (colours_of p (edges_in p c)) c (colours-up p x (edges_in p c) (inside-trans x all_edges (edges_in p c) i (and-within (edges_in p c) r))) (edges-in-colours p c)

    module _ (w : ℕ) (b : w < p.states) where
      abbrev x : ℕ
      x = cycle_through p m w

      abbrev y : ℕ
      y = cycle_through p all_edges w

      at_most : inside x y ≡ true
      at_most = go (ℕ_discrete x 0)
        where
          go : Dec (x ≡ 0) → inside x y ≡ true
          go (yes z) = all-inside x y (λ e t. absurd (false≢true (sym (has-none e) ∙ ap (λ (q : ℕ). has q e) (sym z) ∙ t)))
          go (no nz) =
              let q = through-cycle p targets m w b nz in
              through-largest p targets all_edges w b x q.0 (inside-trans x m all_edges (through-inside p m w) smaller) q.1

      -- either the cycles through the state are the same, or neither has these colours
      one_state : (same : List ℕ) → with_cycles (colours_of p) c other same (largest_at p m w) ≡ with_cycles (colours_of p) c other same (largest_at p all_edges w)
      unfolding largest_at
      one_state same = go (ℕ_discrete y 0) (ℕ_discrete (colours_of p y) c)
        where
          listed : ℕ → List ℕ
          listed z = cond (lowest_is p w z) (z ∷ []) []

          none : (z : ℕ) → colours_of p z ≢ c → with_cycles (colours_of p) c other same (listed z) ≡ same
          none z ne = coloured-none (colours_of p) c other same (listed z) (λ u k e. ne (ap (colours_of p) (sym (only (lowest_is p w z) k)) ∙ e))
            where
              only : (d : Bool) {u : ℕ} → Memᴰ u (cond d (z ∷ []) []) → u ≡ z
              only false {u = u} x'' = elim x'' [ ]
              only true {u = u} (mathlib.Core.List.Memᴰ.tail x7) = elim x7 [ ]
              only true (Memᴰ.head e) = e

          equal : x ≡ y → with_cycles (colours_of p) c other same (listed x) ≡ with_cycles (colours_of p) c other same (listed y)
          equal e = ap (λ (z : ℕ). with_cycles (colours_of p) c other same (listed z)) e

          go : Dec (y ≡ 0) → Dec (colours_of p y ≡ c) → with_cycles (colours_of p) c other same (listed x) ≡ with_cycles (colours_of p) c other same (listed y)
          go (yes z) d = equal (inside-antisym x y at_most (all-inside y x (λ e t. absurd (false≢true (sym (has-none e) ∙ ap (λ (q : ℕ). has q e) (sym z) ∙ t)))))
          go (no nz) (yes e) =
              let q = through-cycle p targets all_edges w b nz in
              equal (inside-antisym x y at_most (through-largest p targets m w b y q.0 (exact y q.0 (through-inside p all_edges w) e) q.1))
          go (no nz) (no ne) =
              none x (λ e. ne (inside-antisym (colours_of p y) c (fewer y (through-inside p all_edges w)) (subst (λ (d : ℕ). inside d (colours_of p y) ≡ true) e (colours-up p x y at_most))))
              ∙ sym (none y ne)

    pub live-exact : (same : List ℕ) → with_cycles (colours_of p) c other same (largest_in p m) ≡ with_cycles (colours_of p) c other same (largest_in p all_edges)
    unfolding largest_in
    live-exact same = each_same (colours_of p) c other (largest_at p m) (largest_at p all_edges) (below p.states) (λ w k. one_state w (below-lt p.states w k)) same
