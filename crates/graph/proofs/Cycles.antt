-- Cycles: the test `is_cycle` and the statement `Cycle` agree; a cycle's edges are joined by paths inside it, and such a set is a cycle;
-- two cycles that share a state are one cycle together; the states that an edge set contains. Assumes nothing.
use Prim.Native.Nat.{ℕ, ◌^◌, ◌<◌}
use mathlib.Core.Path.{◌≡◌, refl, sym, ap, ◌∙◌, subst}
use mathlib.Core.Logic.{◌⊎◌, inl, inr, ◌≢◌, ◌↔◌}
use mathlib.Core.Bool.{true, false, not, ◌&&◌, ◌||◌, true≢false, false≢true}
use mathlib.Core.List.Memᴰ
use mathlib.Core.List.{List, [], ◌∷◌, ◌++◌, Memᴰ}
use lib.Dec.{eqb, ltb}
use lib.Bits.{bit_or, or_lt}
use borrow.Author.Tests.{lt-ltb}
use Rattle.lists.specs.Lists.{all, below}
use Rattle.lists.proofs.Bools.{test, and_l, and_r, both, or_cases, or_left, or_right, eqb≡, ≡eqb, neqb, lt-true, not-true, bool-ext}
use Rattle.lists.proofs.Lists.{any_some, some-any, all-each, each_all, mem_below, below-lt}
use Rattle.masks.specs.Masks.{has, inside, members}
use Rattle.masks.proofs.Bits.{has-none, has-or, mask-ext, inside-all, lt-of-bits}
use Rattle.masks.proofs.Members.{some-nonzero, bit-lt, members-has, members-lt, has-members}
use Rattle.policy.specs.declared.Policy.{Policy}
use Rattle.policy.specs.Policies.{edges, source, target_of}
use Rattle.graph.specs.Cycles.{Path, Cycle, reach, is_cycle, contains}
use Rattle.graph.proofs.Paths.{path_join, path-mem, path-inner, path-weaken, path-after, path-before, reach-sound, reach-complete}

-- each edge leads to a state
abbrev pub Targets : Policy → Type 0
Targets p = (e : ℕ) → e < edges p → target_of p e < p.states

module _ (p : Policy) where
  -- ---- what the test says
  pub cycle-some : (m : ℕ) → is_cycle p m ≡ true → m ≢ 0
  unfolding is_cycle
  cycle-some m t e = true≢false (sym (≡eqb m 0 e) ∙ not-true (eqb m 0) (and_l (not (eqb m 0)) (ltb m (2 ^ edges p)) (and_l (not (eqb m 0) && ltb m (2 ^ edges p)) _ t)))

  pub cycle-lt : (m : ℕ) → is_cycle p m ≡ true → m < 2 ^ edges p
  unfolding is_cycle
  cycle-lt m t = lt-true m (2 ^ edges p) (and_r (not (eqb m 0)) (ltb m (2 ^ edges p)) (and_l (not (eqb m 0) && ltb m (2 ^ edges p)) _ t))

  pub cycle-edge : (m : ℕ) → is_cycle p m ≡ true → (e : ℕ) → has m e ≡ true → e < edges p
  cycle-edge m t e h = bit-lt (edges p) m e (cycle-lt m t) h

  -- the edges of a cycle are joined by paths inside it
  pub cycle-path : (m : ℕ) → is_cycle p m ≡ true → (e f : ℕ) → has m e ≡ true → has m f ≡ true → (w : List ℕ) × Path p (members (edges p) m) (target_of p e) w (source p f)
  unfolding is_cycle
  cycle-path m t e f he hf =
      reach-sound p es (target_of p e) (source p f) (all-each (λ (g : ℕ). has (reach p es (target_of p e)) (source p g)) es
      (all-each (λ (e : ℕ). all (λ (g : ℕ). has (reach p es (target_of p e)) (source p g)) es) es (and_r (not (eqb m 0) && ltb m (2 ^ edges p)) _ t) e (mem e he)) f (mem f hf))
    where
      es : List ℕ
      es = members (edges p) m

      mem : (g : ℕ) → has m g ≡ true → Memᴰ g es
      mem g h = has-members (edges p) m g (cycle-edge m t g h) h

  -- a non-empty set whose edges are so joined is a cycle
  pub path-cycle : Targets p → (m : ℕ) → m ≢ 0 → m < 2 ^ edges p
      → ((e f : ℕ) → has m e ≡ true → has m f ≡ true → (w : List ℕ) × Path p (members (edges p) m) (target_of p e) w (source p f)) → is_cycle p m ≡ true
  unfolding is_cycle
  path-cycle targets m nz l joined =
      both (not (eqb m 0) && ltb m (2 ^ edges p)) _ (both (not (eqb m 0)) _ (ap not (neqb m 0 nz)) (lt-ltb m (2 ^ edges p) l)) (each_all _ es (λ e me. each_all _ es (λ f mf. strong e f me mf)))
    where
      es : List ℕ
      es = members (edges p) m

      lt : (e : ℕ) → Memᴰ e es → target_of p e < p.states
      lt e k = targets e (members-lt (edges p) m e k)

      strong : (e f : ℕ) → Memᴰ e es → Memᴰ f es → has (reach p es (target_of p e)) (source p f) ≡ true
      strong e f me mf = let w = joined e f (members-has (edges p) m e me) (members-has (edges p) m f mf) in reach-complete p es (target_of p e) (lt e me) lt w.0 (source p f) w.1

  -- ---- the test and the statement
  -- a path through all of l
  tour : (es : List ℕ) (z : ℕ) (joined : (e f : ℕ) → Memᴰ e es → Memᴰ f es → (w : List ℕ) × Path p es (target_of p e) w (source p f)) → Memᴰ z es
      → (l : List ℕ) → ((x : ℕ) → Memᴰ x l → Memᴰ x es) → (e : ℕ) → Memᴰ e es
      → (w : List ℕ) × Path p es (target_of p e) w (source p z) × ((x : ℕ) → Memᴰ x l → Memᴰ x w)
  tour es z joined mz [] sub e me = let r = joined e z me mz in (r.0, r.1, λ x m. absurd (Memᴰ.not-nil m))
  tour es z joined mz (f ∷ l) sub e me =
      let mf = sub f (Memᴰ.head refl) in
      let a = joined e f me mf in
      let b = tour es z joined mz l (λ x m. sub x (Memᴰ.tail m)) f mf in
      (a.0 ++ (f ∷ b.0), path_join p es (target_of p e) a.0 (source p f) (f ∷ b.0) (source p z) a.1 (refl, mf, b.1), λ x m. pick x b.0 b.2 a.0 (Memᴰ.cases_cons m))
    where
      pick : (x : ℕ) (w : List ℕ) → ((x : ℕ) → Memᴰ x l → Memᴰ x w) → (a : List ℕ) → (x ≡ f) ⊎ Memᴰ x l → Memᴰ x (a ++ (f ∷ w))
      pick x w h a (inl k) = Memᴰ.append_right a (Memᴰ.head k)
      pick x w h a (inr k) = Memᴰ.append_right a (Memᴰ.tail (h x k))

  pub cycle-sound : (m : ℕ) → is_cycle p m ≡ true → Cycle p m
  cycle-sound m t = go (members (edges p) m) refl
    where
      es : List ℕ
      es = members (edges p) m

      mem : (e : ℕ) → has m e ≡ true → Memᴰ e es
      mem e h = has-members (edges p) m e (cycle-edge m t e h) h

      joined : (e f : ℕ) → Memᴰ e es → Memᴰ f es → (w : List ℕ) × Path p es (target_of p e) w (source p f)
      joined e f me mf = cycle-path m t e f (members-has (edges p) m e me) (members-has (edges p) m f mf)

      none-zero : es ≡ [] → m ≡ 0
      none-zero k = mask-ext m 0 (λ e. off e (test (has m e)))
        where
          off : (e : ℕ) → (has m e ≡ true) ⊎ (has m e ≡ false) → has m e ≡ has 0 e
          off e (inl h) = absurd (Memᴰ.not-nil (subst (λ (l : List ℕ). Memᴰ e l) k (mem e h)))
          off e (inr h) = h ∙ sym (has-none e)

      go : (l : List ℕ) → es ≡ l → Cycle p m
      go [] k = absurd (cycle-some m t (none-zero k))
      go (z ∷ l) k = build (tour es z joined mz l (λ x q. rw k (Memᴰ.tail q)) z mz)
        where
          mz : Memᴰ z es
          mz = rw k (Memᴰ.head refl)

          build : ((w : List ℕ) × Path p es (target_of p z) w (source p z) × ((x : ℕ) → Memᴰ x l → Memᴰ x w)) → Cycle p m
          build r = record {
            first = z;
            rest = r.0;
            closed = path-weaken p es (below (edges p)) (λ e q. mem_below (edges p) e (members-lt (edges p) m e q)) (source p z) (z ∷ r.0) (source p z) (refl, mz, r.1);
            exact = λ e. (λ h. into e (Memᴰ.cases_cons (subst (λ (l : List ℕ). Memᴰ e l) k (mem e h))), λ q. back e (Memᴰ.cases_cons q));
          }
            where
              into : (e : ℕ) → (e ≡ z) ⊎ Memᴰ e l → Memᴰ e (z ∷ r.0)
              into e (inl q) = Memᴰ.head q
              into e (inr q) = Memᴰ.tail (r.2 e q)

              back : (e : ℕ) → (e ≡ z) ⊎ Memᴰ e r.0 → has m e ≡ true
              back e (inl q) = members-has (edges p) m e (Memᴰ.cast q mz)
              back e (inr q) = members-has (edges p) m e (path-mem p es (target_of p z) r.0 (source p z) r.1 e q)

  pub cycle-complete : Targets p → (m : ℕ) → Cycle p m → is_cycle p m ≡ true
  cycle-complete targets m c = path-cycle targets m (some-nonzero m z ((c.exact z).1 (Memᴰ.head refl))) (lt-of-bits (edges p) m lt) joined
    where
      es : List ℕ
      es = members (edges p) m

      z : ℕ
      z = c.first

      lt : (e : ℕ) → has m e ≡ true → e < edges p
      lt e h = below-lt (edges p) e (path-mem p (below (edges p)) (source p z) (z ∷ c.rest) (source p z) c.closed e ((c.exact e).0 h))

      round : Path p es (source p z) (z ∷ c.rest) (source p z)
      round = path-inner p (below (edges p)) es (source p z) (z ∷ c.rest) (source p z) (λ e k. let h = (c.exact e).1 k in has-members (edges p) m e (lt e h) h) c.closed

      joined : (e f : ℕ) → has m e ≡ true → has m f ≡ true → (w : List ℕ) × Path p es (target_of p e) w (source p f)
      joined e f he hf =
          let a = path-after p es (source p z) (z ∷ c.rest) (source p z) round e ((c.exact e).0 he) in
          let b = path-before p es (source p z) (z ∷ c.rest) (source p z) round f ((c.exact f).0 hf) in
          (a.0 ++ b.0, path_join p es (target_of p e) a.0 (source p z) b.0 (source p f) a.1 b.1)

  -- the edges of a closed path are a cycle
  pub closed-cycle : Targets p → (v e₀ : ℕ) (es : List ℕ) → Path p (below (edges p)) v (e₀ ∷ es) v → (X : ℕ) → ((e : ℕ) → (has X e ≡ true) ↔ Memᴰ e (e₀ ∷ es)) → is_cycle p X ≡ true
  closed-cycle targets v e₀ es a X exact = cycle-complete targets X (record { first = e₀; rest = es; closed = subst (λ (u : ℕ). Path p (below (edges p)) u (e₀ ∷ es) u) (sym a.0) a; exact = exact })

  -- ---- the states of an edge set
  pub contains-some : (v m : ℕ) → contains p v m ≡ true → (e : ℕ) × (e < edges p) × (has m e ≡ true) × (source p e ≡ v)
  unfolding contains
  contains-some v m t =
      let r = any_some (λ (e : ℕ). eqb (source p e) v) (members (edges p) m) t in
      (r.0, members-lt (edges p) m r.0 r.1, members-has (edges p) m r.0 r.1, eqb≡ (source p r.0) v r.2)

  pub some-contains : (v m e : ℕ) → e < edges p → has m e ≡ true → source p e ≡ v → contains p v m ≡ true
  unfolding contains
  some-contains v m e l t q = some-any (λ (e : ℕ). eqb (source p e) v) (members (edges p) m) e (has-members (edges p) m e l t) (≡eqb (source p e) v q)

  pub contains-none : (v : ℕ) → contains p v 0 ≡ false
  contains-none v = go (test (contains p v 0))
    where
      go : (contains p v 0 ≡ true) ⊎ (contains p v 0 ≡ false) → contains p v 0 ≡ false
      go (inl t) = let r = contains-some v 0 t in absurd (false≢true (sym (has-none r.0) ∙ r.2))
      go (inr f) = f

  pub contains-or : (v a b : ℕ) → contains p v (bit_or a b) ≡ contains p v a || contains p v b
  contains-or v a b = bool-ext (contains p v (bit_or a b)) (contains p v a || contains p v b) there back
    where
      there : contains p v (bit_or a b) ≡ true → contains p v a || contains p v b ≡ true
      there t = let r = contains-some v (bit_or a b) t in go r (or_cases (has a r.0) (has b r.0) (sym (has-or r.0 a b) ∙ r.2))
        where
          go : (r : (e : ℕ) × (e < edges p) × (has (bit_or a b) e ≡ true) × (source p e ≡ v)) → (has a r.0 ≡ true) ⊎ (has b r.0 ≡ true) → contains p v a || contains p v b ≡ true
          go r (inl h) = or_left (contains p v a) (contains p v b) (some-contains v a r.0 r.1 h r.3)
          go r (inr h) = or_right (contains p v a) (contains p v b) (some-contains v b r.0 r.1 h r.3)

      one : (x : ℕ) → ((e : ℕ) → has x e ≡ true → has a e || has b e ≡ true) → contains p v x ≡ true → contains p v (bit_or a b) ≡ true
      one x up t = let r = contains-some v x t in some-contains v (bit_or a b) r.0 r.1 (has-or r.0 a b ∙ up r.0 r.2) r.3

      back : contains p v a || contains p v b ≡ true → contains p v (bit_or a b) ≡ true
      back t = go (or_cases (contains p v a) (contains p v b) t)
        where
          go : (contains p v a ≡ true) ⊎ (contains p v b ≡ true) → contains p v (bit_or a b) ≡ true
          go (inl h) = one a (λ e k. or_left (has a e) (has b e) k) h
          go (inr h) = one b (λ e k. or_right (has a e) (has b e) k) h

  pub contains-inside : (v a b : ℕ) → inside a b ≡ true → contains p v a ≡ true → contains p v b ≡ true
  contains-inside v a b i t = let r = contains-some v a t in some-contains v b r.0 r.1 (inside-all a b i r.0 r.2) r.3

  -- a cycle contains the target of each of its edges
  pub cycle-target : (m e : ℕ) → is_cycle p m ≡ true → has m e ≡ true → contains p (target_of p e) m ≡ true
  cycle-target m e t h = let w = cycle-path m t e e h h in go w.0 w.1
    where
      go : (w : List ℕ) → Path p (members (edges p) m) (target_of p e) w (source p e) → contains p (target_of p e) m ≡ true
      go [] a = some-contains (target_of p e) m e (cycle-edge m t e h) h (sym a)
      go (f ∷ w) a = some-contains (target_of p e) m f (members-lt (edges p) m f a.1) (members-has (edges p) m f a.1) a.0

  -- two cycles that share a state are one cycle together
  pub union-cycle : Targets p → (a b : ℕ) → is_cycle p a ≡ true → is_cycle p b ≡ true → (v : ℕ) → contains p v a ≡ true → contains p v b ≡ true → is_cycle p (bit_or a b) ≡ true
  union-cycle targets a b ca cb v va vb = path-cycle targets c (some-nonzero c x (in_a x hx)) (or_lt (edges p) a b (cycle-lt a ca) (cycle-lt b cb)) joined
    where
      c : ℕ
      c = bit_or a b

      es : List ℕ
      es = members (edges p) c

      x : ℕ
      x = (contains-some v a va).0

      hx : has a x ≡ true
      hx = (contains-some v a va).2

      y : ℕ
      y = (contains-some v b vb).0

      hy : has b y ≡ true
      hy = (contains-some v b vb).2

      same : source p x ≡ source p y
      same = (contains-some v a va).3 ∙ sym (contains-some v b vb).3

      in_a : (e : ℕ) → has a e ≡ true → has c e ≡ true
      in_a e h = has-or e a b ∙ or_left (has a e) (has b e) h

      in_b : (e : ℕ) → has b e ≡ true → has c e ≡ true
      in_b e h = has-or e a b ∙ or_right (has a e) (has b e) h

      mem_a : (e : ℕ) → has a e ≡ true → Memᴰ e es
      mem_a e h = has-members (edges p) c e (cycle-edge a ca e h) (in_a e h)

      mem_b : (e : ℕ) → has b e ≡ true → Memᴰ e es
      mem_b e h = has-members (edges p) c e (cycle-edge b cb e h) (in_b e h)

      path_a : (e f : ℕ) → has a e ≡ true → has a f ≡ true → (w : List ℕ) × Path p es (target_of p e) w (source p f)
      path_a e f he hf = let w = cycle-path a ca e f he hf in (w.0, path-weaken p (members (edges p) a) es (λ g k. mem_a g (members-has (edges p) a g k)) (target_of p e) w.0 (source p f) w.1)

      path_b : (e f : ℕ) → has b e ≡ true → has b f ≡ true → (w : List ℕ) × Path p es (target_of p e) w (source p f)
      path_b e f he hf = let w = cycle-path b cb e f he hf in (w.0, path-weaken p (members (edges p) b) es (λ g k. mem_b g (members-has (edges p) b g k)) (target_of p e) w.0 (source p f) w.1)

      -- through the shared state: the path to it, an edge from it, and the path on
      over : (u g h w : ℕ) → source p g ≡ source p h → Memᴰ h es → ((l : List ℕ) × Path p es u l (source p g)) → ((l : List ℕ) × Path p es (target_of p h) l w) → (l : List ℕ) × Path p es u l w
      over u g h w k mh r s = (r.0 ++ (h ∷ s.0), path_join p es u r.0 (source p g) (h ∷ s.0) w r.1 (sym k, mh, s.1))

      joined : (e f : ℕ) → has c e ≡ true → has c f ≡ true → (w : List ℕ) × Path p es (target_of p e) w (source p f)
      joined e f he hf = pick (or_cases (has a e) (has b e) (sym (has-or e a b) ∙ he)) (or_cases (has a f) (has b f) (sym (has-or f a b) ∙ hf))
        where
          pick : (has a e ≡ true) ⊎ (has b e ≡ true) → (has a f ≡ true) ⊎ (has b f ≡ true) → (w : List ℕ) × Path p es (target_of p e) w (source p f)
          pick (inl k) (inl l) = path_a e f k l
          pick (inr k) (inr l) = path_b e f k l
          pick (inl k) (inr l) = over (target_of p e) x y (source p f) same (mem_b y hy) (path_a e x k hx) (path_b y f hy l)
          pick (inr k) (inl l) = over (target_of p e) y x (source p f) (sym same) (mem_a x hx) (path_b e y k hy) (path_a x f hx l)
