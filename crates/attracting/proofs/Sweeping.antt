-- A state that a visit adds is attracted; a sweep that adds none shows that nothing can be added. Assumes nothing.
use Prim.Native.Nat.{ℕ, suc, ◌+◌, ◌*◌, ◌≤◌, ◌<◌}
use native.Mathlib.Omega.{arith}
use native.Mathlib.Decide.{ℕ_discrete}
use mathlib.Core.Path.{◌≡◌, refl, sym, ap, ◌∙◌, subst}
use mathlib.Core.Logic.{◌⊎◌, inl, inr, ◌≢◌}
use mathlib.Core.Bool.{Bool, true, false, not, ◌&&◌, ◌||◌, cond, not-not, or_comm, true≢false, false≢true}
use mathlib.Core.List.{List}
use lib.Dec.{eqb, ltb, leb}
use lib.ListN.{length, get_or, set, length-set}
use lib.Seq.{get_or-set_same, get_or-set_other}
use borrow.Author.Tests.{lt-ltb, le-leb}
use Rattle.lists.proofs.Bools.{test, eqb≡, ≡eqb, neqb, and_l, and_r, both, and-absent, or_cases, or_left, or_right, or-none, not_itself, lt-true, lt-false, le-true}
use Rattle.games.specs.Games.{Game}
use Rattle.games.proofs.Sets.{put, put-at, put-else}
use Rattle.games.proofs.Regions.{Row}
use Rattle.games.proofs.Attract.{Complete, Addable, by_choice, by_force, letter_of, added, attracted-same}
use Rattle.orders.specs.Orders.{Among, Lists, Rearranged, Kept}
use Rattle.orders.proofs.Orders.{same-order, order-of-order, wider-order, inside-moved, in-front, Parted, parted-more, front-more, others-more}
use Rattle.attracting.specs.declared.Task.{Task}
use Rattle.attracting.specs.Attracting.{is_in, Apart, waiting, owns, Rows, table_game, opens_at, nears_at, StuckAt, AddableAt, chosen, forced, Visited, arena_of, from_of, hit_of, set_of, Attracting, Swept, Attracts}
use Rattle.attracting.proofs.Outcome.{to-waits}

pub owns-true : (plant : Bool) (o : ℕ) → owns plant o ≡ true → eqb o 1 ≡ plant
unfolding owns
owns-true plant o e = go (eqb o 1) plant e
  where
    go : (x y : Bool) → (x && y) || (not x && not y) ≡ true → x ≡ y
    go true true e = refl
    go true false e = absurd (false≢true e)
    go false true e = absurd (false≢true e)
    go false false e = refl

pub owns-false : (plant : Bool) (o : ℕ) → owns plant o ≡ false → eqb o 1 ≡ not plant
unfolding owns
owns-false plant o e = go (eqb o 1) plant e
  where
    go : (x y : Bool) → (x && y) || (not x && not y) ≡ false → x ≡ not y
    go true true e = absurd (true≢false e)
    go true false e = refl
    go false true e = refl
    go false false e = absurd (true≢false e)

pub is-owns : (plant : Bool) (o : ℕ) → eqb o 1 ≡ plant → owns plant o ≡ true
is-owns plant o e = go (test (owns plant o))
  where
    go : (owns plant o ≡ true) ⊎ (owns plant o ≡ false) → owns plant o ≡ true
    go (inl t) = t
    go (inr f) = absurd (not_itself plant (sym e ∙ owns-false plant o f))

pub not-owns : (plant : Bool) (o : ℕ) → eqb o 1 ≡ not plant → owns plant o ≡ false
not-owns plant o e = go (test (owns plant o))
  where
    go : (owns plant o ≡ true) ⊎ (owns plant o ≡ false) → owns plant o ≡ false
    go (inl t) = absurd (not_itself plant (sym (owns-true plant o t) ∙ e))
    go (inr f) = f

module _ (owners sources targets priorities : List ℕ) (letters states : ℕ) (k : Task) where
  -- t waits, and cannot be attracted yet
  abbrev pub Stays : List ℕ → ℕ → Type 0
  Stays l t = (waiting k (get_or l t 0) ≡ true) × StuckAt owners sources targets priorities letters states k l t

  -- the states before place i of the order were visited: those before w still wait, the others do not
  pub record Sweeping (n : ℕ) (o m c : List ℕ) (w i : ℕ) (o' m' c' : List ℕ) : Type 0 where
    pub parted : Parted n o o' w i
    pub marks_long : length m' ≡ length m
    pub choices_long : length c' ≡ length c
    pub keeps : (m₀ c₀ : List ℕ) → Attracting owners sources targets priorities letters states k m₀ c₀ m c → Attracting owners sources targets priorities letters states k m₀ c₀ m' c'
    pub gone : (h : ℕ) → w ≤ h → h < i → waiting k (get_or m' (get_or o' h 0) 0) ≡ false
    pub same : w ≡ i → (m' ≡ m) × (c' ≡ c) × ((h : ℕ) → h < i → Stays m (get_or o' h 0))

  -- sweeps from the marks m₀ and the letters c₀ on, with the first n₀ states of the order o₀ waiting: n of them still wait, at the latest when no sweep is wanted again
  module _ (m₀ c₀ : List ℕ) (n₀ : ℕ) (o₀ : List ℕ) where
    pub record Attraction (n : ℕ) (o m c : List ℕ) (again : Bool) : Type 0 where
      pub so_far : Attracting owners sources targets priorities letters states k m₀ c₀ m c
      pub few : n ≤ n₀
      pub long : n₀ ≤ length o₀
      pub moved : Rearranged n₀ o₀ o
      pub inside : (i : ℕ) → i < n → get_or o i 0 < states
      pub all : (s : ℕ) → from_of owners sources targets priorities letters states k m s ≡ true → Among o n s
      pub done : again ≡ false → Attracts owners sources targets priorities letters states k m₀ c₀ m c × ((i : ℕ) → i < n → waiting k (get_or m (get_or o i 0) 0) ≡ true)

module _ (owners sources targets priorities : List ℕ) (letters states : ℕ) (k : Task) (rows : Rows owners sources targets priorities letters states)
    (apart : Apart k) where
  abbrev G : Game
  G = table_game owners sources targets priorities letters states

  abbrev target : ℕ → ℕ → ℕ
  target s a = get_or targets (s * letters + a) 0

  abbrev opening : List ℕ → ℕ → ℕ → Bool
  opening = opens_at owners sources targets priorities letters states k

  abbrev nearing : List ℕ → ℕ → ℕ → Bool
  nearing = nears_at owners sources targets priorities letters states k

  waiting-in : (m : ℕ) → waiting k m ≡ true → is_in k m ≡ true
  waiting-in m e = go (or_cases (eqb m k.live) (eqb m k.also) e)
    where
      go : (eqb m k.live ≡ true) ⊎ (eqb m k.also ≡ true) → is_in k m ≡ true
      go (inl t) = le-leb k.floor m (omega (arith, eqb≡ m k.live t, apart.live_in))
      go (inr t) = le-leb k.floor m (omega (arith, eqb≡ m k.also t, apart.also_in))

  to_in : (m : ℕ) → m ≡ k.to → is_in k m ≡ true
  to_in m e = le-leb k.floor m (omega (arith, apart.to_in))

  waiting-not : (m : ℕ) → waiting k m ≡ true → m ≢ k.to
  waiting-not m e q = go (or_cases (eqb m k.live) (eqb m k.also) e)
    where
      go : (eqb m k.live ≡ true) ⊎ (eqb m k.also ≡ true) → ⊥
      go (inl t) = apart.not_live (sym q ∙ eqb≡ m k.live t)
      go (inr t) = apart.not_also (sym q ∙ eqb≡ m k.also t)

  choices-kept : (m : List ℕ) (s : ℕ) (c c' : List ℕ) → AddableAt owners sources targets priorities letters states k m s c c' → length c' ≡ length c
  choices-kept m s c c' (chosen o a l op ne e) = ap length e ∙ length-set c s a
  choices-kept m s c c' (forced o f e) = ap length e

  -- ---- the marks as they are, and as they were
  module _ (m₀ c₀ m c : List ℕ) (x : Attracting owners sources targets priorities letters states k m₀ c₀ m c) where
    abbrev arena : ℕ → Bool
    arena = arena_of owners sources targets priorities letters states k m₀

    abbrev from : ℕ → Bool
    from = from_of owners sources targets priorities letters states k m₀

    abbrev hits : ℕ → ℕ → Bool
    hits = hit_of owners sources targets priorities letters states k m₀

    abbrev now-in : ℕ → Bool
    now-in = set_of owners sources targets priorities letters states k m₀ m

    in-forth : (t : ℕ) → is_in k (get_or m₀ t 0) ≡ true → is_in k (get_or m t 0) ≡ true
    in-forth t e = go (x.each t)
      where
        go : (get_or m t 0 ≡ get_or m₀ t 0) ⊎ ((from t ≡ true) × (get_or m t 0 ≡ k.to)) → is_in k (get_or m t 0) ≡ true
        go (inl q) = ap (is_in k) q ∙ e
        go (inr q) = to_in (get_or m t 0) q.1

    in-back : (t : ℕ) → is_in k (get_or m t 0) ≡ true → is_in k (get_or m₀ t 0) ≡ true
    in-back t e = go (x.each t)
      where
        go : (get_or m t 0 ≡ get_or m₀ t 0) ⊎ ((from t ≡ true) × (get_or m t 0 ≡ k.to)) → is_in k (get_or m₀ t 0) ≡ true
        go (inl q) = ap (is_in k) (sym q) ∙ e
        go (inr q) = waiting-in (get_or m₀ t 0) (and_r (ltb t states) (waiting k (get_or m₀ t 0)) q.0)

    row_opens : (s a : ℕ) → Row G k.level arena s a → opening m s a ≡ true
    row_opens s a r =
        both (leb k.level (get_or priorities (s * letters + a) 0)) (is_in k (get_or m (target s a) 0)) (le-leb k.level (get_or priorities (s * letters + a) 0) r.above)
        (in-forth (target s a) (and_r (ltb (target s a) states) (is_in k (get_or m₀ (target s a) 0)) r.within))

    opens_row : (s a : ℕ) → s < states → a < letters → opening m s a ≡ true → Row G k.level arena s a
    opens_row s a h l e = record {
      letter = l;
      within = both (ltb (target s a) states) (is_in k (get_or m₀ (target s a) 0)) (lt-ltb (target s a) states (rows.targets_few s a h l))
          (in-back (target s a) (and_r (leb k.level (get_or priorities (s * letters + a) 0)) (is_in k (get_or m (target s a) 0)) e));
      above = le-true k.level (get_or priorities (s * letters + a) 0) (and_l (leb k.level (get_or priorities (s * letters + a) 0)) (is_in k (get_or m (target s a) 0)) e);
    }

    near-cases : (s a : ℕ) → nearing m s a ≡ true → (hits s a ≡ true) ⊎ (now-in (target s a) ≡ true)
    near-cases s a e = go (or_cases (eqb (get_or m (target s a) 0) k.to) (k.rows && eqb (get_or priorities (s * letters + a) 0) k.level) e) (x.each (target s a))
      where
        go : (eqb (get_or m (target s a) 0) k.to ≡ true) ⊎ (k.rows && eqb (get_or priorities (s * letters + a) 0) k.level ≡ true)
            → (get_or m (target s a) 0 ≡ get_or m₀ (target s a) 0) ⊎ ((from (target s a) ≡ true) × (get_or m (target s a) 0 ≡ k.to)) → (hits s a ≡ true) ⊎ (now-in (target s a) ≡ true)
        go (inl t) (inl q) =
            inl (or_left (eqb (get_or m₀ (target s a) 0) k.to) (k.rows && eqb (get_or priorities (s * letters + a) 0) k.level) (subst (λ (z : ℕ). eqb z k.to ≡ true) q t))
        go (inl t) (inr q) = inr (both (from (target s a)) (eqb (get_or m (target s a) 0) k.to) q.0 t)
        go (inr t) q = inl (or_right (eqb (get_or m₀ (target s a) 0) k.to) (k.rows && eqb (get_or priorities (s * letters + a) 0) k.level) t)

    far-both : (s a : ℕ) → nearing m s a ≡ false → (hits s a ≡ false) × (now-in (target s a) ≡ false)
    far-both s a e = (go (test (eqb (get_or m₀ (target s a) 0) k.to)) (x.each (target s a)), and-absent (from (target s a)) (eqb (get_or m (target s a) 0) k.to) f.0)
      where
        f : (eqb (get_or m (target s a) 0) k.to ≡ false) × (k.rows && eqb (get_or priorities (s * letters + a) 0) k.level ≡ false)
        f =
            let near = eqb (get_or m (target s a) 0) k.to in
            let low = k.rows && eqb (get_or priorities (s * letters + a) 0) k.level in
            (or-none near low e, or-none low near (or_comm low near ∙ e))

        go : (eqb (get_or m₀ (target s a) 0) k.to ≡ true) ⊎ (eqb (get_or m₀ (target s a) 0) k.to ≡ false)
            → (get_or m (target s a) 0 ≡ get_or m₀ (target s a) 0) ⊎ ((from (target s a) ≡ true) × (get_or m (target s a) 0 ≡ k.to)) → hits s a ≡ false
        go (inl t) (inl q) = absurd (true≢false (sym t ∙ subst (λ (z : ℕ). eqb z k.to ≡ false) q f.0))
        go (inl t) (inr q) = absurd (true≢false (sym (≡eqb (get_or m (target s a) 0) k.to q.1) ∙ f.0))
        go (inr n) q = rw (n, f.1)

    -- a state that still waits
    waits-from : (s : ℕ) → s < states → waiting k (get_or m s 0) ≡ true → from s ≡ true
    waits-from s h e = go (x.each s)
      where
        go : (get_or m s 0 ≡ get_or m₀ s 0) ⊎ ((from s ≡ true) × (get_or m s 0 ≡ k.to)) → from s ≡ true
        go (inl q) = both (ltb s states) (waiting k (get_or m₀ s 0)) (lt-ltb s states h) (ap (waiting k) (sym q) ∙ e)
        go (inr q) = q.0

    waits-out : (s : ℕ) → waiting k (get_or m s 0) ≡ true → now-in s ≡ false
    waits-out s e = and-absent (from s) (eqb (get_or m s 0) k.to) (neqb (get_or m s 0) k.to (waiting-not (get_or m s 0) e))

    -- ---- one state more
    addable : (s : ℕ) (c' : List ℕ) → s < states → AddableAt owners sources targets priorities letters states k m s c c'
        → Addable G k.plant k.level arena from hits now-in s
    addable s c' h (chosen o a l op ne e) = by_choice (owns-true k.plant (get_or owners (get_or sources s 0) 0) o) a (opens_row s a h l op) (near-cases s a ne)
    addable s c' h (forced o f e) = by_force (owns-false k.plant (get_or owners (get_or sources s 0) 0) o) (λ a r. near-cases s a (f a r.letter (row_opens s a r)))

    module _ (s : ℕ) (c' : List ℕ) (h : s < states) (marks_long : states ≤ length m) (choices_long : states ≤ length c) (w : waiting k (get_or m s 0) ≡ true)
        (y : AddableAt owners sources targets priorities letters states k m s c c') where
      abbrev m' : List ℕ
      m' = set m s k.to

      abbrev then-in : ℕ → Bool
      then-in = set_of owners sources targets priorities letters states k m₀ m'

      here : get_or m' s 0 ≡ k.to
      here = get_or-set_same m s k.to 0 (omega arith)

      then-here : then-in s ≡ true
      then-here = both (from s) (eqb (get_or m' s 0) k.to) (waits-from s h w) (≡eqb (get_or m' s 0) k.to here)

      then-else : (t : ℕ) → t ≢ s → then-in t ≡ now-in t
      then-else t n = ap (λ (z : ℕ). from t && eqb z k.to) (get_or-set_other m s t k.to 0 n)

      choice-else : (z : AddableAt owners sources targets priorities letters states k m s c c') (t : ℕ) → t ≢ s → get_or c' t 0 ≡ get_or c t 0
      choice-else (chosen o a l op ne e) t n = ap (λ (l : List ℕ). get_or l t 0) e ∙ get_or-set_other c s t a 0 n
      choice-else (forced o f e) t n = ap (λ (l : List ℕ). get_or l t 0) e

      choice-here : (z : AddableAt owners sources targets priorities letters states k m s c c') → G.owner s ≡ k.plant → letter_of G k.plant k.level arena from hits now-in s (addable s c' h z) ≡ get_or c' s 0
      unfolding letter_of addable
      choice-here (chosen o a l op ne e) q = sym (ap (λ (l : List ℕ). get_or l s 0) e ∙ get_or-set_same c s a 0 (omega arith))
      choice-here (forced o f e) q = absurd (not_itself k.plant (sym q ∙ owns-false k.plant (get_or owners (get_or sources s 0) 0) o))

      pub attracting-more : Attracting owners sources targets priorities letters states k m₀ c₀ m' c'
      attracting-more = record {
        marks_long = length-set m s k.to ∙ x.marks_long;
        choices_long = choices-kept m s c c' y ∙ x.choices_long;
        each = λ t. each t (ℕ_discrete t s);
        kept = λ t e. kept t e (ℕ_discrete t s);
        attracted = attracted-same G k.plant k.level arena from hits (put now-in s true) then-in (put (λ s. get_or c s 0) s (letter_of G k.plant k.level arena from hits now-in s (addable s c' h y))) (λ s. get_or c' s 0)
            (λ t. same t (ℕ_discrete t s)) (λ t e o. letters-same t o (ℕ_discrete t s))
            (added G k.plant k.level arena from hits now-in (λ s. get_or c s 0) x.attracted s (waits-from s h w) (waits-out s w) (addable s c' h y));
      }
        where
          each : (t : ℕ) → Dec (t ≡ s) → (get_or m' t 0 ≡ get_or m₀ t 0) ⊎ ((from t ≡ true) × (get_or m' t 0 ≡ k.to))
          each t (yes q) = inr (ap from q ∙ waits-from s h w, ap (λ (z : ℕ). get_or m' z 0) q ∙ here)
          each t (no n) = go (x.each t)
            where
              go : (get_or m t 0 ≡ get_or m₀ t 0) ⊎ ((from t ≡ true) × (get_or m t 0 ≡ k.to)) → (get_or m' t 0 ≡ get_or m₀ t 0) ⊎ ((from t ≡ true) × (get_or m' t 0 ≡ k.to))
              go (inl q) = inl (get_or-set_other m s t k.to 0 n ∙ q)
              go (inr q) = inr (q.0, get_or-set_other m s t k.to 0 n ∙ q.1)

          kept : (t : ℕ) → then-in t ≡ false → Dec (t ≡ s) → get_or c' t 0 ≡ get_or c₀ t 0
          kept t e (yes q) = absurd (true≢false (sym then-here ∙ ap then-in (sym q) ∙ e))
          kept t e (no n) = choice-else y t n ∙ x.kept t (sym (then-else t n) ∙ e)

          same : (t : ℕ) → Dec (t ≡ s) → put now-in s true t ≡ then-in t
          same t (yes q) = put-at now-in s true t q ∙ sym (ap then-in q ∙ then-here)
          same t (no n) = put-else now-in s true t n ∙ sym (then-else t n)

          letters-same : (t : ℕ) → G.owner t ≡ k.plant → Dec (t ≡ s)
              → put (λ s. get_or c s 0) s (letter_of G k.plant k.level arena from hits now-in s (addable s c' h y)) t ≡ get_or c' t 0
          letters-same t o (yes q) =
              put-at (λ s. get_or c s 0) s (letter_of G k.plant k.level arena from hits now-in s (addable s c' h y)) t q ∙ choice-here y (ap G.owner (sym q) ∙ o) ∙ ap (λ (z : ℕ). get_or c' z 0) (sym q)
          letters-same t o (no n) =
              put-else (λ s. get_or c s 0) s (letter_of G k.plant k.level arena from hits now-in s (addable s c' h y)) t n ∙ sym (choice-else y t n)

    -- ---- nothing can be added
    pub complete-of : ((t : ℕ) → t < states → waiting k (get_or m t 0) ≡ true → StuckAt owners sources targets priorities letters states k m t)
        → Complete G k.plant k.level arena from hits now-in
    complete-of stuck = record {
      own = λ s a f e o r. far-both s a ((stuck s (is_state s f) (waits s f e)).own (is-owns k.plant (get_or owners (get_or sources s 0) 0) o) a r.letter (row_opens s a r));
      other = λ s f e o. let q = (stuck s (is_state s f) (waits s f e)).other (not-owns k.plant (get_or owners (get_or sources s 0) 0) o) in let z = far-both s q.0 q.3 in (q.0, opens_row s q.0 (is_state s f) q.1 q.2, z.0, z.1);
    }
      where
        is_state : (s : ℕ) → from s ≡ true → s < states
        is_state s f = lt-true s states (and_l (ltb s states) (waiting k (get_or m₀ s 0)) f)

        waits : (s : ℕ) → from s ≡ true → now-in s ≡ false → waiting k (get_or m s 0) ≡ true
        waits s f e = go (x.each s)
          where
            go : (get_or m s 0 ≡ get_or m₀ s 0) ⊎ ((from s ≡ true) × (get_or m s 0 ≡ k.to)) → waiting k (get_or m s 0) ≡ true
            go (inl q) = ap (waiting k) q ∙ and_r (ltb s states) (waiting k (get_or m₀ s 0)) f
            go (inr q) = absurd (true≢false (sym (both (from s) (eqb (get_or m s 0) k.to) f (≡eqb (get_or m s 0) k.to q.1)) ∙ e))

  -- ---- at first
  pub attracting-none : (m₀ c₀ : List ℕ) → Attracting owners sources targets priorities letters states k m₀ c₀ m₀ c₀
  attracting-none m₀ c₀ = record {
    marks_long = refl;
    choices_long = refl;
    each = λ s. inl refl;
    kept = λ s e. refl;
    attracted = record {
      inside = λ s e. absurd (empty s e);
      rank = λ s. 0;
      bound = 0;
      bounded = λ s e. omega arith;
      choice = λ s e. absurd (empty s e);
      near = λ s a e. absurd (empty s e);
    };
  }
    where
      empty : (s : ℕ) → set_of owners sources targets priorities letters states k m₀ m₀ s ≡ true → ⊥
      empty s e =
          let f = and_l (from_of owners sources targets priorities letters states k m₀ s) (eqb (get_or m₀ s 0) k.to) e in
          waiting-not (get_or m₀ s 0) (and_r (ltb s states) (waiting k (get_or m₀ s 0)) f) (eqb≡ (get_or m₀ s 0) k.to (and_r (from_of owners sources targets priorities letters states k m₀ s) (eqb (get_or m₀ s 0) k.to) e))

  -- ---- what waits after some steps waited before them
  still-waits : (m c m' c' : List ℕ) → Attracting owners sources targets priorities letters states k m c m' c' → (s : ℕ)
      → from_of owners sources targets priorities letters states k m' s ≡ true → from_of owners sources targets priorities letters states k m s ≡ true
  still-waits m c m' c' x s e = waits-from m c m' c' x s (lt-true s states (and_l (ltb s states) (waiting k (get_or m' s 0)) e)) (and_r (ltb s states) (waiting k (get_or m' s 0)) e)

  -- ---- a sweep
  module _ (n : ℕ) (o m c : List ℕ) (w i : ℕ) (o' m' c' : List ℕ) (s : ℕ) (left : Bool) (m'' c'' : List ℕ) (r : ℕ) (o'' : List ℕ) (x : Sweeping owners sources targets priorities letters states k n o m c w i o' m' c') (lt : i < n)
      (at : s ≡ get_or o' i 0) (h : s < states) (marks-few : states ≤ length m) (choices-few : states ≤ length c) (b : Visited owners sources targets priorities letters states k s m' c' left m'' c'')
      (q : Kept (not left) w i o' r o'') where
    abbrev Goes : Type 0
    Goes =
        ((waiting k (get_or m' s 0) ≡ false) × (m'' ≡ m') × (c'' ≡ c'))
        ⊎ ((waiting k (get_or m' s 0) ≡ true) × (m'' ≡ set m' s k.to) × AddableAt owners sources targets priorities letters states k m' s c' c'')

    long : (left ≡ true) ⊎ (left ≡ false) → (length m'' ≡ length m) × (length c'' ≡ length c)
    long (inl e) = go (b.goes e)
      where
        go : Goes → (length m'' ≡ length m) × (length c'' ≡ length c)
        go (inl y) = (ap length y.1 ∙ x.marks_long, ap length y.2 ∙ x.choices_long)
        go (inr y) = (ap length y.1 ∙ length-set m' s k.to ∙ x.marks_long, choices-kept m' s c' c'' y.2 ∙ x.choices_long)
    long (inr e) = let y = b.stays e in (ap length y.0 ∙ x.marks_long, ap length y.1 ∙ x.choices_long)

    unchanged : m'' ≡ m' → c'' ≡ c' → (m₀ c₀ : List ℕ) → Attracting owners sources targets priorities letters states k m₀ c₀ m' c' → Attracting owners sources targets priorities letters states k m₀ c₀ m'' c''
    unchanged e f m₀ c₀ y =
        subst (λ (z : List ℕ). Attracting owners sources targets priorities letters states k m₀ c₀ z c'') (sym e) (subst (λ (z : List ℕ). Attracting owners sources targets priorities letters states k m₀ c₀ m' z) (sym f) y)

    keeps : (left ≡ true) ⊎ (left ≡ false) → (m₀ c₀ : List ℕ) → Attracting owners sources targets priorities letters states k m₀ c₀ m c → Attracting owners sources targets priorities letters states k m₀ c₀ m'' c''
    keeps (inl e) m₀ c₀ y = go (b.goes e)
      where
        go : Goes → Attracting owners sources targets priorities letters states k m₀ c₀ m'' c''
        go (inl z) = unchanged z.1 z.2 m₀ c₀ (x.keeps m₀ c₀ y)
        go (inr z) =
            subst (λ (l : List ℕ). Attracting owners sources targets priorities letters states k m₀ c₀ l c'') (sym z.1)
            (attracting-more m₀ c₀ m' c' (x.keeps m₀ c₀ y) s c'' h (omega (arith, x.marks_long)) (omega (arith, x.choices_long)) z.0 z.2)
    keeps (inr e) m₀ c₀ y = let z = b.stays e in unchanged z.0 z.1 m₀ c₀ (x.keeps m₀ c₀ y)

    -- a state that did not wait still does not
    still-gone : (left ≡ true) ⊎ (left ≡ false) → (t : ℕ) → waiting k (get_or m' t 0) ≡ false → waiting k (get_or m'' t 0) ≡ false
    still-gone (inr e) t f = ap (λ (z : List ℕ). waiting k (get_or z t 0)) (b.stays e).0 ∙ f
    still-gone (inl e) t f = go (b.goes e) (ℕ_discrete t s)
      where
        go : Goes → Dec (t ≡ s) → waiting k (get_or m'' t 0) ≡ false
        go (inl y) d = ap (λ (z : List ℕ). waiting k (get_or z t 0)) y.1 ∙ f
        go (inr y) (yes z) = absurd (true≢false (sym y.0 ∙ ap (λ (u : ℕ). waiting k (get_or m' u 0)) (sym z) ∙ f))
        go (inr y) (no z) = ap (waiting k) (ap (λ (l : List ℕ). get_or l t 0) y.1 ∙ get_or-set_other m' s t k.to 0 z) ∙ f

    now-gone : left ≡ true → waiting k (get_or m'' s 0) ≡ false
    now-gone e = go (b.goes e)
      where
        go : Goes → waiting k (get_or m'' s 0) ≡ false
        go (inl y) = ap (λ (z : List ℕ). waiting k (get_or z s 0)) y.1 ∙ y.0
        go (inr y) = ap (waiting k) (ap (λ (l : List ℕ). get_or l s 0) y.1 ∙ get_or-set_same m' s k.to 0 (omega (arith, x.marks_long))) ∙ to-waits k apart

    flips : (z : Bool) → not left ≡ z → left ≡ not z
    flips z e = sym (not-not left) ∙ ap not e

    -- all before i stay, and so does the state at i
    all_stay : r ≡ i + 1 → left ≡ false
    all_stay e = go (test left)
      where
        go : (left ≡ true) ⊎ (left ≡ false) → left ≡ false
        go (inl t) = absurd (omega (arith, (q.no (ap not t)).0, x.parted.before, e))
        go (inr f) = f

    same : r ≡ i + 1
        → (m'' ≡ m) × (c'' ≡ c) × ((h : ℕ) → h < i + 1 → Stays owners sources targets priorities letters states k m (get_or o'' h 0))
    same e = (y.0 ∙ z.0, y.1 ∙ z.1, all)
      where
        f : left ≡ false
        f = all_stay e

        y : (m'' ≡ m') × (c'' ≡ c') × (waiting k (get_or m' s 0) ≡ true) × StuckAt owners sources targets priorities letters states k m' s
        y = b.stays f

        level : w ≡ i
        level = omega (arith, (q.yes (ap not f)).0)

        z : (m' ≡ m) × (c' ≡ c) × ((h : ℕ) → h < i → Stays owners sources targets priorities letters states k m (get_or o' h 0))
        z = x.same level

        here : Stays owners sources targets priorities letters states k m (get_or o' i 0)
        here = subst (λ (t : ℕ). Stays owners sources targets priorities letters states k m t) at (subst (λ (l : List ℕ). Stays owners sources targets priorities letters states k l s) z.0 (y.2, y.3))

        all : (h : ℕ) → h < i + 1 → Stays owners sources targets priorities letters states k m (get_or o'' h 0)
        all h l = front-more n o o' o'' w i r (not left) x.parted lt q (Stays owners sources targets priorities letters states k m) (λ _. here) (λ g a. z.2 g (omega arith)) h (omega (arith, e))

    pub sweeping-more : Sweeping owners sources targets priorities letters states k n o m c r (i + 1) o'' m'' c''
    sweeping-more = record {
      parted = parted-more n o o' o'' w i r (not left) x.parted lt q;
      marks_long = (long (test left)).0;
      choices_long = (long (test left)).1;
      keeps = keeps (test left);
      gone = others-more n o o' o'' w i r (not left) x.parted lt q (λ t. waiting k (get_or m'' t 0) ≡ false)
          (λ e. subst (λ (t : ℕ). waiting k (get_or m'' t 0) ≡ false) at (now-gone (flips false e))) (λ g a l. still-gone (test left) (get_or o' g 0) (x.gone g a l));
      same = same;
    }

  -- ---- sweeps until one changes nothing
  module _ (m₀ c₀ : List ℕ) (n₀ : ℕ) (o₀ : List ℕ) where
    pub attraction-none : Lists (from_of owners sources targets priorities letters states k m₀) n₀ o₀ → Attraction owners sources targets priorities letters states k m₀ c₀ n₀ o₀ n₀ o₀ m₀ c₀ true
    attraction-none l = record {
      so_far = attracting-none m₀ c₀;
      few = omega arith;
      long = l.long;
      moved = same-order n₀ o₀;
      inside = λ i h. lt-true (get_or o₀ i 0) states (and_l (ltb (get_or o₀ i 0) states) (waiting k (get_or m₀ (get_or o₀ i 0) 0)) (l.each i h));
      all = l.all;
      done = λ e. absurd (true≢false e);
    }

    module _ (n : ℕ) (o m c : List ℕ) (b : Bool) (r : ℕ) (o' m' c' : List ℕ) (x : Attraction owners sources targets priorities letters states k m₀ c₀ n₀ o₀ n o m c b) (y : Swept owners sources targets priorities letters states k n o m c r o' m' c') where
      some-front : (s : ℕ) → from_of owners sources targets priorities letters states k m' s ≡ true → Among o' r s
      some-front s e = in-front (λ t. waiting k (get_or m' t 0)) n r o' y.gone s (and_r (ltb s states) (waiting k (get_or m' s 0)) e)
          (y.moved.forth s (x.all s (still-waits m c m' c' (y.keeps m c (attracting-none m c)) s e)))

      finished : r ≡ n → Attracts owners sources targets priorities letters states k m₀ c₀ m' c' × ((i : ℕ) → i < r → waiting k (get_or m' (get_or o' i 0) 0) ≡ true)
      finished e =
          let z = y.same e in (
            record { so_far = y.keeps m₀ c₀ x.so_far; complete = complete-of m₀ c₀ m' c' (y.keeps m₀ c₀ x.so_far) (λ t h w. stuck t h w z.0 z.2) },
            λ i h. subst (λ (l : List ℕ). waiting k (get_or l (get_or o' i 0) 0) ≡ true) (sym z.0) (z.2 i (omega (arith, e))).0,
          )
        where
          stuck : (t : ℕ) → t < states → waiting k (get_or m' t 0) ≡ true → m' ≡ m
              → ((i : ℕ) → i < n → (waiting k (get_or m (get_or o' i 0) 0) ≡ true) × StuckAt owners sources targets priorities letters states k m (get_or o' i 0))
              → StuckAt owners sources targets priorities letters states k m' t
          stuck t h w u all =
              let q = some-front t (both (ltb t states) (waiting k (get_or m' t 0)) (lt-ltb t states h) w) in
              subst (λ (l : List ℕ). StuckAt owners sources targets priorities letters states k l t) (sym u)
              (subst (λ (v : ℕ). StuckAt owners sources targets priorities letters states k m v) q.2 (all q.0 (omega (arith, q.1, e))).1)

      pub attraction-more : Attraction owners sources targets priorities letters states k m₀ c₀ n₀ o₀ r o' m' c' (ltb r n)
      attraction-more = record {
        so_far = y.keeps m₀ c₀ x.so_far;
        few = omega (arith, y.few, x.few);
        long = x.long;
        moved = order-of-order n₀ o₀ o o' x.moved (wider-order n n₀ o o' x.few y.moved);
        inside = λ i h. inside-moved n states o o' y.moved x.inside i (omega (arith, y.few));
        all = some-front;
        done = λ e. finished (omega (arith, y.few, lt-false r n e));
      }

-- how many sweeps there may still be
unfoldable pub sweeps_left : ℕ → Bool → ℕ
sweeps_left n again = cond again (suc n) 0

pub sweeps-fewer : (n r : ℕ) (b : Bool) → b ≡ true → sweeps_left r (ltb r n) < sweeps_left n b
unfolding sweeps_left
sweeps-fewer n r b t = go (test (ltb r n))
  where
    go : (ltb r n ≡ true) ⊎ (ltb r n ≡ false) → cond (ltb r n) (suc r) 0 < cond b (suc n) 0
    go (inl e) = rw (e, t) (omega (arith, lt-true r n e))
    go (inr e) = rw (e, t) (omega arith)
