-- What an attraction by marks comes to, said of sets: the arena X, and the states of it that may be attracted. Assumes nothing.
use Prim.Native.Nat.{ℕ, ◌<◌}
use native.Mathlib.Omega.{arith}
use native.Mathlib.Decide.{dec_lt}
use mathlib.Core.Path.{◌≡◌, refl, sym, ap, ◌∙◌}
use mathlib.Core.Logic.{◌⊎◌, inl, inr}
use mathlib.Core.Bool.{Bool, true, false, not, ◌&&◌, ◌||◌, not-not, or-false, true≢false}
use mathlib.Core.List.{List}
use lib.Dec.{eqb, ltb}
use lib.ListN.{get_or}
use borrow.Author.Tests.{lt-ltb, le-ltb, le-leb, lt-leb}
use Rattle.lists.proofs.Bools.{test, eqb≡, ≡eqb, neqb, and_r, both, and-absent, and-absorb, or_left, or_right}
use Rattle.games.specs.Games.{Game}
use Rattle.games.proofs.Sets.{minus, minus-taken}
use Rattle.games.proofs.Regions.{Row}
use Rattle.games.proofs.Attract.{Attraction, attraction-of}
use Rattle.attracting.specs.declared.Task.{Task}
use Rattle.attracting.specs.Attracting.{is_in, Apart, waiting, table_game, arena_of, from_of, hit_of, set_of, Attracts}

-- ---- what the mark a of a state is to a task, where x tells whether the state is in the arena, and f whether it may be attracted
pub data Role (k : Task) (a : ℕ) (x f : Bool) : Type 0 where
  waits : x ≡ true → f ≡ true → (a ≡ k.live) ⊎ (a ≡ k.also) → Role k a x f
  goal : x ≡ true → f ≡ false → a ≡ k.to → Role k a x f
  past : x ≡ false → f ≡ false → a < k.floor → Role k a x f

module _ (k : Task) (apart : Apart k) where
  pub to-waits : waiting k k.to ≡ false
  to-waits = rw (neqb k.to k.live apart.not_live, neqb k.to k.also apart.not_also) refl

  module _ (a : ℕ) (x f : Bool) where
    role-waits : Role k a x f → waiting k a ≡ f
    role-waits (waits t e (inl q)) = or_left (eqb a k.live) (eqb a k.also) (≡eqb a k.live q) ∙ sym e
    role-waits (waits t e (inr q)) = or_right (eqb a k.live) (eqb a k.also) (≡eqb a k.also q) ∙ sym e
    role-waits (goal t e q) = ap (waiting k) q ∙ to-waits ∙ sym e
    role-waits (past t e l) = rw (neqb a k.live (λ z. absurd (omega (arith, apart.live_in))), neqb a k.also (λ z. absurd (omega (arith, apart.also_in)))) (sym e)

    role-in : Role k a x f → is_in k a ≡ x
    role-in (waits t e (inl q)) = le-leb k.floor a (omega (arith, apart.live_in)) ∙ sym t
    role-in (waits t e (inr q)) = le-leb k.floor a (omega (arith, apart.also_in)) ∙ sym t
    role-in (goal t e q) = le-leb k.floor a (omega (arith, apart.to_in)) ∙ sym t
    role-in (past t e l) = lt-leb k.floor a l ∙ sym t

    role-to : x ≡ true → Role k a x f → eqb a k.to ≡ not f
    role-to i (waits t e (inl q)) = neqb a k.to (λ z. apart.not_live (sym z ∙ q)) ∙ sym (ap not e)
    role-to i (waits t e (inr q)) = neqb a k.to (λ z. apart.not_also (sym z ∙ q)) ∙ sym (ap not e)
    role-to i (goal t e q) = ≡eqb a k.to q ∙ sym (ap not e)
    role-to i (past t e l) = absurd (true≢false (sym i ∙ t))

module _ (owners sources targets priorities : List ℕ) (letters states : ℕ) (k : Task) (m c m' c' : List ℕ) where
  abbrev G : Game
  G = table_game owners sources targets priorities letters states

  -- ---- all that can be attracted from F: marked, and with its letters; the rest is as it was, and what still waits is what is left of F
  pub record Outcome (X F : ℕ → Bool) (hit : ℕ → ℕ → Bool) : Type 0 where
    pub all : Attraction G k.plant k.level X F hit
    pub letter : (s : ℕ) → all.letter s ≡ get_or c' s 0
    pub mark : (s : ℕ) → all.set s ≡ true → get_or m' s 0 ≡ k.to
    pub out : (s : ℕ) → F s ≡ false → all.set s ≡ false
    pub same : (s : ℕ) → all.set s ≡ false → (get_or m' s 0 ≡ get_or m s 0) × (get_or c' s 0 ≡ get_or c s 0)
    pub left : (s : ℕ) → from_of owners sources targets priorities letters states k m' s ≡ minus F all.set s

  module _ (apart : Apart k) (X F : ℕ → Bool) (hit : ℕ → ℕ → Bool) (below : (s : ℕ) → X s ≡ true → s < states) (sub : (s : ℕ) → F s ≡ true → X s ≡ true)
      (role : (s : ℕ) → s < states → Role k (get_or m s 0) (X s) (F s))
      (hits : (s a : ℕ) → X (G.target s a) ≡ true → not (F (G.target s a)) || (k.rows && eqb (G.priority s a) k.level) ≡ hit s a)
      (x : Attracts owners sources targets priorities letters states k m c m' c') where
    abbrev arena : ℕ → Bool
    arena = arena_of owners sources targets priorities letters states k m

    abbrev from : ℕ → Bool
    from = from_of owners sources targets priorities letters states k m

    abbrev took : ℕ → Bool
    took = set_of owners sources targets priorities letters states k m m'

    -- past the states there is nothing
    no-state : (P : ℕ → Bool) → ((s : ℕ) → P s ≡ true → X s ≡ true) → (s : ℕ) → (s < states → ⊥) → false ≡ P s
    no-state P inside s h = go (test (P s))
      where
        go : (P s ≡ true) ⊎ (P s ≡ false) → false ≡ P s
        go (inl t) = absurd (h (below s (inside s t)))
        go (inr f) = sym f

    arena-is : (s : ℕ) → arena s ≡ X s
    arena-is s = go (dec_lt s states)
      where
        go : Dec (s < states) → arena s ≡ X s
        go (yes h) = rw (lt-ltb s states h) (role-in k apart (get_or m s 0) (X s) (F s) (role s h))
        go (no h) = rw (le-ltb s states (omega arith)) (no-state X (λ _ e. e) s h)

    from_is : (s : ℕ) → from s ≡ F s
    from_is s = go (dec_lt s states)
      where
        go : Dec (s < states) → from s ≡ F s
        go (yes h) = rw (lt-ltb s states h) (role-waits k apart (get_or m s 0) (X s) (F s) (role s h))
        go (no h) = rw (le-ltb s states (omega arith)) (no-state F sub s h)

    hit-is : (s a : ℕ) → Row G k.level arena s a → hit_of owners sources targets priorities letters states k m s a ≡ hit s a
    hit-is s a r =
        let t = G.target s a in
        let i = sym (arena-is t) ∙ r.within in
        ap (λ (b : Bool). b || (k.rows && eqb (G.priority s a) k.level)) (role-to k apart (get_or m t 0) (X t) (F t) i (role t (below t i))) ∙ hits s a i

    took-mark : (s : ℕ) → took s ≡ true → get_or m' s 0 ≡ k.to
    took-mark s e = eqb≡ (get_or m' s 0) k.to (and_r (from s) (eqb (get_or m' s 0) k.to) e)

    not-took : (s : ℕ) → took s ≡ false → get_or m' s 0 ≡ get_or m s 0
    not-took s e = go (x.so_far.each s)
      where
        go : (get_or m' s 0 ≡ get_or m s 0) ⊎ ((from s ≡ true) × (get_or m' s 0 ≡ k.to)) → get_or m' s 0 ≡ get_or m s 0
        go (inl q) = q
        go (inr q) = absurd (true≢false (sym (both (from s) (eqb (get_or m' s 0) k.to) q.0 (≡eqb (get_or m' s 0) k.to q.1)) ∙ e))

    still : (s : ℕ) → from_of owners sources targets priorities letters states k m' s ≡ minus F took s
    still s = go (test (took s))
      where
        go : (took s ≡ true) ⊎ (took s ≡ false) → from_of owners sources targets priorities letters states k m' s ≡ minus F took s
        go (inl t) = and-absent (ltb s states) (waiting k (get_or m' s 0)) (ap (waiting k) (took-mark s t) ∙ to-waits k apart) ∙ sym (minus-taken F took s t)
        go (inr f) = ap (λ (z : ℕ). ltb s states && waiting k z) (not-took s f) ∙ from_is s ∙ sym (and-absorb (F s) (not (took s)) (λ _. ap not f))

    pub outcome : Outcome X F hit
    outcome = record {
      all = attraction-of G k.plant k.level arena X from F (hit_of owners sources targets priorities letters states k m) hit arena-is from_is hit-is
          took (λ s. get_or c' s 0) x.so_far.attracted x.complete;
      letter = λ s. refl;
      mark = took-mark;
      out = λ s f. rw (from_is s ∙ f) refl;
      same = λ s e. (not-took s e, x.so_far.kept s e);
      left = still;
    }

-- a row into L, where what is left of X may be attracted
pub into : (X L : ℕ → Bool) (s : ℕ) → X s ≡ true → not (minus X L s) || false ≡ L s
into X L s e = rw e (or-false (not (not (L s))) ∙ not-not (L s))
