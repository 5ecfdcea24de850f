-- A level on the way: what is live is still to be solved, and a turn takes it a step on. Assumes nothing.
use Prim.Native.Nat.{ℕ, ◌+◌, ◌*◌, ◌≤◌, ◌<◌}
use native.Mathlib.Omega.{arith}
use mathlib.Core.Path.{◌≡◌, refl, sym, ap, ◌∙◌}
use mathlib.Core.Logic.{◌⊎◌, inl, inr, ◌≢◌}
use mathlib.Core.Bool.{Bool, true, false, ◌&&◌, cond, true≢false}
use mathlib.Core.List.{List}
use lib.Dec.{eqb, ltb}
use lib.ListN.{length, get_or}
use Rattle.lists.proofs.Bools.{test}
use Rattle.games.specs.Games.{Game}
use Rattle.games.proofs.Regions.{Arena, Region, WonBy, Solution}
use Rattle.games.proofs.Peel.{region-same}
use Rattle.attracting.specs.Attracting.{table_game}
use Rattle.levels.specs.Levels.{won_mark, live, Headed, SolvedAt}
use Rattle.levels.proofs.Marks.{won-high, won-is, live_state, live-mark, mark-live, mark-not, not-mark}

module _ (owners sources targets priorities : List ℕ) (letters states p : ℕ) where
  abbrev G : Game
  G = table_game owners sources targets priorities letters states

  -- a solution of what is live completes one of all
  pub record Level (m₀ c₀ m c : List ℕ) : Type 0 where
    pub headed : Headed states p m₀
    pub marks_long : length m ≡ length m₀
    pub choices_long : length c ≡ length c₀
    pub outside : (s : ℕ) → live states m₀ s ≡ false → (get_or m s 0 ≡ get_or m₀ s 0) × (get_or c s 0 ≡ get_or c₀ s 0)
    pub inside : (s : ℕ) → live states m₀ s ≡ true → (get_or m s 0 ≡ 255) ⊎ ((j : Bool) × (get_or m s 0 ≡ won_mark p j))
    pub arena : Arena G p (live states m)
    pub completes : (n : Solution G p (live states m)) (j : Bool)
        → Region G j p (live states m₀) (WonBy (live states m₀) (λ s. cond (live states m s) (n.winner s) (eqb (get_or m s 0) (won_mark p true))) j)
        (λ s. cond (live states m s) (n.choice s) (get_or c s 0))

  pub level-start : (m₀ c₀ : List ℕ) → Headed states p m₀ → Arena G p (live states m₀) → Level m₀ c₀ m₀ c₀
  level-start m₀ c₀ h a = record {
    headed = h;
    marks_long = refl;
    choices_long = refl;
    outside = λ s e. (refl, refl);
    inside = λ s e. inl (live-mark states m₀ s e);
    arena = a;
    completes = λ n j. region-same G j p (live states m₀) n.winner (λ s. cond (live states m₀ s) (n.winner s) (eqb (get_or m₀ s 0) (won_mark p true)))
        n.choice (λ s. cond (live states m₀ s) (n.choice s) (get_or c₀ s 0)) (λ s e. rw e refl) (λ s e. rw e refl) (n.region j);
  }

  module _ (m₀ c₀ m c : List ℕ) (x : Level m₀ c₀ m c) where
    -- nothing is live: the level is solved
    pub level-end : ((s : ℕ) → s < states → get_or m s 0 ≢ 255) → SolvedAt owners sources targets priorities letters states p m₀ c₀ m c
    level-end none = record {
      marks_long = x.marks_long;
      choices_long = x.choices_long;
      outside = x.outside;
      inside = λ s e. inside s e (x.inside s e);
      region = λ j. region-same G j p (live states m₀) (λ s. cond (live states m s) false (eqb (get_or m s 0) (won_mark p true))) (λ s. eqb (get_or m s 0) (won_mark p true))
          (λ s. cond (live states m s) 0 (get_or c s 0)) (λ s. get_or c s 0) (λ s e. rw (dead s) refl) (λ s e. rw (dead s) refl) (x.completes nothing j);
    }
      where
        dead : (s : ℕ) → live states m s ≡ false
        dead s = go (test (live states m s))
          where
            go : (live states m s ≡ true) ⊎ (live states m s ≡ false) → live states m s ≡ false
            go (inl t) = absurd (none s (live_state states m s t) (live-mark states m s t))
            go (inr f) = f

        inside : (s : ℕ) → live states m₀ s ≡ true → (get_or m s 0 ≡ 255) ⊎ ((j : Bool) × (get_or m s 0 ≡ won_mark p j)) → (j : Bool) × (get_or m s 0 ≡ won_mark p j)
        inside s e (inl q) = absurd (none s (live_state states m₀ s e) q)
        inside s e (inr q) = q

        nothing : Solution G p (live states m)
        nothing = record {
          winner = λ s. false;
          choice = λ s. 0;
          region = λ j. record {
            choice = λ s w o. absurd (true≢false (sym w.0 ∙ dead s));
            stays = λ s a w r k. absurd (true≢false (sym w.0 ∙ dead s));
            measure = λ k bad. record { rank = λ s. 0; bound = 0; bounded = λ s w. omega arith; falls = λ s a w r q. absurd (true≢false (sym w.0 ∙ dead s)) };
          };
        }

    -- a live state has a row of the level, so the level is below all
    pub turn-lt : (levels : ℕ) → ((s a : ℕ) → s < states → a < letters → get_or priorities (s * letters + a) 0 < levels) → (s : ℕ) → live states m s ≡ true → p < levels
    turn-lt levels h s t = let r = x.arena.row s t in omega (arith, h s r.0 (live_state states m s t) r.1.letter, r.1.above)

    -- a state that is not live has a low mark
    pub low : (s : ℕ) → s < states → live states m s ≡ false → get_or m s 0 ≤ 4 * p + 2
    low s h e = go (test (live states m₀ s))
      where
        go : (live states m₀ s ≡ true) ⊎ (live states m₀ s ≡ false) → get_or m s 0 ≤ 4 * p + 2
        go (inl t) = which (x.inside s t)
          where
            which : (get_or m s 0 ≡ 255) ⊎ ((j : Bool) × (get_or m s 0 ≡ won_mark p j)) → get_or m s 0 ≤ 4 * p + 2
            which (inl q) = absurd (not-mark states m s h e q)
            which (inr q) = omega (arith, q.1, won-high p q.0)
        go (inr f) = omega (arith, (x.outside s f).0, x.headed.low s h (not-mark states m₀ s h f))

  -- ---- a turn takes the marks m and letters c to m' and c'
  module _ (m c m' c' : List ℕ) where
    -- what becomes of a live state: it stays live, with the answers of the solution of what is live then; or it is won, with its mark and its letter
    pub data Fate (whole : Solution G p (live states m') → Solution G p (live states m)) (s : ℕ) : Type 0 where
      stays : get_or m' s 0 ≡ 255 → ((n : Solution G p (live states m')) → ((whole n).winner s ≡ n.winner s) × ((whole n).choice s ≡ n.choice s)) → Fate whole s
      won : (j : Bool) → get_or m' s 0 ≡ won_mark p j → ((n : Solution G p (live states m')) → ((whole n).winner s ≡ j) × ((whole n).choice s ≡ get_or c' s 0)) → Fate whole s

    pub record Step : Type 0 where
      pub marks_long : length m' ≡ length m
      pub choices_long : length c' ≡ length c
      pub outside : (s : ℕ) → live states m s ≡ false → (get_or m' s 0 ≡ get_or m s 0) × (get_or c' s 0 ≡ get_or c s 0)
      pub arena : Arena G p (live states m')
      pub whole : Solution G p (live states m') → Solution G p (live states m)
      pub fate : (s : ℕ) → live states m s ≡ true → Fate whole s

  module _ (small : p ≤ 32) (m₀ c₀ m c m' c' : List ℕ) (x : Level m₀ c₀ m c) (y : Step m c m' c') where
    -- nothing is live that was not
    still-out : (s : ℕ) → live states m₀ s ≡ false → live states m s ≡ false
    still-out s e = go (test (live states m s))
      where
        go : (live states m s ≡ true) ⊎ (live states m s ≡ false) → live states m s ≡ false
        go (inl t) = absurd (not-mark states m₀ s (live_state states m s t) e (sym (x.outside s e).0 ∙ live-mark states m s t))
        go (inr f) = f

    dead : (s : ℕ) → live states m s ≡ false → live states m' s ≡ false
    dead s f = ap (λ (z : ℕ). ltb s states && eqb z 255) (y.outside s f).0 ∙ f

    won-dead : (j : Bool) (s : ℕ) → get_or m' s 0 ≡ won_mark p j → live states m' s ≡ false
    won-dead j s e = mark-not states m' s (λ z. absurd (omega (arith, e, won-high p j)))

    module _ (n : Solution G p (live states m')) (s : ℕ) where
      winners : (live states m s ≡ true) ⊎ (live states m s ≡ false)
          → cond (live states m s) ((y.whole n).winner s) (eqb (get_or m s 0) (won_mark p true)) ≡ cond (live states m' s) (n.winner s) (eqb (get_or m' s 0) (won_mark p true))
      winners (inr f) = rw (f, dead s f) (ap (λ (z : ℕ). eqb z (won_mark p true)) (sym (y.outside s f).0))
      winners (inl t) = rw t (go (y.fate s t))
        where
          go : Fate m c m' c' y.whole s → (y.whole n).winner s ≡ cond (live states m' s) (n.winner s) (eqb (get_or m' s 0) (won_mark p true))
          go (stays e a) = rw (mark-live states m' s (live_state states m s t) e) (a n).0
          go (won j e a) = rw (won-dead j s e) ((a n).0 ∙ sym (ap (λ (z : ℕ). eqb z (won_mark p true)) e ∙ won-is p j))

      choices : (live states m s ≡ true) ⊎ (live states m s ≡ false)
          → cond (live states m s) ((y.whole n).choice s) (get_or c s 0) ≡ cond (live states m' s) (n.choice s) (get_or c' s 0)
      choices (inr f) = rw (f, dead s f) (sym (y.outside s f).1)
      choices (inl t) = rw t (go (y.fate s t))
        where
          go : Fate m c m' c' y.whole s → (y.whole n).choice s ≡ cond (live states m' s) (n.choice s) (get_or c' s 0)
          go (stays e a) = rw (mark-live states m' s (live_state states m s t) e) (a n).1
          go (won j e a) = rw (won-dead j s e) (a n).1

    pub next_level : Level m₀ c₀ m' c'
    next_level = record {
      headed = x.headed;
      marks_long = y.marks_long ∙ x.marks_long;
      choices_long = y.choices_long ∙ x.choices_long;
      outside = λ s e. let q = y.outside s (still-out s e) in (q.0 ∙ (x.outside s e).0, q.1 ∙ (x.outside s e).1);
      inside = λ s e. inside s e (test (live states m s));
      arena = y.arena;
      completes = λ n j. region-same G j p (live states m₀)
          (λ s. cond (live states m s) ((y.whole n).winner s) (eqb (get_or m s 0) (won_mark p true))) (λ s. cond (live states m' s) (n.winner s) (eqb (get_or m' s 0) (won_mark p true)))
          (λ s. cond (live states m s) ((y.whole n).choice s) (get_or c s 0)) (λ s. cond (live states m' s) (n.choice s) (get_or c' s 0))
          (λ s e. winners n s (test (live states m s))) (λ s e. choices n s (test (live states m s))) (x.completes (y.whole n) j);
    }
      where
        inside : (s : ℕ) → live states m₀ s ≡ true → (live states m s ≡ true) ⊎ (live states m s ≡ false) → (get_or m' s 0 ≡ 255) ⊎ ((j : Bool) × (get_or m' s 0 ≡ won_mark p j))
        inside s e (inl t) = go (y.fate s t)
          where
            go : Fate m c m' c' y.whole s → (get_or m' s 0 ≡ 255) ⊎ ((j : Bool) × (get_or m' s 0 ≡ won_mark p j))
            go (stays q a) = inl q
            go (won j q a) = inr (j, q)
        inside s e (inr f) = go (x.inside s e)
          where
            go : (get_or m s 0 ≡ 255) ⊎ ((j : Bool) × (get_or m s 0 ≡ won_mark p j)) → (get_or m' s 0 ≡ 255) ⊎ ((j : Bool) × (get_or m' s 0 ≡ won_mark p j))
            go (inl q) = inl ((y.outside s f).0 ∙ q)
            go (inr q) = inr (q.0, (y.outside s f).0 ∙ q.1)
