-- A turn of a level, by marks: what is attracted to the rows of the level, and the rest, solved one level up. If the other player has won nothing there, all is the
-- player's whom the level serves. Assumes nothing.
use Prim.Native.Nat.{ℕ, suc, ◌+◌, ◌*◌, ◌≤◌, ◌<◌}
use native.Mathlib.Omega.{arith}
use native.Mathlib.Decide.{dec_lt}
use native.Mathlib.Numerals.{add-one}
use mathlib.Core.Path.{◌≡◌, refl, sym, ap, ◌∙◌, subst}
use mathlib.Core.Logic.{◌⊎◌, inl, inr, ◌≢◌}
use mathlib.Core.Bool.{Bool, true, false, not, cond, true≢false}
use mathlib.Core.List.{List}
use lib.Dec.{eqb}
use lib.ListN.{length, get_or}
use Rattle.lists.proofs.Bools.{test, eqb≡, and_r, or_cases, not_itself, same_or_not}
use Rattle.games.specs.Games.{Game, serves}
use Rattle.games.proofs.Sets.{is, is_true, minus-both, minus-never, minus-taken}
use Rattle.games.proofs.Regions.{Arena, Region, WonBy, Solution}
use Rattle.games.proofs.Attract.{Attraction}
use Rattle.games.proofs.Peel.{solution-move, arena-move}
use Rattle.games.proofs.Solve.{lowest, rest, rest-arena, lost, won-lost, letter, all-won, all-winner, all-choice}
use Rattle.orders.specs.Orders.{Lists, marked, Gathered, Painted}
use Rattle.orders.proofs.Orders.{lists-moved}
use Rattle.orders.proofs.Walks.{painted-set}
use Rattle.attracting.specs.Attracting.{table_game, Attracts}
use Rattle.attracting.proofs.Outcome.{Role, waits, past, Outcome, outcome}
use Rattle.levels.specs.Levels.{won_mark, taken_mark, live, Headed, rows_task, SolvedAt}
use Rattle.levels.proofs.Marks.{rows_apart, won-low, won-high, won-is, won-other, live_state, live-mark, mark-not, not-mark, out_of_range, live-waits}
use Rattle.levels.proofs.Levels.{won, Step}

-- ---- the attraction to the rows of the level
pub record Turn : Type 0 where
  -- the game, and the level
  pub owners : List ℕ
  pub sources : List ℕ
  pub targets : List ℕ
  pub priorities : List ℕ
  pub letters : ℕ
  pub states : ℕ
  pub p : ℕ
  pub small : p ≤ 32
  -- marks and letters before the turn: the live states are an arena, and the others have low marks
  pub m : List ℕ
  pub c : List ℕ
  pub arena : Arena (table_game owners sources targets priorities letters states) p (live states m)
  pub low : (s : ℕ) → s < states → live states m s ≡ false → get_or m s 0 ≤ 4 * p + 2
  -- and after the attraction
  pub m₁ : List ℕ
  pub c₁ : List ℕ
  pub attracts : Attracts owners sources targets priorities letters states (rows_task p) m c m₁ c₁

module _ (t : Turn) where
  abbrev pub G : Game
  G = table_game t.owners t.sources t.targets t.priorities t.letters t.states

  -- the player whom the level serves
  abbrev pub i : Bool
  i = serves t.p

  -- the arena
  abbrev pub X : ℕ → Bool
  X = live t.states t.m

  -- a step on to other marks and letters
  abbrev pub Next : List ℕ → List ℕ → Type 0
  Next = Step t.owners t.sources t.targets t.priorities t.letters t.states t.p t.m t.c

  abbrev hits : ℕ → ℕ → Bool
  hits = lowest G t.p X t.arena i refl

  pub first : Outcome t.owners t.sources t.targets t.priorities t.letters t.states (rows_task t.p) t.m t.c t.m₁ t.c₁ X X hits
  first = outcome t.owners t.sources t.targets t.priorities t.letters t.states (rows_task t.p) t.m t.c t.m₁ t.c₁
      (rows_apart t.p t.small) X X hits (λ s e. live_state t.states t.m s e) (λ s e. e)
      (λ s h. role s h (test (X s))) (λ s a e. rw e refl) t.attracts
    where
      role : (s : ℕ) → s < t.states → (X s ≡ true) ⊎ (X s ≡ false) → Role (rows_task t.p) (get_or t.m s 0) (X s) (X s)
      role s h (inl e) = waits e e (inl (live-mark t.states t.m s e))
      role s h (inr f) =
          past f f (omega (arith, t.low s h f))

  abbrev pub one : Attraction G i t.p X X hits
  one = first.all

  -- what was attracted, and what was not
  abbrev pub A : ℕ → Bool
  A = one.set

  abbrev pub rests : ℕ → Bool
  rests = rest G t.p X t.arena i refl one

  pub rest_live : (s : ℕ) → live t.states t.m₁ s ≡ rests s
  rest_live s = live-waits t.states t.m₁ s ∙ first.left s

  pub turn-head : Headed t.states (t.p + 1) t.m₁
  turn-head = record { low = λ s h e. go s h e (test (A s)) (test (X s)) }
    where
      go : (s : ℕ) → s < t.states → get_or t.m₁ s 0 ≢ 255 → (A s ≡ true) ⊎ (A s ≡ false) → (X s ≡ true) ⊎ (X s ≡ false) → get_or t.m₁ s 0 ≤ 4 * (t.p + 1)
      go s h e (inl q) d = omega (arith, first.mark s q)
      go s h e (inr q) (inl d) = absurd (e ((first.same s q).0 ∙ live-mark t.states t.m s d))
      go s h e (inr q) (inr f) = omega (arith, (first.same s q).0, t.low s h f)

  pub turn-arena : Arena G (t.p + 1) (live t.states t.m₁)
  turn-arena = subst (λ (q : ℕ). Arena G q (live t.states t.m₁)) (sym (add-one t.p))
      (arena-move G (suc t.p) rests (live t.states t.m₁) (λ s. sym (rest_live s)) (rest-arena G t.p X t.arena i refl one))

-- ---- the rest, solved one level up
pub record Above : Type 0 where
  pub turn : Turn
  pub m₂ : List ℕ
  pub c₂ : List ℕ
  pub solved : SolvedAt turn.owners turn.sources turn.targets turn.priorities turn.letters turn.states (turn.p + 1) turn.m₁ turn.c₁ m₂ c₂

module _ (b : Above) where
  abbrev t : Turn
  t = b.turn

  abbrev pub lower : Solution (G t) (suc t.p) (rests t)
  lower = solution-move (G t) (suc t.p) (live t.states t.m₁) (rests t) (rest_live t) (record {
    winner = λ s. eqb (get_or b.m₂ s 0) (won_mark (t.p + 1) true);
    choice = λ s. get_or b.c₂ s 0;
    region = λ j. subst (λ (q : ℕ). Region (G t) j q (live t.states t.m₁) (WonBy (live t.states t.m₁) (λ s. eqb (get_or b.m₂ s 0) (won_mark (t.p + 1) true)) j) (λ s. get_or b.c₂ s 0))
        (add-one t.p) (b.solved.region j);
  })

  -- what the other player has won there
  abbrev pub losts : ℕ → Bool
  losts = lost (G t) t.p (X t) t.arena (i t) refl (one t) lower

  rest-mark : (s : ℕ) → rests t s ≡ true → get_or b.m₂ s 0 ≡ won_mark (t.p + 1) (lower.winner s)
  rest-mark s e =
      let q = b.solved.inside s (rest_live t s ∙ e) in
      q.1 ∙ ap (won_mark (t.p + 1)) (sym (ap (λ (z : ℕ). eqb z (won_mark (t.p + 1) true)) q.1 ∙ won-is (t.p + 1) q.0))

  not-rest : (s : ℕ) → rests t s ≡ false → (get_or b.m₂ s 0 ≡ get_or t.m₁ s 0) × (get_or b.c₂ s 0 ≡ get_or t.c₁ s 0)
  not-rest s e = b.solved.outside s (rest_live t s ∙ e)

  -- outside the arena nothing has changed
  pub same_above : (s : ℕ) → X t s ≡ false → (get_or b.m₂ s 0 ≡ get_or t.m s 0) × (get_or b.c₂ s 0 ≡ get_or t.c s 0)
  same_above s f =
      let q = not-rest s (minus-never (X t) (A t) s f) in
      let z = (first t).same s ((first t).out s f) in
      (q.0 ∙ z.0, q.1 ∙ z.1)

  -- the player's letters
  abbrev pub own_letter : ℕ → ℕ
  own_letter = letter (G t) t.p (X t) t.arena (i t) refl (one t) lower

  pub letter-is : (s : ℕ) → own_letter s ≡ get_or b.c₂ s 0
  letter-is s = go (test (A t s))
    where
      go : (A t s ≡ true) ⊎ (A t s ≡ false) → own_letter s ≡ get_or b.c₂ s 0
      go (inl e) = rw e ((first t).letter s ∙ sym (not-rest s (minus-taken (X t) (A t) s e)).1)
      go (inr f) = rw f refl

  -- a state of the arena, by its mark
  pub data Spot (s : ℕ) : Type 0 where
    taken : losts s ≡ false → get_or b.m₂ s 0 ≡ taken_mark t.p → Spot s
    gone : losts s ≡ true → get_or b.m₂ s 0 ≡ won_mark (t.p + 1) (not (i t)) → Spot s
    held : losts s ≡ false → get_or b.m₂ s 0 ≡ won_mark (t.p + 1) (i t) → Spot s

  pub spot : (s : ℕ) → X t s ≡ true → Spot s
  spot s e = go (test (A t s)) (same_or_not (lower.winner s) (i t))
    where
      kept-own : lower.winner s ≡ i t → (losts s ≡ true) ⊎ (losts s ≡ false) → losts s ≡ false
      kept-own w (inl q) = absurd (not_itself (i t) (sym w ∙ is_true (not (i t)) (lower.winner s) (and_r (rests t s) (is (not (i t)) (lower.winner s)) q)))
      kept-own w (inr q) = q

      go : (A t s ≡ true) ⊎ (A t s ≡ false) → (lower.winner s ≡ i t) ⊎ (lower.winner s ≡ not (i t)) → Spot s
      go (inl q) w = let z = minus-taken (X t) (A t) s q in taken (rw z refl) ((not-rest s z).0 ∙ (first t).mark s q)
      go (inr q) (inl w) = held (kept-own w (test (losts s))) (rest-mark s (minus-both (X t) (A t) s e q) ∙ ap (won_mark (t.p + 1)) w)
      go (inr q) (inr w) =
          let r = minus-both (X t) (A t) s e q in
          gone (won-lost (G t) t.p (X t) t.arena (i t) refl (one t) lower s (r, w)) (rest-mark s r ∙ ap (won_mark (t.p + 1)) w)

  -- ---- nothing was lost: the first n states of the order, the arena, are all the player's
  module _ (n : ℕ) (o o' m' c' : List ℕ) (listed : Lists (X t) n o) (all : Gathered (taken_mark t.p) (won_mark (t.p + 1) (i t)) n b.m₂ o n o')
      (painted : Painted (won_mark t.p (i t)) n o' b.m₂ m') (same : c' ≡ b.c₂) where
    own-lists : Lists (X t) n o'
    own-lists = lists-moved (X t) n o o' listed all.moved

    own-marks : (s : ℕ) → get_or m' s 0 ≡ cond (X t s) (won_mark t.p (i t)) (get_or b.m₂ s 0)
    own-marks = painted-set (X t) (won_mark t.p (i t)) n o' b.m₂ m' own-lists painted

    own-mark : (s : ℕ) → X t s ≡ true → get_or m' s 0 ≡ won_mark t.p (i t)
    own-mark s e = own-marks s ∙ rw e refl

    own_out : (s : ℕ) → X t s ≡ false → get_or m' s 0 ≡ get_or t.m s 0
    own_out s f = own-marks s ∙ rw f (same_above s f).0

    own-letter : (s : ℕ) → get_or c' s 0 ≡ get_or b.c₂ s 0
    own-letter s = ap (λ (l : List ℕ). get_or l s 0) same

    not-lost : (s : ℕ) → X t s ≡ true → losts s ≡ false
    not-lost s e = go (spot s e)
      where
        kept-mark : marked (taken_mark t.p) (won_mark (t.p + 1) (i t)) b.m₂ s ≡ true
        kept-mark = let q = own-lists.all s e in ap (marked (taken_mark t.p) (won_mark (t.p + 1) (i t)) b.m₂) (sym q.2) ∙ all.front q.0 q.1

        go : Spot s → losts s ≡ false
        go (taken l q) = l
        go (held l q) = l
        go (gone l q) = which (or_cases (eqb (get_or b.m₂ s 0) (taken_mark t.p)) (eqb (get_or b.m₂ s 0) (won_mark (t.p + 1) (i t))) kept-mark)
          where
            which : (eqb (get_or b.m₂ s 0) (taken_mark t.p) ≡ true) ⊎ (eqb (get_or b.m₂ s 0) (won_mark (t.p + 1) (i t)) ≡ true) → losts s ≡ false
            which (inl z) = absurd (omega (arith, eqb≡ (get_or b.m₂ s 0) (taken_mark t.p) z, q, won-low (t.p + 1) (not (i t))))
            which (inr z) = absurd (won-other (t.p + 1) (i t) (sym (eqb≡ (get_or b.m₂ s 0) (won_mark (t.p + 1) (i t)) z) ∙ q))

    own-dead : (s : ℕ) → live t.states m' s ≡ false
    own-dead s = go (test (X t s)) (dec_lt s t.states)
      where
        go : (X t s ≡ true) ⊎ (X t s ≡ false) → Dec (s < t.states) → live t.states m' s ≡ false
        go (inl e) d = mark-not t.states m' s (λ z. absurd (omega (arith, own-mark s e, won-high t.p (i t), t.small)))
        go (inr f) (yes h) = mark-not t.states m' s (λ z. not-mark t.states t.m s h f (sym (own_out s f) ∙ z))
        go (inr f) (no h) = out_of_range t.states m' s (omega arith)

    pub own-step : Next t m' c'
    own-step = record {
      marks_long = painted.long ∙ b.solved.marks_long ∙ t.attracts.so_far.marks_long;
      choices_long = ap length same ∙ b.solved.choices_long ∙ t.attracts.so_far.choices_long;
      outside = λ s f. (own_out s f, own-letter s ∙ (same_above s f).1);
      arena = record { below = λ s e. live_state t.states m' s e; row = λ s e. absurd (true≢false (sym e ∙ own-dead s)) };
      whole = λ _. all-won (G t) t.p (X t) t.arena (i t) refl (one t) lower not-lost;
      fate = λ s e. won (i t) (own-mark s e) (λ _. (
        all-winner (G t) t.p (X t) t.arena (i t) refl (one t) lower not-lost s,
        all-choice (G t) t.p (X t) t.arena (i t) refl (one t) lower not-lost s ∙ letter-is s ∙ sym (own-letter s),
      ));
    }

    pub own-listed : Lists (live t.states m') 0 o'
    own-listed = record { long = omega arith; each = λ j h. absurd (omega arith); all = λ s e. absurd (true≢false (sym e ∙ own-dead s)) }
