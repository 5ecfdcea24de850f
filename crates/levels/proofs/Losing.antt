-- What the other player takes in a turn: what it has won one level up, and what it attracts to that. The rest is left to the player. Assumes nothing.
use Prim.Native.Nat.{ℕ, ◌≤◌, ◌<◌}
use native.Mathlib.Omega.{arith}
use mathlib.Core.Path.{◌≡◌, refl, ap, ◌∙◌}
use mathlib.Core.Logic.{◌⊎◌, inl, inr}
use mathlib.Core.Bool.{Bool, true, false, not, cond}
use mathlib.Core.List.{List}
use lib.ListN.{get_or}
use Rattle.lists.proofs.Bools.{test}
use Rattle.games.proofs.Sets.{minus, minus-in, minus-out, minus-both, minus-never, minus-taken}
use Rattle.games.proofs.Regions.{Arena, Region}
use Rattle.games.proofs.Attract.{Attraction}
use Rattle.games.proofs.Peel.{kept-arena, Holds}
use Rattle.games.proofs.Solve.{lost-in, lost-region}
use Rattle.orders.specs.Orders.{Lists}
use Rattle.orders.proofs.Orders.{wider-order, lists-moved, lists-same}
use Rattle.orders.proofs.Walks.{painted-set}
use Rattle.attracting.specs.Attracting.{Rows, from_of}
use Rattle.attracting.proofs.Outcome.{Role, waits, goal, past, Outcome, outcome, into}
use Rattle.levels.specs.Levels.{won_mark, taken_mark, lost_task, Loses}
use Rattle.levels.proofs.Marks.{lost-apart, won-high, live_state}
use Rattle.levels.proofs.Turning.{Turn, Above, G, i, X, one, lower, losts, same_above, Spot, taken, gone, held, spot}

-- the first n states of the order o are the arena, and the first `kept` of them are not the other player's yet; after its attraction, the first `rest` of o' are left
pub record Lost : Type 0 where
  pub above : Above
  pub rows : Rows above.turn.owners above.turn.sources above.turn.targets above.turn.priorities above.turn.letters above.turn.states
  pub n : ℕ
  pub kept : ℕ
  pub o : List ℕ
  pub listed : Lists (X above.turn) n o
  pub few : kept ≤ n
  pub rest : ℕ
  pub o' : List ℕ
  pub m₃ : List ℕ
  pub c₃ : List ℕ
  pub loses : Loses above.turn.owners above.turn.sources above.turn.targets above.turn.priorities above.turn.letters above.turn.states above.turn.p n kept
      o above.m₂ above.c₂ rest o' m₃ c₃

module _ (l : Lost) where
  abbrev b : Above
  b = l.above

  abbrev t : Turn
  t = b.turn

  -- ---- the attraction, from what the player has kept
  abbrev pub F : ℕ → Bool
  F = minus (X t) (losts b)

  abbrev hits : ℕ → ℕ → Bool
  hits s a = losts b ((G t).target s a)

  pub second : Outcome t.owners t.sources t.targets t.priorities t.letters t.states (lost_task t.p) b.m₂ b.c₂ l.loses.m₁ l.c₃ (X t) F hits
  second = outcome t.owners t.sources t.targets t.priorities t.letters t.states (lost_task t.p) b.m₂ b.c₂ l.loses.m₁ l.c₃
      (lost-apart t.p) (X t) F hits
      (λ s e. live_state t.states t.m s e) (minus-in (X t) (losts b)) (λ s h. role s h (test (X t s))) (λ s a e. into (X t) (losts b) ((G t).target s a) e) l.loses.attracts
    where
      by-spot : (s : ℕ) → X t s ≡ true → Spot b s → Role (lost_task t.p) (get_or b.m₂ s 0) (X t s) (F s)
      by-spot s e (taken k q) = waits e (minus-both (X t) (losts b) s e k) (inl q)
      by-spot s e (gone k q) = goal e (minus-taken (X t) (losts b) s k) q
      by-spot s e (held k q) = waits e (minus-both (X t) (losts b) s e k) (inr q)

      role : (s : ℕ) → s < t.states → (X t s ≡ true) ⊎ (X t s ≡ false) → Role (lost_task t.p) (get_or b.m₂ s 0) (X t s) (F s)
      role s h (inl e) = by-spot s e (spot b s e)
      role s h (inr f) =
          past f (minus-never (X t) (losts b) s f) (omega (arith, (same_above b s f).0, t.low s h f))

  abbrev pub two : Attraction (G t) (not (i t)) t.p (X t) F hits
  two = second.all

  abbrev pub B : ℕ → Bool
  B = two.set

  pub losts-in : (s : ℕ) → losts b s ≡ true → X t s ≡ true
  losts-in = lost-in (G t) t.p (X t) t.arena (i t) refl (one t) (lower b)

  pub losts-region : Region (G t) (not (i t)) t.p (X t) (Holds (losts b)) (lower b).choice
  losts-region = lost-region (G t) t.p (X t) t.arena (i t) refl (one t) (lower b)

  -- ---- what is left to the player
  abbrev pub Y : ℕ → Bool
  Y = minus F B

  pub Y-arena : Arena (G t) t.p Y
  Y-arena = kept-arena (G t) t.p (X t) t.arena (not (i t)) (losts b) (lower b).choice losts-in losts-region two

  pub Y-in : (s : ℕ) → Y s ≡ true → X t s ≡ true
  Y-in s e = minus-in (X t) (losts b) s (minus-in F B s e)

  pub Y-kept : (s : ℕ) → Y s ≡ true → losts b s ≡ false
  Y-kept s e = minus-out (X t) (losts b) s (minus-in F B s e)

  pub X-not-Y : (s : ℕ) → X t s ≡ false → Y s ≡ false
  X-not-Y s f = minus-never F B s (minus-never (X t) (losts b) s f)

  pub Y-listed : Lists Y l.rest l.o'
  Y-listed = lists-same (from_of t.owners t.sources t.targets t.priorities t.letters t.states (lost_task t.p) l.loses.m₁) Y l.rest l.o'
      second.left l.loses.waits.listed

  -- ---- the marks after that: theirs, and the rest held
  marks : (s : ℕ) → get_or l.m₃ s 0 ≡ cond (Y s) (taken_mark t.p) (cond (X t s) (won_mark t.p (not (i t))) (get_or l.loses.m₁ s 0))
  marks s =
      painted-set Y (taken_mark t.p) l.rest l.o' l.loses.m₂ l.m₃ Y-listed l.loses.held s
      ∙ ap (cond (Y s) (taken_mark t.p)) (painted-set (X t) (won_mark t.p (not (i t))) l.n l.o' l.loses.m₁ l.loses.m₂ listed l.loses.theirs s)
    where
      listed : Lists (X t) l.n l.o'
      listed = lists-moved (X t) l.n l.o l.o' l.listed (wider-order l.kept l.n l.o l.o' l.few l.loses.waits.moved)

  pub mark-Y : (s : ℕ) → Y s ≡ true → get_or l.m₃ s 0 ≡ taken_mark t.p
  mark-Y s e = marks s ∙ rw e refl

  pub mark-theirs : (s : ℕ) → X t s ≡ true → Y s ≡ false → get_or l.m₃ s 0 ≡ won_mark t.p (not (i t))
  mark-theirs s e f = marks s ∙ rw (f, e) refl

  -- outside the arena nothing has changed
  pub same-lost : (s : ℕ) → X t s ≡ false → (get_or l.m₃ s 0 ≡ get_or t.m s 0) × (get_or l.c₃ s 0 ≡ get_or t.c s 0)
  same-lost s f =
      let q = second.same s (second.out s (minus-never (X t) (losts b) s f)) in
      let z = same_above b s f in
      (marks s ∙ rw (X-not-Y s f, f) (q.0 ∙ z.0), q.1 ∙ z.1)

  -- outside Y: a low mark, neither held nor live
  pub not-held : (s : ℕ) → s < t.states → Y s ≡ false → get_or l.m₃ s 0 < taken_mark t.p
  not-held s h f = go (test (X t s))
    where
      go : (X t s ≡ true) ⊎ (X t s ≡ false) → get_or l.m₃ s 0 < taken_mark t.p
      go (inl e) = omega (arith, mark-theirs s e f, won-high t.p (not (i t)))
      go (inr g) = omega (arith, (same-lost s g).0, t.low s h g)
