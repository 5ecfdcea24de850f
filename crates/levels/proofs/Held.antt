-- What the player still holds of what is left to it, and what it attracts to that. The rest is live again. Assumes nothing.
use Prim.Native.Nat.{ℕ, ◌<◌}
use native.Mathlib.Omega.{arith}
use native.Mathlib.Decide.{dec_lt}
use mathlib.Core.Path.{◌≡◌, refl, sym, ap, ◌∙◌, subst}
use mathlib.Core.Logic.{◌⊎◌, inl, inr}
use mathlib.Core.Bool.{Bool, true, false, not, ◌&&◌, cond, true≢false}
use mathlib.Core.List.{List}
use lib.Dec.{eqb}
use lib.ListN.{get_or}
use Rattle.lists.proofs.Bools.{test, eqb≡, ≡eqb, and_l, and_r, both, bool-ext, same_or_not}
use Rattle.games.proofs.Sets.{minus, minus-in, minus-out, minus-both, minus-never, minus-taken}
use Rattle.games.proofs.Regions.{Row, Agrees, Region}
use Rattle.games.proofs.Attract.{Attraction}
use Rattle.games.proofs.Peel.{Holds as Passes}
use Rattle.games.proofs.Solve.{held-region}
use Rattle.orders.specs.Orders.{Among, Lists}
use Rattle.orders.proofs.Orders.{wider-order, lists-moved, lists-same}
use Rattle.orders.proofs.Walks.{painted-set}
use Rattle.attracting.specs.Attracting.{from_of}
use Rattle.attracting.proofs.Sweeping.{is-owns, not-owns}
use Rattle.attracting.proofs.Outcome.{Role, waits, goal, past, Outcome, outcome, into}
use Rattle.holding.specs.Holding.{Firm}
use Rattle.levels.specs.Levels.{won_mark, taken_mark, live, hold_of, held_task, Holds}
use Rattle.levels.proofs.Marks.{held-apart, won-high, live_state, live-mark, mark-live}
use Rattle.levels.proofs.Turning.{Turn, Above, G, i, X, one, lower, own_letter, letter-is}
use Rattle.levels.proofs.Losing.{Lost, F, second, B, Y, Y-in, Y-kept, Y-listed, mark-Y, not-held}

-- what is held of the states that are left, and attracted to them, is marked; the first `again` states of o'' remain
pub record Held : Type 0 where
  pub lost : Lost
  pub again : ℕ
  pub o'' : List ℕ
  pub m₄ : List ℕ
  pub c₄ : List ℕ
  pub holds : Holds lost.above.turn.owners lost.above.turn.sources lost.above.turn.targets lost.above.turn.priorities lost.above.turn.letters
      lost.above.turn.states lost.above.turn.p lost.rest lost.o' lost.m₃ lost.c₃ again o'' m₄ c₄

module _ (h : Held) where
  abbrev l : Lost
  l = h.lost

  abbrev b : Above
  b = l.above

  abbrev t : Turn
  t = b.turn

  -- the marks after some states were let go
  abbrev n₁ : List ℕ
  n₁ = h.holds.m₁

  Y-moved : Lists (Y l) l.rest h.holds.o₁
  Y-moved = lists-moved (Y l) l.rest l.o' h.holds.o₁ (Y-listed l) h.holds.released.moved

  -- a state is as it was, or let go
  each : (s : ℕ) → (get_or n₁ s 0 ≡ get_or l.m₃ s 0) ⊎ ((Y l s ≡ true) × (get_or n₁ s 0 ≡ 255))
  each s = go (h.holds.released.each s)
    where
      go : (get_or n₁ s 0 ≡ get_or l.m₃ s 0) ⊎ Among h.holds.o₁ h.holds.freed s → (get_or n₁ s 0 ≡ get_or l.m₃ s 0) ⊎ ((Y l s ≡ true) × (get_or n₁ s 0 ≡ 255))
      go (inl e) = inl e
      go (inr u) = inr (
        ap (Y l) (sym u.2) ∙ Y-moved.each u.0 (omega (arith, u.1, h.holds.released.few)),
        ap (λ (z : ℕ). get_or n₁ z 0) (sym u.2) ∙ h.holds.released.live u.0 u.1,
      )

  -- outside Y nothing has changed
  out : (s : ℕ) → Y l s ≡ false → get_or n₁ s 0 ≡ get_or l.m₃ s 0
  out s f = go (each s)
    where
      go : (get_or n₁ s 0 ≡ get_or l.m₃ s 0) ⊎ ((Y l s ≡ true) × (get_or n₁ s 0 ≡ 255)) → get_or n₁ s 0 ≡ get_or l.m₃ s 0
      go (inl e) = e
      go (inr u) = absurd (true≢false (sym u.0 ∙ f))

  -- ---- what is held
  abbrev pub H : ℕ → Bool
  H s = Y l s && eqb (get_or n₁ s 0) (taken_mark t.p)

  pub H-in : (s : ℕ) → H s ≡ true → Y l s ≡ true
  H-in s e = and_l (Y l s) (eqb (get_or n₁ s 0) (taken_mark t.p)) e

  H-mark : (s : ℕ) → H s ≡ true → get_or n₁ s 0 ≡ taken_mark t.p
  H-mark s e = eqb≡ (get_or n₁ s 0) (taken_mark t.p) (and_r (Y l s) (eqb (get_or n₁ s 0) (taken_mark t.p)) e)

  not-H : (s : ℕ) → Y l s ≡ true → H s ≡ false → get_or n₁ s 0 ≡ 255
  not-H s e f = go (each s)
    where
      go : (get_or n₁ s 0 ≡ get_or l.m₃ s 0) ⊎ ((Y l s ≡ true) × (get_or n₁ s 0 ≡ 255)) → get_or n₁ s 0 ≡ 255
      go (inl u) = absurd (true≢false (sym (both (Y l s) (eqb (get_or n₁ s 0) (taken_mark t.p)) e (≡eqb (get_or n₁ s 0) (taken_mark t.p) (u ∙ mark-Y l s e))) ∙ f))
      go (inr u) = u.1

  mark-H : (s : ℕ) → s < t.states → get_or n₁ s 0 ≡ taken_mark t.p → H s ≡ true
  mark-H s k e = go (test (Y l s))
    where
      go : (Y l s ≡ true) ⊎ (Y l s ≡ false) → H s ≡ true
      go (inl q) = both (Y l s) (eqb (get_or n₁ s 0) (taken_mark t.p)) q (≡eqb (get_or n₁ s 0) (taken_mark t.p) e)
      go (inr f) = absurd (omega (arith, not-held l s k f, out s f, e))

  abbrev FirmAt : ℕ → Type 0
  FirmAt = Firm t.owners t.sources t.targets t.priorities t.letters (hold_of t.p) n₁ l.c₃

  firm : (s : ℕ) → H s ≡ true → FirmAt s
  firm s e = let u = Y-moved.all s (H-in s e) in go u (dec_lt u.0 h.holds.freed)
    where
      go : (u : Among h.holds.o₁ l.rest s) → Dec (u.0 < h.holds.freed) → FirmAt s
      go u (yes k) = absurd (omega (arith, t.small, H-mark s e, ap (λ (z : ℕ). get_or n₁ z 0) (sym u.2) ∙ h.holds.released.live u.0 k))
      go u (no k) = subst FirmAt u.2 (h.holds.released.firm u.0 (omega arith) u.1)

  -- the letters are those of the player
  pub letter-kept : (s : ℕ) → B l s ≡ false → own_letter b s ≡ get_or l.c₃ s 0
  letter-kept s f = letter-is b s ∙ sym ((second l).same s f).1

  -- the player's letter leads to what is held
  own-leads : (s : ℕ) → H s ≡ true → (G t).owner s ≡ i t → H ((G t).target s (own_letter b s)) ≡ true
  own-leads s e o =
      let y = H-in s e in
      let u = (firm s e).own (is-owns (i t) (get_or t.owners (get_or t.sources s 0) 0) o) in
      subst (λ (z : ℕ). H ((G t).target s z) ≡ true) (sym (letter-kept s (minus-out (F l) (B l) s y)))
      (mark-H ((G t).target s (get_or l.c₃ s 0)) (l.rows.targets_few s (get_or l.c₃ s 0) (live_state t.states t.m s (Y-in l s y)) u.0) u.1)

  closed : (s a : ℕ) → H s ≡ true → Row (G t) t.p (Y l) s a → Agrees (G t) (i t) (own_letter b) s a → H ((G t).target s a) ≡ true
  closed s a e r k = go (same_or_not ((G t).owner s) (i t)) (test (H ((G t).target s a)))
    where
      go : ((G t).owner s ≡ i t) ⊎ ((G t).owner s ≡ not (i t)) → (H ((G t).target s a) ≡ true) ⊎ (H ((G t).target s a) ≡ false) → H ((G t).target s a) ≡ true
      go o (inl q) = q
      go (inl o) (inr f) = subst (λ (z : ℕ). H ((G t).target s z) ≡ true) (sym (k o)) (own-leads s e o)
      go (inr o) (inr f) =
          absurd (((firm s e).other (not-owns (i t) (get_or t.owners (get_or t.sources s 0) 0) o)).none a r.letter r.above (not-H ((G t).target s a) r.within f))

  pub H-region : Region (G t) (i t) t.p (Y l) (Passes H) (own_letter b)
  H-region = held-region (G t) t.p (X t) t.arena (i t) refl (one t) (lower b) (Y l) H (Y-in l) (λ s e. Y-in l s (H-in s e)) (λ s e. Y-kept l s (H-in s e))
      (λ s e o. H-in ((G t).target s (own_letter b s)) (own-leads s e o)) closed

  -- ---- what the player attracts to that
  abbrev hits : ℕ → ℕ → Bool
  hits s a = H ((G t).target s a)

  pub third : Outcome t.owners t.sources t.targets t.priorities t.letters t.states (held_task t.p) n₁ l.c₃ h.holds.m₂ h.c₄ (Y l) (minus (Y l) H) hits
  third = outcome t.owners t.sources t.targets t.priorities t.letters t.states (held_task t.p) n₁ l.c₃ h.holds.m₂ h.c₄
      (held-apart t.p t.small) (Y l) (minus (Y l) H) hits (λ s e. live_state t.states t.m s (Y-in l s e)) (minus-in (Y l) H)
      (λ s k. role s k (test (Y l s)) (test (H s))) (λ s a e. into (Y l) H ((G t).target s a) e) h.holds.attracts
    where
      role : (s : ℕ) → s < t.states → (Y l s ≡ true) ⊎ (Y l s ≡ false) → (H s ≡ true) ⊎ (H s ≡ false) → Role (held_task t.p) (get_or n₁ s 0) (Y l s) (minus (Y l) H s)
      role s k (inl e) (inl q) = goal e (minus-taken (Y l) H s q) (H-mark s q)
      role s k (inl e) (inr q) = waits e (minus-both (Y l) H s e q) (inl (not-H s e q))
      role s k (inr f) q =
          past f (minus-never (Y l) H s f) (omega (arith, not-held l s k f, out s f))

  abbrev pub three : Attraction (G t) (i t) t.p (Y l) (minus (Y l) H) hits
  three = third.all

  abbrev pub C : ℕ → Bool
  C = three.set

  -- ---- what remains to be solved
  abbrev pub Z : ℕ → Bool
  Z = minus (minus (Y l) H) C

  Z-listed : Lists Z h.again h.o''
  Z-listed = lists-same (from_of t.owners t.sources t.targets t.priorities t.letters t.states (held_task t.p) h.holds.m₂) Z h.again h.o''
      third.left h.holds.waits.listed

  marks : (s : ℕ) → get_or h.m₄ s 0 ≡ cond (Z s) 255 (cond (Y l s) (won_mark t.p (i t)) (get_or h.holds.m₂ s 0))
  marks s =
      painted-set Z 255 h.again h.o'' h.holds.m₃ h.m₄ Z-listed h.holds.remains s
      ∙ ap (cond (Z s) 255) (painted-set (Y l) (won_mark t.p (i t)) l.rest h.o'' h.holds.m₂ h.holds.m₃ listed h.holds.own s)
    where
      listed : Lists (Y l) l.rest h.o''
      listed = lists-moved (Y l) l.rest h.holds.o₁ h.o'' Y-moved
          (wider-order h.holds.freed l.rest h.holds.o₁ h.o'' h.holds.released.few h.holds.waits.moved)

  pub mark-open : (s : ℕ) → Z s ≡ true → get_or h.m₄ s 0 ≡ 255
  mark-open s e = marks s ∙ rw e refl

  pub mark-own : (s : ℕ) → Y l s ≡ true → Z s ≡ false → get_or h.m₄ s 0 ≡ won_mark t.p (i t)
  mark-own s e f = marks s ∙ rw (f, e) refl

  -- outside Y nothing has changed
  pub same-held : (s : ℕ) → Y l s ≡ false → (get_or h.m₄ s 0 ≡ get_or l.m₃ s 0) × (get_or h.c₄ s 0 ≡ get_or l.c₃ s 0)
  same-held s f =
      let q = third.same s (third.out s (minus-never (Y l) H s f)) in
      (marks s ∙ rw (minus-never (minus (Y l) H) C s (minus-never (Y l) H s f), f) (q.0 ∙ out s f), q.1)

  pub Z-live : (s : ℕ) → live t.states h.m₄ s ≡ Z s
  Z-live s = bool-ext (live t.states h.m₄ s) (Z s) (λ e. to e (test (Y l s)) (test (Z s)))
      (λ e. mark-live t.states h.m₄ s (live_state t.states t.m s (Y-in l s (minus-in (Y l) H s (minus-in (minus (Y l) H) C s e)))) (mark-open s e))
    where
      to : live t.states h.m₄ s ≡ true → (Y l s ≡ true) ⊎ (Y l s ≡ false) → (Z s ≡ true) ⊎ (Z s ≡ false) → Z s ≡ true
      to e y (inl q) = q
      to e (inl y) (inr f) = absurd (omega (arith, t.small, mark-own s y f, live-mark t.states h.m₄ s e, won-high t.p (i t)))
      to e (inr y) (inr f) = absurd (omega (arith, not-held l s (live_state t.states h.m₄ s e) y, (same-held s y).0, live-mark t.states h.m₄ s e, t.small))

  pub held-listed : Lists (live t.states h.m₄) h.again h.o''
  held-listed = lists-same Z (live t.states h.m₄) h.again h.o'' (λ s. sym (Z-live s)) Z-listed
