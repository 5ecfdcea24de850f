-- What the steps of a turn ask for, and what they come to, over the values that the code has. Assumes nothing.
use Prim.Native.Nat.{ℕ, ◌+◌, ◌≤◌, ◌<◌}
use native.Mathlib.Omega.{arith}
use native.Mathlib.Decide.{dec_lt}
use mathlib.Core.Path.{◌≡◌, sym, ◌∙◌, subst}
use mathlib.Core.Logic.{◌⊎◌, inl, inr, ◌≢◌}
use mathlib.Core.Bool.{true, not}
use mathlib.Core.List.{List}
use lib.Dec.{eqb, ltb}
use lib.ListN.{length, get_or}
use borrow.Author.Tests.{lt-ltb}
use Rattle.lists.proofs.Bools.{eqb≡, and_l, and_r, both, or_cases, lt-true}
use Rattle.games.specs.Games.{serves}
use Rattle.orders.specs.Orders.{Among, Lists, Rearranged, marked, Gathered}
use Rattle.orders.proofs.Orders.{order-of-order, wider-order, inside-moved, lists-same, in-front}
use Rattle.attracting.specs.declared.Task.{Task}
use Rattle.attracting.specs.Attracting.{waiting, Apart, from_of}
use Rattle.holding.specs.declared.Hold.{Hold}
use Rattle.holding.specs.Holding.{Released}
use Rattle.levels.specs.Levels.{won_mark, taken_mark, live, lost_task, hold_of, held_task, Turning, Loses, Holds, Turns, some_lost}
use Rattle.levels.proofs.Marks.{held-apart, won-low, won-high, live_state, live-mark, mark-live, live-waits}

-- ---- marks and tasks
-- ---- a list of states that are painted
pub paint-asks : (states n r : ℕ) (o o' : List ℕ) (size : ℕ) → r ≤ n → n ≤ length o → ((i : ℕ) → i < n → get_or o i 0 < states) → Rearranged r o o' → states ≤ size
    → (n ≤ length o') × ((i : ℕ) → i < n → get_or o' i 0 < size)
paint-asks states n r o o' size le long inside moved few =
    (omega (arith, moved.long), λ i h. omega (arith, inside-moved n states o o' (wider-order r n o o' le moved) inside i h))

pub paint-asks-twice : (states n r : ℕ) (o o₁ o' : List ℕ) (size : ℕ) → r ≤ n → n ≤ length o → ((i : ℕ) → i < n → get_or o i 0 < states) → Rearranged n o o₁ → Rearranged r o₁ o' → states ≤ size
    → (n ≤ length o') × ((i : ℕ) → i < n → get_or o' i 0 < size)
paint-asks-twice states n r o o₁ o' size le long inside first second few =
    paint-asks states n n o o' size (omega arith) long inside (order-of-order n o o₁ o' first (wider-order r n o₁ o' le second)) few

-- a front of it
pub front-asks : (n m long : ℕ) (at : ℕ → ℕ) (size : ℕ) → m ≤ n → (n ≤ long) × ((i : ℕ) → i < n → at i < size) → (m ≤ long) × ((i : ℕ) → i < m → at i < size)
front-asks n m long at size le x = (omega (arith, x.0), λ i h. x.1 i (omega arith))

-- a table stays long enough
pub marks-few : {n a b d : ℕ} → n ≤ a → b ≡ a → d ≡ b → n ≤ d
marks-few h e f = omega arith

pub marks-few-more : {n a b d g : ℕ} → n ≤ a → b ≡ a → d ≡ b → g ≡ d → n ≤ g
marks-few-more h e f q = omega arith

pub le_trans : {a b d : ℕ} → a ≤ b → b ≤ d → a ≤ d
le_trans h l = omega arith

module _ (owners sources targets priorities : List ℕ) (letters states p : ℕ) (small : p ≤ 32) where
  -- ---- the other player takes its own
  -- what is asked of an attraction
  abbrev pub Asks : Task → List ℕ → ℕ → List ℕ → Type 0
  Asks k m n o = Apart k × Lists (from_of owners sources targets priorities letters states k m) n o

  pub loses-long : (n kept : ℕ) (o m c : List ℕ) (rest : ℕ) (o' m' c' : List ℕ) → Loses owners sources targets priorities letters states p n kept o m c rest o' m' c'
      → (length m' ≡ length m) × (length c' ≡ length c)
  loses-long n kept o m c rest o' m' c' l = (l.held.long ∙ l.theirs.long ∙ l.attracts.so_far.marks_long, l.attracts.so_far.choices_long)

  -- ---- what is still held
  held-lists : (rest : ℕ) (o m c : List ℕ) (freed : ℕ) (o₁ m₁ : List ℕ) → Released owners sources targets priorities letters (hold_of p) rest o m c freed o₁ m₁ → rest ≤ length o
      → ((i : ℕ) → i < rest → get_or o i 0 < states) → ((s : ℕ) → s < states → get_or m s 0 ≢ 255)
      → Lists (from_of owners sources targets priorities letters states (held_task p) m₁) freed o₁
  held-lists rest o m c freed o₁ m₁ d long inside none =
      lists-same (live states m₁) (from_of owners sources targets priorities letters states (held_task p) m₁) freed o₁ (live-waits states m₁) (record {
        long = omega (arith, d.few, d.moved.long);
        each = λ i h. mark-live states m₁ (get_or o₁ i 0) (inside-moved rest states o o₁ d.moved inside i (omega (arith, d.few))) (d.live i h);
        all = λ s e. all s (live_state states m₁ s e) (live-mark states m₁ s e) (d.each s);
      })
    where
      all : (s : ℕ) → s < states → get_or m₁ s 0 ≡ 255 → (get_or m₁ s 0 ≡ get_or m s 0) ⊎ Among o₁ freed s → Among o₁ freed s
      all s h e (inl q) = absurd (none s h (sym q ∙ e))
      all s h e (inr q) = q

  pub held_asks : (k : Task) (g : Hold) (rest : ℕ) (o m c : List ℕ) (freed : ℕ) (o₁ m₁ : List ℕ) → k ≡ held_task p → g ≡ hold_of p → Released owners sources targets priorities letters g rest o m c freed o₁ m₁ → rest ≤ length o → ((i : ℕ) → i < rest → get_or o i 0 < states)
      → ((s : ℕ) → s < states → get_or m s 0 ≢ 255) → Asks k m₁ freed o₁
  held_asks k g rest o m c freed o₁ m₁ e f d long inside none =
      subst (λ (z : Task). Asks z m₁ freed o₁) (sym e) (
        held-apart p small,
        held-lists rest o m c freed o₁ m₁ (subst (λ (z : Hold). Released owners sources targets priorities letters z rest o m c freed o₁ m₁) f d) long inside none,
      )

  -- ---- a turn
  module _ (n : ℕ) (o m : List ℕ) (x : Turning owners sources targets priorities letters states p n o m) where
    waiting-high : (a : ℕ) → waiting (lost_task p) a ≡ true → taken_mark p ≤ a
    waiting-high a e = go (or_cases (eqb a (taken_mark p)) (eqb a (won_mark (p + 1) (serves p))) e)
      where
        go : (eqb a (taken_mark p) ≡ true) ⊎ (eqb a (won_mark (p + 1) (serves p)) ≡ true) → taken_mark p ≤ a
        go (inl t) = omega (arith, eqb≡ a (taken_mark p) t)
        go (inr t) = omega (arith, eqb≡ a (won_mark (p + 1) (serves p)) t, won-low (p + 1) (serves p))

    -- what was gathered waits for the other player's attraction
    pub gathered-lists : (k : Task) (kept : ℕ) (o₁ : List ℕ) → k ≡ lost_task p → Gathered k.live k.also n m o kept o₁
        → Lists (from_of owners sources targets priorities letters states (lost_task p) m) kept o₁
    gathered-lists k kept o₁ e d = lists (subst (λ (t : Task). Gathered t.live t.also n m o kept o₁) e d)
      where
        lists : Gathered (taken_mark p) (won_mark (p + 1) (serves p)) n m o kept o₁ → Lists (from_of owners sources targets priorities letters states (lost_task p) m) kept o₁
        lists g = record {
          long = omega (arith, g.few, g.moved.long, x.long);
          each = λ i h. both (ltb (get_or o₁ i 0) states) (waiting (lost_task p) (get_or m (get_or o₁ i 0) 0))
              (lt-ltb (get_or o₁ i 0) states (inside-moved n states o o₁ g.moved x.inside i (omega (arith, g.few)))) (g.front i h);
          all = λ s u. all s (lt-true s states (and_l (ltb s states) (waiting (lost_task p) (get_or m s 0)) u)) (and_r (ltb s states) (waiting (lost_task p) (get_or m s 0)) u);
        }
          where
            all : (s : ℕ) → s < states → waiting (lost_task p) (get_or m s 0) ≡ true → Among o₁ kept s
            all s h u = in-front (marked (taken_mark p) (won_mark (p + 1) (serves p)) m) n kept o₁ g.others s u (g.moved.forth s (x.marked_in s h (waiting-high (get_or m s 0) u)))

    pub lose-asks : (a b kept : ℕ) (o₁ : List ℕ) → Gathered a b n m o kept o₁ → (kept ≤ n) × (n ≤ length o₁) × ((i : ℕ) → i < n → get_or o₁ i 0 < states)
    lose-asks a b kept o₁ g = (g.few, omega (arith, g.moved.long, x.long), inside-moved n states o o₁ g.moved x.inside)

    -- after the other player took its own, the rest is a front of the order, and nothing is live
    pub hold-asks : (a b kept : ℕ) (o₁ c : List ℕ) (rest : ℕ) (o' m' c' : List ℕ) → Gathered a b n m o kept o₁ → Loses owners sources targets priorities letters states p n kept o₁ m c rest o' m' c'
        → (rest ≤ length o') × ((i : ℕ) → i < rest → get_or o' i 0 < states)
    hold-asks a b kept o₁ c rest o' m' c' g l =
        front-asks n rest (length o') (λ i. get_or o' i 0) states (omega (arith, l.waits.few, g.few))
        (paint-asks-twice states n kept o o₁ o' states g.few x.long x.inside g.moved l.waits.moved (omega arith))

    pub none-live-yet : (kept : ℕ) (o₁ c : List ℕ) (rest : ℕ) (o' m' c' : List ℕ) → Loses owners sources targets priorities letters states p n kept o₁ m c rest o' m' c'
        → (s : ℕ) → s < states → get_or m' s 0 ≢ 255
    none-live-yet kept o₁ c rest o' m' c' l s h = held (l.held.each s)
      where
        first : (get_or l.m₁ s 0 ≡ get_or m s 0) ⊎ ((from_of owners sources targets priorities letters states (lost_task p) m s ≡ true) × (get_or l.m₁ s 0 ≡ won_mark (p + 1) (not (serves p))))
            → get_or l.m₁ s 0 ≢ 255
        first (inl e) = λ z. x.none_live s h (sym e ∙ z)
        first (inr e) = λ z. absurd (omega (arith, e.1, z, won-high (p + 1) (not (serves p))))

        theirs : (get_or l.m₂ s 0 ≡ won_mark p (not (serves p))) ⊎ (get_or l.m₂ s 0 ≡ get_or l.m₁ s 0) → get_or l.m₂ s 0 ≢ 255
        theirs (inl e) = λ z. absurd (omega (arith, e, z, won-high p (not (serves p))))
        theirs (inr e) = λ z. first (l.attracts.so_far.each s) (sym e ∙ z)

        held : (get_or m' s 0 ≡ taken_mark p) ⊎ (get_or m' s 0 ≡ get_or l.m₂ s 0) → get_or m' s 0 ≢ 255
        held (inl e) = λ z. absurd (omega (arith, e, z))
        held (inr e) = λ z. theirs (l.theirs.each s) (sym e ∙ z)

    pub turns-lost : (k : Task) (kept rest : ℕ) (c o₁ o₂ m₁ c₁ : List ℕ) (again : ℕ) (o' m' c' : List ℕ) → k ≡ lost_task p → kept ≢ n → Gathered k.live k.also n m o kept o₁
        → Loses owners sources targets priorities letters states p n kept o₁ m c rest o₂ m₁ c₁ → Holds owners sources targets priorities letters states p rest o₂ m₁ c₁ again o' m' c'
        → Turns owners sources targets priorities letters states p n o m c again o' m' c'
    turns-lost k kept rest c o₁ o₂ m₁ c₁ again o' m' c' e f g l h =
        let d = subst (λ (t : Task). Gathered t.live t.also n m o kept o₁) e g in some_lost kept rest o₁ o₂ m₁ c₁ (lt d.few f) d l h
      where
        lt : kept ≤ n → kept ≢ n → kept < n
        lt a b = go (dec_lt kept n)
          where
            go : Dec (kept < n) → kept < n
            go (yes z) = z
            go (no z) = absurd (b (omega arith))
