-- A set, and with it others that are passed: what the lists of a root are then. Assumes nothing.
use Prim.Native.Nat.{ℕ, zero, suc, ◌+◌, ◌-◌, ◌≤◌, ◌<◌}
use native.Mathlib.Omega.{arith}
use native.Mathlib.Decide.{ℕ_discrete, dec_lt}
use mathlib.Core.Path.{◌≡◌, refl, sym, ap, ap₂, ◌∙◌, subst}
use mathlib.Core.Logic.{◌⊎◌, inl, inr, ◌≢◌}
use mathlib.Core.Bool.{Bool, true, false, cond, true≢false}
use mathlib.Core.List.{List, [], ◌∷◌, map, Memᴰ}
use lib.Bits.{bit_and, bit_or}
use lib.Dec.{eqb}
use lib.ListN.{length, get_or, take, drop, set, length-map, get_or-append, take-append-drop}
use lib.Seq.{length-take-le}
use Rattle.lists.specs.Bools.{differs}
use Rattle.lists.proofs.Bools.{test, eqb≡}
use Rattle.lists.proofs.Lists.{mem-at}
use Rattle.masks.specs.Masks.{inside}
use Rattle.masks.proofs.Bits.{has-none, inside-refl, inside-trans, inside-le}
use Rattle.masks.proofs.Subsets.{below-inside}
use Rattle.policy.specs.declared.Policy.{Policy}
use Rattle.policy.specs.Policies.{colours_of, in_family, accepting}
use Rattle.policy.specs.ByColour.{edges_in, table_edges_to, table_edges, table_colours}
use Rattle.policy.proofs.Laws.{accepting-is, colours-up}
use Rattle.policy.proofs.ByColour.{edges-in-colours}
use Rattle.graph.specs.Cycles.{is_cycle}
use Rattle.graph.proofs.Cycles.{cycle-some}
use Rattle.components.specs.Components.{largest_in}
use Rattle.candidates.specs.Candidates.{are_long, wanted, is_open, is_wanted, with_cycles, candidates_to, Live}
use Rattle.candidates.proofs.Candidates.{colours_few}
use Rattle.candidates.proofs.Full.{inside-colours}
use Rattle.candidates.proofs.Wanted.{in-none}
use Rattle.candidates.proofs.Live.{part-unwanted, largest-within, in-largest, live-less, live_both, live-found, absent-in}
use Rattle.listing.specs.declared.Counts.{Counts}
use Rattle.listing.specs.Listing.{Hued, PartsOf, OnCycles, Passed, Settled, Listed}
use Rattle.listing.proofs.Appending.{hue-is, set-edges, set-listed}
use Rattle.looks.specs.Spans.{upper}
use Rattle.looks.proofs.Spans.{upper-le, span-has, span-in}
use Rattle.listing.proofs.Turns.{counts_are, other_hues, same_count, other_masks, same_masks, passed, live-set, listed-accepting, listed-rejecting}

-- the edges of no colour are the quiet ones
none-to : (by : List ℕ) (n : ℕ) → table_edges_to by n 0 ≡ get_or by 8 0
unfolding table_edges_to
none-to by zero = refl
none-to by (suc n) = ap (λ (b : Bool). cond b (bit_or (table_edges_to by n 0) (get_or by n 0)) (table_edges_to by n 0)) (has-none n) ∙ none-to by n

of_none : (by : List ℕ) → table_edges by 0 ≡ get_or by 8 0
unfolding table_edges
of_none by = none-to by 8

-- no cycle is quiet where no edge is
no-quiet : {p : Policy} {states letters : ℕ} {heads out into by : List ℕ} → PartsOf p states letters heads out into by → get_or by 8 0 ≡ 0 → (y : ℕ) → is_cycle p y ≡ true → colours_of p y ≢ 0
no-quiet {p} {by = by} t z y cy e =
    cycle-some p y cy (in-none y (subst (λ (m : ℕ). inside y m ≡ true) (sym (set-edges t 0) ∙ of_none by ∙ z) (inside-colours p t.graph.lawful y 0 cy (subst (λ (d : ℕ). inside d 0 ≡ true) (sym e) (inside-refl 0)))))

-- the lists with other live edges
relive : {p : Policy} {by : List ℕ} {r n : ℕ} {a ah t th live live' : List ℕ} {k : Counts} → ((d : ℕ) → d < length live' → Live p r d (get_or live' d 0)) → Listed p by r n a ah t th live k → Listed p by r n a ah t th live' k
relive are s = record { accepting_are = s.accepting_are; rejecting_are = s.rejecting_are; accepting_hued = s.accepting_hued; rejecting_hued = s.rejecting_hued; live_are = are }

-- how many of the verdict v are listed, by their colours
pub same_is : {p : Policy} {by : List ℕ} {r n : ℕ} {a ah t th live : List ℕ} {k : Counts} → Listed p by r n a ah t th live k → (v : Bool) → length (cond v (take k.accepting ah) (take k.rejecting th)) ≡ same_count v k
same_is {ah = ah} {th = th} {k = k} s true = length-take-le k.accepting ah s.accepting_hued.hues_long
same_is {ah = ah} {th = th} {k = k} s false = length-take-le k.rejecting th s.rejecting_hued.hues_long

pub left_le : (e up c : ℕ) → up ≤ c → cond (eqb e 0) up c ≤ c
left_le e up c h = go (eqb e 0)
  where
    go : (b : Bool) → cond b up c ≤ c
    go true = h
    go false = omega arith

module _ {p : Policy} {states letters : ℕ} {heads out into by : List ℕ} (t : PartsOf p states letters heads out into by) (r used : ℕ) (eu : used ≡ colours_of p r) (c : ℕ) (h : c < used) where
  small : used < 256
  small = omega (arith, eu, colours_few p t.graph.lawful r)

  abbrev up : ℕ
  up = upper used c

  low : up ≤ c
  low = upper-le used c h small

  module _ (a₀ ah₀ r₀ rh₀ live : List ℕ) (k : Counts) where
    abbrev Here : ℕ → Type 0
    Here n = Listed p by r n a₀ ah₀ r₀ rh₀ live k

    abbrev Pass : Bool → ℕ → Type 0
    Pass v x = Passed p r v (other_masks v k a₀ r₀) (other_hues v k ah₀ rh₀) (same_masks v k a₀ r₀) (same_count v k) x

    from : (v : Bool) (lo : ℕ) → lo ≤ c → ((x : ℕ) → lo ≤ x → x < c → inside x used ≡ true → Pass v x) → (inside c used ≡ true → Pass v c) → Here (used - 1 - c) → Here (used - lo)
    from v lo l each this s = passed t r used eu a₀ ah₀ r₀ rh₀ live k v lo (suc c) (omega (arith, l)) (omega (arith, h)) (λ x a b i. go x a b i (ℕ_discrete x c)) (subst Here (omega arith) s)
      where
        go : (x : ℕ) → lo ≤ x → x < suc c → inside x used ≡ true → Dec (x ≡ c) → Pass v x
        go x a b i (yes e) = subst (Pass v) (sym e) (this (subst (λ (y : ℕ). inside y used ≡ true) e i))
        go x a b i (no e) = each x a (omega (arith, b, e)) i

    pub step-outside : inside c used ≡ false → Here (used - 1 - c) → Here (used - c)
    step-outside f s = from true c (omega arith) (λ x a b i. absurd (omega (arith, a, b))) (λ i. absurd (true≢false (sym i ∙ f))) s

    pub step-closed : (v : Bool) → in_family p c ≡ v → is_open c (other_hues v k ah₀ rh₀) (same_count v k) ≡ false → Here (used - 1 - c) → Here (used - c)
    step-closed v f o s = from v c (omega arith) (λ x a b i. absurd (omega (arith, a, b))) (λ i. inr (f, inl o)) s

    -- with its span
    pub step-passed : (v : Bool) → in_family p c ≡ v → is_open c (other_hues v k ah₀ rh₀) (same_count v k) ≡ false
        → ((x : ℕ) → up ≤ x → x < c → inside up x ≡ true → inside x c ≡ true → ((x ≡ 0) × (get_or by 8 0 ≡ 0)) ⊎ ((in_family p x ≡ v) × (is_open x (other_hues v k ah₀ rh₀) (same_count v k) ≡ false)))
        → Here (used - 1 - c) → Here (used - up)
    step-passed v f o each s =
        from v up low (λ x a b i. go x (each x a b (span-has used c h small x i a (omega (arith, b))) (span-in used c h small x i a (omega (arith, b))))) (λ i. inr (f, inl o)) s
      where
        go : (x : ℕ) → ((x ≡ 0) × (get_or by 8 0 ≡ 0)) ⊎ ((in_family p x ≡ v) × (is_open x (other_hues v k ah₀ rh₀) (same_count v k) ≡ false)) → Pass v x
        go x (inl q) = inl (λ y cy i e. no-quiet t q.1 y cy (e ∙ q.0))
        go x (inr q) = inr (q.0, inl q.1)

    -- the sets that the live edges m lack a colour of
    lacking : (m lo : ℕ) → Live p r c m → up ≤ lo → lo ≤ c → ((x : ℕ) → lo ≤ x → x ≤ c → inside up x ≡ true → inside x (colours_of p m) ≡ true → ⊥) → Here (used - 1 - c) → Here (used - lo)
    lacking m lo v l l' never s =
        from true lo l' (λ x a b i. inl (absent x a (omega (arith, b)) i)) (λ i. inl (absent c l' (omega arith) i)) s
      where
        absent : (x : ℕ) → lo ≤ x → x ≤ c → inside x used ≡ true → (y : ℕ) → is_cycle p y ≡ true → inside y r ≡ true → colours_of p y ≢ x
        absent x a b i = absent-in p t.graph.lawful r c m x v (span-in used c h small x i (omega (arith, a, l)) b) (go (test (inside x (colours_of p m))))
          where
            go : (inside x (colours_of p m) ≡ true) ⊎ (inside x (colours_of p m) ≡ false) → inside x (colours_of p m) ≡ false
            go (inl q) = absurd (never x a b (span-has used c h small x i (omega (arith, a, l)) b) q)
            go (inr q) = q

    pub step-lacking : (m : ℕ) → Live p r c m → inside up (colours_of p m) ≡ false → Here (used - 1 - c) → Here (used - up)
    step-lacking m v f s = lacking m up v (omega arith) low (λ x a b i q. true≢false (sym (inside-trans up x (colours_of p m) i q) ∙ f)) s

  -- to the set that has the colours of the live edges m
  pub step-jump : (a₀ ah₀ r₀ rh₀ live : List ℕ) (k : Counts) (m e : ℕ) → Live p r c m → inside m (edges_in p c) ≡ true → inside up (colours_of p m) ≡ true → colours_of p m < c → used < length live
      → e ≡ bit_and (get_or live (colours_of p m) 0) m → Listed p by r (used - 1 - c) a₀ ah₀ r₀ rh₀ live k → Listed p by r (used - (colours_of p m + 1)) a₀ ah₀ r₀ rh₀ (set live (colours_of p m) e) k
  step-jump a₀ ah₀ r₀ rh₀ live k m e v em i l long q s =
      let g = colours_of p m in
      let down : inside g c ≡ true = inside-trans g (colours_of p (edges_in p c)) c (colours-up p m (edges_in p c) em) (edges-in-colours p c) in
      let both : Live p r g e = subst (Live p r g) (sym q) (live_both p t.graph.lawful r g (get_or live g 0) m (s.live_are g (omega (arith, l, long, h))) (live-less p t.graph.lawful r c g m down v)) in
      relive (live-set p r g e live s.live_are both)
      (lacking a₀ ah₀ r₀ rh₀ live k m (g + 1) v (omega (arith, inside-le up g i)) (omega (arith, l)) (λ x a b j w. omega (arith, a, inside-le x g w)) s)

  -- after the set, where its live edges have become e
  after : (a₀ ah₀ r₀ rh₀ live : List ℕ) (k : Counts) (e left : ℕ) → Live p r c e → left ≡ cond (eqb e 0) up c → Listed p by r (used - 1 - c + 1) a₀ ah₀ r₀ rh₀ live k → Listed p by r (used - left) a₀ ah₀ r₀ rh₀ live k
  after a₀ ah₀ r₀ rh₀ live k e left v q s = subst (λ (x : ℕ). Listed p by r (used - x) a₀ ah₀ r₀ rh₀ live k) (sym q) (go (test (eqb e 0)))
    where
      next : Listed p by r (used - c) a₀ ah₀ r₀ rh₀ live k
      next = let n : used - 1 - c + 1 ≡ used - c = omega (arith, h) in subst (λ (x : ℕ). Listed p by r x a₀ ah₀ r₀ rh₀ live k) n s

      gone : e ≡ 0 → (x : ℕ) → up ≤ x → x < c → inside x used ≡ true → (y : ℕ) → is_cycle p y ≡ true → inside y r ≡ true → colours_of p y ≢ x
      gone z x a b i y cy j w =
          cycle-some p y cy (in-none y (subst (λ (m : ℕ). inside y m ≡ true) z (v.cycles y cy j (subst (λ (d : ℕ). inside d c ≡ true) (sym w) (span-in used c h small x i a (omega (arith, b)))))))

      go : (eqb e 0 ≡ true) ⊎ (eqb e 0 ≡ false) → Listed p by r (used - cond (eqb e 0) up c) a₀ ah₀ r₀ rh₀ live k
      go (inr f) = subst (λ (b : Bool). Listed p by r (used - cond b up c) a₀ ah₀ r₀ rh₀ live k) (sym f) next
      go (inl z) =
          subst (λ (b : Bool). Listed p by r (used - cond b up c) a₀ ah₀ r₀ rh₀ live k) (sym z)
          (passed t r used eu a₀ ah₀ r₀ rh₀ live k true up c low (omega (arith, h)) (λ x a b i. inl (gone (eqb≡ e 0 z) x a b i)) next)

  -- after it, where sets of its span are settled
  after-settled : (a₀ ah₀ r₀ rh₀ live : List ℕ) (k : Counts) (b : Bool) (e left : ℕ) → Live p r c e → up ≤ left → left ≤ c → Settled p b up c e (other_masks b k a₀ r₀) (same_masks b k a₀ r₀) left
      → Listed p by r (used - 1 - c + 1) a₀ ah₀ r₀ rh₀ live k → Listed p by r (used - left) a₀ ah₀ r₀ rh₀ live k
  after-settled a₀ ah₀ r₀ rh₀ live k b e left v l l' settled s =
      let n : used - 1 - c + 1 ≡ used - c = omega (arith, h) in
      passed t r used eu a₀ ah₀ r₀ rh₀ live k b left c l' (omega (arith, h)) (λ x a d i. go x i (omega (arith, a, l)) d (settled x a d (span-has used c h small x i (omega (arith, a, l)) (omega (arith, d))) (span-in used c h small x i (omega (arith, a, l)) (omega (arith, d)))))
      (subst (λ (x : ℕ). Listed p by r x a₀ ah₀ r₀ rh₀ live k) n s)
    where
      go : (x : ℕ) → inside x used ≡ true → up ≤ x → x < c
          → ((y : ℕ) → is_cycle p y ≡ true → inside y e ≡ true → colours_of p y ≢ x) ⊎ ((in_family p x ≡ b) × ((y : ℕ) → is_cycle p y ≡ true → inside y e ≡ true → colours_of p y ≡ x → is_wanted (colours_of p) x y (other_masks b k a₀ r₀) (same_masks b k a₀ r₀) ≡ false))
          → Passed p r b (other_masks b k a₀ r₀) (other_hues b k ah₀ rh₀) (same_masks b k a₀ r₀) (same_count b k) x
      go x i a d (inl none) = inl (λ y cy j w. none y cy (v.cycles y cy j (subst (λ (g : ℕ). inside g c ≡ true) (sym w) (span-in used c h small x i a (omega (arith, d))))) w)
      go x i a d (inr q) = inr (q.0, inr (λ y cy j w. q.1 y cy (v.cycles y cy j (subst (λ (g : ℕ). inside g c ≡ true) (sym w) (span-in used c h small x i a (omega (arith, d))))) w))

  module _ (a₀ ah₀ r₀ rh₀ live : List ℕ) (k : Counts) (m : ℕ) (v : Live p r c m) (e : ℕ) (on : OnCycles p m e) (left : ℕ) (s : Listed p by r (used - 1 - c) a₀ ah₀ r₀ rh₀ live k) where
    found : Live p r c e
    found = live-found p t.graph.lawful r c m e v on.within on.cycles

    now-live : (d : ℕ) → d < length (set live c e) → Live p r d (get_or (set live c e) d 0)
    now-live = live-set p r c e live s.live_are found

    this : c ≡ colours_of p r - 1 - (used - 1 - c)
    this = omega (arith, eu, h)

    -- a set that is not open
    pub step-looked : (b : Bool) → left ≡ cond (eqb e 0) up c → in_family p c ≡ b → is_open c (other_hues b k ah₀ rh₀) (same_count b k) ≡ false → Listed p by r (used - left) a₀ ah₀ r₀ rh₀ (set live c e) k
    step-looked b q f o =
        let n : used - c ≡ used - 1 - c + 1 = omega (arith, h) in
        after a₀ ah₀ r₀ rh₀ (set live c e) k e left found q (relive now-live (subst (λ (x : ℕ). Listed p by r x a₀ ah₀ r₀ rh₀ live k) n (step-closed a₀ ah₀ r₀ rh₀ live k b f o s)))

    module _ (i : inside c used ≡ true) (em : inside m (edges_in p c) ≡ true) (u : ℕ) (eup : u ≡ upper used c) (l : u ≤ left) (l' : left ≤ c) where
      of-root : inside c (colours_of p r) ≡ true
      of-root = ap (inside c) (sym eu) ∙ i

      pub step-accepting : {a ah : List ℕ} {x : ℕ} → in_family p c ≡ true → take x a ≡ with_cycles (table_colours by) c (take k.rejecting r₀) (take k.accepting a₀) (largest_in p m) → Hued (table_colours by) a ah x
          → Settled p true u c e (take k.rejecting r₀) (take x a) left → Listed p by r (used - left) a ah r₀ rh₀ (set live c e) (record { accepting = x; rejecting = k.rejecting })
      step-accepting {a} {ah} {x} f w g d =
          after-settled a ah r₀ rh₀ (set live c e) (record { accepting = x; rejecting = k.rejecting }) true e left found (omega (arith, eup, l)) l' (subst (λ (y : ℕ). Settled p true y c e (take k.rejecting r₀) (take x a) left) eup d)
          (listed-accepting s c this now-live of-root f (set-listed t r c m (take k.rejecting r₀) (take k.accepting a₀) v em w) g)

      pub step-rejecting : {b bh : List ℕ} {x : ℕ} → in_family p c ≡ false → take x b ≡ with_cycles (table_colours by) c (take k.accepting a₀) (take k.rejecting r₀) (largest_in p m) → Hued (table_colours by) b bh x
          → Settled p false u c e (take k.accepting a₀) (take x b) left → Listed p by r (used - left) a₀ ah₀ b bh (set live c e) (record { accepting = k.accepting; rejecting = x })
      step-rejecting {b} {bh} {x} f w g d =
          after-settled a₀ ah₀ b bh (set live c e) (record { accepting = k.accepting; rejecting = x }) false e left found (omega (arith, eup, l)) l' (subst (λ (y : ℕ). Settled p false y c e (take k.accepting a₀) (take x b) left) eup d)
          (listed-rejecting s c this now-live of-root f (set-listed t r c m (take k.accepting a₀) (take k.rejecting r₀) v em w) g)

-- ---- the lists of the root alone are not open
abbrev is_open-none : List ℕ → ℕ → Type 0
is_open-none hues n = (x : ℕ) → is_open x hues n ≡ false

first-counts : {p : Policy} {by : List ℕ} {r : ℕ} {a ah t th live : List ℕ} {k : Counts} → Listed p by r 0 a ah t th live k → (v : Bool) → accepting p r ≡ v → is_open-none (other_hues v k ah th) (same_count v k)
unfolding candidates_to is_open are_long
first-counts {p} {r = r} {ah = ah} {k = k} s false e x =
    let none : k.accepting ≡ 0 = (counts_are s).0 ∙ ap (λ (b : Bool). length (cond (differs true b) [] (r ∷ []))) e in
    let one : k.rejecting ≡ 1 = (counts_are s).1 ∙ ap (λ (b : Bool). length (cond (differs false b) [] (r ∷ []))) e in
    ap₂ (λ (i j : ℕ). is_open x (take i ah) j) none one
first-counts {p} {r = r} {th = th} {k = k} s true e x =
    let one : k.accepting ≡ 1 = (counts_are s).0 ∙ ap (λ (b : Bool). length (cond (differs true b) [] (r ∷ []))) e in
    let none : k.rejecting ≡ 0 = (counts_are s).1 ∙ ap (λ (b : Bool). length (cond (differs false b) [] (r ∷ []))) e in
    ap₂ (λ (i j : ℕ). is_open x (take i th) j) none one

-- ---- the same, as the code has it: with the family that is lent, the upper colours u and the colours g of the live edges m, by the table
module _ {p : Policy} {states letters : ℕ} {heads out into by : List ℕ} (t : PartsOf p states letters heads out into by) (r used : ℕ) (eu : used ≡ colours_of p r) (c : ℕ) (h : c < used)
    (family : List Bool) (ef : family ≡ p.family) (u : ℕ) (eup : u ≡ upper used c) {a₀ ah₀ r₀ rh₀ live : List ℕ} {k : Counts} (s : Listed p by r (used - 1 - c) a₀ ah₀ r₀ rh₀ live k) where
  abbrev v : Bool
  v = get_or family c false

  abbrev hues : List ℕ
  hues = cond v (take k.rejecting rh₀) (take k.accepting ah₀)

  abbrev many : ℕ
  many = length (cond v (take k.accepting ah₀) (take k.rejecting rh₀))

  verdict : (x : ℕ) → in_family p x ≡ get_or family x false
  unfolding in_family
  verdict x = ap (λ (l : List Bool). get_or l x false) (sym ef)

  counted : (x : ℕ) → is_open x hues many ≡ false → is_open x hues (same_count v k) ≡ false
  counted x o = ap (is_open x hues) (sym (same_is s v)) ∙ o

  from-upper : Listed p by r (used - upper used c) a₀ ah₀ r₀ rh₀ live k → Listed p by r (used - u) a₀ ah₀ r₀ rh₀ live k
  from-upper l = subst (λ (x : ℕ). Listed p by r (used - x) a₀ ah₀ r₀ rh₀ live k) (sym eup) l

  pub at-closed : is_open c hues many ≡ false → Listed p by r (used - c) a₀ ah₀ r₀ rh₀ live k
  at-closed o = step-closed t r used eu c h a₀ ah₀ r₀ rh₀ live k v (verdict c) (counted c o) s

  pub at-passed : is_open c hues many ≡ false
      → ((x : ℕ) → u ≤ x → x < c → inside u x ≡ true → inside x c ≡ true → ((x ≡ 0) × (get_or by 8 0 ≡ 0)) ⊎ ((get_or family x false ≡ v) × (is_open x hues many ≡ false)))
      → Listed p by r (used - u) a₀ ah₀ r₀ rh₀ live k
  at-passed o each =
      from-upper (step-passed t r used eu c h a₀ ah₀ r₀ rh₀ live k v (verdict c) (counted c o)
      (λ x a b i j. go x (each x (omega (arith, eup, a)) b (subst (λ (y : ℕ). inside y x ≡ true) (sym eup) i) j)) s)
    where
      go : (x : ℕ) → ((x ≡ 0) × (get_or by 8 0 ≡ 0)) ⊎ ((get_or family x false ≡ v) × (is_open x hues many ≡ false)) → ((x ≡ 0) × (get_or by 8 0 ≡ 0)) ⊎ ((in_family p x ≡ v) × (is_open x hues (same_count v k) ≡ false))
      go x (inl q) = inl q
      go x (inr q) = inr (verdict x ∙ q.0, counted x q.1)

  module _ (m g : ℕ) (live-m : Live p r c m) (eg : g ≡ table_colours by m) where
    are-colours : g ≡ colours_of p m
    are-colours = eg ∙ ap (λ (f : ℕ → ℕ). f m) (hue-is t)

    pub at-lacking : inside u g ≡ false → Listed p by r (used - u) a₀ ah₀ r₀ rh₀ live k
    at-lacking f = from-upper (step-lacking t r used eu c h a₀ ah₀ r₀ rh₀ live k m live-m (subst (λ (x : ℕ). inside (upper used c) x ≡ false) are-colours (subst (λ (x : ℕ). inside x g ≡ false) eup f)) s)

    pub at-jump : (e : ℕ) → inside m (edges_in p c) ≡ true → inside u g ≡ true → g < c → used < length live → e ≡ bit_and (get_or live g 0) m → Listed p by r (used - (g + 1)) a₀ ah₀ r₀ rh₀ (set live g e) k
    at-jump e em f l long q =
        subst (λ (x : ℕ). Listed p by r (used - (x + 1)) a₀ ah₀ r₀ rh₀ (set live x e) k) (sym are-colours)
        (step-jump t r used eu c h a₀ ah₀ r₀ rh₀ live k m e live-m em (subst (λ (x : ℕ). inside (upper used c) x ≡ true) are-colours (subst (λ (x : ℕ). inside x g ≡ true) eup f)) (subst (λ (x : ℕ). x < c) are-colours l) long (subst (λ (x : ℕ). e ≡ bit_and (get_or live x 0) m) are-colours q) s)

    pub at-looked : (e left : ℕ) → OnCycles p m e → left ≡ cond (eqb e 0) u c → is_open c hues many ≡ false → Listed p by r (used - left) a₀ ah₀ r₀ rh₀ (set live c e) k
    at-looked e left on q o = step-looked t r used eu c h a₀ ah₀ r₀ rh₀ live k m live-m e on left s v (q ∙ ap (λ (x : ℕ). cond (eqb e 0) x c) eup) (verdict c) (counted c o)

-- ---- where all sets have the verdict of the root it stays alone
pub root-alone : {p : Policy} {states letters : ℕ} {heads out into by : List ℕ} (t : PartsOf p states letters heads out into by) (r used : ℕ) (eu : used ≡ colours_of p r) (family : List Bool) → family ≡ p.family
    → ((s : ℕ) → s < used → inside s used ≡ true → ((s ≡ 0) × (get_or by 8 0 ≡ 0)) ⊎ (get_or family s false ≡ get_or family used false))
    → {a₀ ah₀ r₀ rh₀ live : List ℕ} {k : Counts} → Listed p by r 0 a₀ ah₀ r₀ rh₀ live k → Listed p by r (used - 0) a₀ ah₀ r₀ rh₀ live k
unfolding in_family
root-alone {p} {by = by} t r used eu family ef each {a₀} {ah₀} {r₀} {rh₀} {live} {k} s =
    let z : 0 ≡ used - used = omega arith in
    passed t r used eu a₀ ah₀ r₀ rh₀ live k (get_or family used false) 0 used (omega arith) (omega arith) (λ x a b i. go x b (each x b i)) (subst (λ (n : ℕ). Listed p by r n a₀ ah₀ r₀ rh₀ live k) z s)
  where
    counts : (v : Bool) → accepting p r ≡ v → is_open-none (other_hues v k ah₀ rh₀) (same_count v k)
    counts v e = first-counts s v e

    verdict : accepting p r ≡ get_or family used false
    verdict = accepting-is p r ∙ ap (λ (c : ℕ). get_or p.family c false) (sym eu) ∙ ap (λ (l : List Bool). get_or l used false) (sym ef)

    go : (x : ℕ) → x < used → ((x ≡ 0) × (get_or by 8 0 ≡ 0)) ⊎ (get_or family x false ≡ get_or family used false) → Passed p r (get_or family used false) (other_masks (get_or family used false) k a₀ r₀) (other_hues (get_or family used false) k ah₀ rh₀) (same_masks (get_or family used false) k a₀ r₀) (same_count (get_or family used false) k) x
    go x b (inl q) = inl (λ y cy i e. no-quiet t q.1 y cy (e ∙ q.0))
    go x b (inr q) = inr (ap (λ (l : List Bool). get_or l x false) (sym ef) ∙ q, inl (counts (get_or family used false) verdict x))

abbrev Left : List ℕ → List Bool → ℕ → ℕ → Type 0
Left by family used left = (left ≡ used) ⊎ ((left ≡ 0) × ((s : ℕ) → s < used → inside s used ≡ true → ((s ≡ 0) × (get_or by 8 0 ≡ 0)) ⊎ (get_or family s false ≡ get_or family used false)))

pub left-most : (by : List ℕ) (family : List Bool) (used left : ℕ) → Left by family used left → left ≤ used
left-most by family used left (inl e) = omega arith
left-most by family used left (inr q) = omega (arith, q.0)

pub left-listed : {p : Policy} {states letters : ℕ} {heads out into by : List ℕ} (t : PartsOf p states letters heads out into by) (r used : ℕ) (eu : used ≡ colours_of p r) (family : List Bool) → family ≡ p.family
    → {left : ℕ} → Left by family used left → {a₀ ah₀ r₀ rh₀ live : List ℕ} {k : Counts} → Listed p by r 0 a₀ ah₀ r₀ rh₀ live k → Listed p by r (used - left) a₀ ah₀ r₀ rh₀ live k
left-listed {p} {by = by} t r used eu family ef {left} (inl e) {a₀} {ah₀} {r₀} {rh₀} {live} {k} s = let z : 0 ≡ used - left = omega (arith, e) in subst (λ (n : ℕ). Listed p by r n a₀ ah₀ r₀ rh₀ live k) z s
left-listed {p} {by = by} t r used eu family ef {left} (inr q) {a₀} {ah₀} {r₀} {rh₀} {live} {k} s = subst (λ (n : ℕ). Listed p by r (used - n) a₀ ah₀ r₀ rh₀ live k) (sym q.0) (root-alone t r used eu family ef q.1 s)

-- ---- what is settled of a span after a search: the cycles found are the largest ones inside e
module _ {p : Policy} {states letters : ℕ} {heads out into by : List ℕ} (t : PartsOf p states letters heads out into by) where
  -- nothing is left
  pub settled-none : (v : Bool) (up c e left : ℕ) (other same : List ℕ) → e ≡ 0 → Settled p v up c e other same left
  settled-none v up c e left other same z s a b i j = inl (λ y cy k _. cycle-some p y cy (in-none y (subst (λ (m : ℕ). inside y m ≡ true) z k)))

  -- nothing is passed
  pub settled-end : (v : Bool) (up c e left : ℕ) (other same : List ℕ) → left ≡ c → Settled p v up c e other same left
  settled-end v up c e left other same z s a b i j = absurd (omega (arith, z, a, b))

  pub settled-found : (family : List Bool) → family ≡ p.family → (v : Bool) (up first c e left : ℕ) (other hues same cycles : List ℕ) (n : ℕ) → hues ≡ map (table_colours by) other
      → (up ≤ first) × (up < first → (up ≡ 0) × (first ≡ 1) × (get_or by 8 0 ≡ 0)) → ((x : ℕ) → first ≤ x → x < c → inside x c ≡ true → get_or family x false ≡ v)
      → ((h : ℕ) → Memᴰ h hues → inside up h ≡ true → inside c h ≡ true)
      → up ≤ left → n ≤ length cycles → take n cycles ≡ largest_in p e → inside (colours_of p e) c ≡ true
      → ((i : ℕ) → i < n → (table_colours by (get_or cycles i 0) < left) ⊎ (wanted (table_colours by (get_or cycles i 0)) (get_or cycles i 0) other hues same ≡ false))
      → Settled p v up c e other same left
  unfolding in_family is_wanted
  settled-found family ef v up first c e left other hues same cycles n are f alike above l long found within each s a b i j = go (dec_lt s first)
    where
      as-colours : hues ≡ map (colours_of p) other
      as-colours = are ∙ ap (λ (g : ℕ → ℕ). map g other) (hue-is t)

      part : (x y : ℕ) → inside y x ≡ true → inside x e ≡ true → colours_of p y ≡ s → (table_colours by x < left) ⊎ (wanted (table_colours by x) x other hues same ≡ false) → wanted s y other hues same ≡ false
      part x y k m w (inl q) =
          absurd (omega (arith, a, q, ap (λ (g : ℕ → ℕ). g x) (hue-is t), inside-le s (colours_of p x) (subst (λ (d : ℕ). inside d (colours_of p x) ≡ true) w (colours-up p y x k))))
      part x y k m w (inr q) =
          part-unwanted s (table_colours by x) x y other hues same k (ap length are ∙ length-map other (table_colours by))
          (λ h g o. subst (λ (d : ℕ). inside d h ≡ true) (sym (ap (λ (g : ℕ → ℕ). g x) (hue-is t))) (inside-trans (colours_of p x) c h (inside-trans (colours_of p x) (colours_of p e) c (colours-up p x e m) within) (above h g (inside-trans up s h i o)))) q

      unwanted : (y : ℕ) → is_cycle p y ≡ true → inside y e ≡ true → colours_of p y ≡ s → wanted s y other (map (colours_of p) other) same ≡ false
      unwanted y cy k w =
          let x = in-largest p t.graph.lawful e y cy k in
          let at = mem-at (take n cycles) 0 x.0 (subst (Memᴰ x.0) (sym found) x.1) in
          let d : at.0 < n = omega (arith, at.1, length-take-le n cycles long) in
          let here : get_or cycles at.0 0 ≡ x.0 = ap (λ (q : List ℕ). get_or q at.0 0) (sym (take-append-drop n cycles)) ∙ get_or-append (take n cycles) (drop n cycles) 0 at.0 at.1 ∙ at.2 in
          subst (λ (q : List ℕ). wanted s y other q same ≡ false) as-colours
          (part x.0 y x.2 (largest-within p t.graph.lawful e x.0 x.1) w (subst (λ (z : ℕ). (table_colours by z < left) ⊎ (wanted (table_colours by z) z other hues same ≡ false)) here (each at.0 d)))

      go : Dec (s < first) → ((y : ℕ) → is_cycle p y ≡ true → inside y e ≡ true → colours_of p y ≢ s) ⊎ ((get_or p.family s false ≡ v) × ((y : ℕ) → is_cycle p y ≡ true → inside y e ≡ true → colours_of p y ≡ s → wanted s y other (map (colours_of p) other) same ≡ false))
      go (yes q) = let z = f.1 (omega (arith, a, l, q)) in let none : s ≡ 0 = omega (arith, q, z.1) in inl (λ y cy k w. no-quiet t z.2 y cy (w ∙ none))
      go (no q) = inr (ap (λ (r : List Bool). get_or r s false) (sym ef) ∙ alike s (omega (arith, q)) b j, unwanted)

-- the colours of what was found
pub on-colours : (p : Policy) (c m e : ℕ) → inside e m ≡ true → inside m (edges_in p c) ≡ true → inside (colours_of p e) c ≡ true
on-colours p c m e i em = inside-trans (colours_of p e) (colours_of p (edges_in p c)) c (colours-up p e (edges_in p c) (inside-trans e m (edges_in p c) i em)) (edges-in-colours p c)

-- ---- sets that are not of the root's colours
pub left-outside : {p : Policy} {states letters : ℕ} {heads out into by : List ℕ} (t : PartsOf p states letters heads out into by) (r used : ℕ) (eu : used ≡ colours_of p r) (a₀ ah₀ r₀ rh₀ live : List ℕ) (k : Counts) (left next : ℕ)
    → next ≤ left → left ≤ used → ((x : ℕ) → next ≤ x → x < left → inside x used ≡ false) → Listed p by r (used - left) a₀ ah₀ r₀ rh₀ live k → Listed p by r (used - next) a₀ ah₀ r₀ rh₀ live k
left-outside t r used eu a₀ ah₀ r₀ rh₀ live k left next l h none s = passed t r used eu a₀ ah₀ r₀ rh₀ live k true next left l h (λ x a b i. absurd (true≢false (sym i ∙ none x a b))) s

-- between a set of the colours u and the next one below it there is none
pub none_between : (u left : ℕ) → inside left u ≡ true → (x : ℕ) → bit_and (left - 1) u + 1 ≤ x → x < left → inside x u ≡ false
none_between u left i x a b = go (test (inside x u))
  where
    go : (inside x u ≡ true) ⊎ (inside x u ≡ false) → inside x u ≡ false
    go (inl t) = absurd (omega (arith, a, below-inside left u x i t b))
    go (inr f) = f
