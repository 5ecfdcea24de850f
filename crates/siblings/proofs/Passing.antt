-- One pass through a list of masks, larger ones first, finds the children of a node: a mask properly inside it that lies inside none of those kept so far is kept, and
-- its position put in its place. Assumes nothing.
use Prim.Native.Nat.{ℕ, ◌+◌, ◌≤◌, ◌<◌}
use native.Mathlib.Omega.{arith}
use native.Mathlib.Numerals.{add-one}
use mathlib.Core.Path.{◌≡◌, refl, sym, ap, ap₂, ◌∙◌, subst}
use mathlib.Core.Logic.{◌⊎◌, inl, inr, ◌≢◌}
use mathlib.Core.Bool.{true, false, not, true≢false}
use mathlib.Core.List.Memᴰ
use mathlib.Core.List.{List, [], ◌∷◌, ◌++◌, map-append, Memᴰ}
use lib.ListN.{length, get_or, take, length-map}
use lib.Seq.{sets, take-suc, take_all, length-take-le, get_or-take}
use Rattle.std.proofs.lemmas.List.{take_all}
use Rattle.lists.specs.Lists.{any, filter, Distinct}
use Rattle.lists.proofs.Bools.{test, and_l, and_r, both, not-true}
use Rattle.lists.proofs.Lists.{any_some, none_any, filter-mem, mem-filter, get_or-mem, map-mem}
use Rattle.lists.proofs.Distinct.{distinct_filter}
use Rattle.lists.proofs.AnyAll.{any-more, any_at}
use Rattle.tables.specs.Tables.{Column, Stored}
use Rattle.tables.proofs.Columns.{sets-ext, map_at}
use Rattle.masks.specs.Masks.{inside, properly}
use Rattle.masks.proofs.Bits.{inside-refl, outside-properly, properly-itself}
use Rattle.forest.specs.Forest.{place}
use Rattle.forest.specs.Laws.{Ordered}
use Rattle.forest.proofs.Order.{place-mem, mem-place, place-ordered}
use Rattle.forest.proofs.Largest.{kept_is}
use Rattle.candidates.specs.Candidates.{children_in, LargerFirst}
use Rattle.siblings.specs.Positions.{child_positions, masks_at, Positions, carried, outside, kept}
use Rattle.siblings.proofs.Carrying.{carried-length, carried-past, carried-place, carried-in}
use Rattle.siblings.proofs.Positions.{positions-are}

-- ---- whether m lies inside none of those kept
module _ (l : List ℕ) where
  -- one more
  at_more : (ks : List ℕ) (j : ℕ) → j < length ks → masks_at l (take (j + 1) ks) ≡ masks_at l (take j ks) ++ (get_or l (get_or ks j 0) 0 ∷ [])
  at_more ks j h =
      ap (λ (z : List ℕ). masks_at l z) (ap (λ (i : ℕ). take i ks) (add-one j) ∙ take-suc ks j 0 h) ∙ map-append (λ (k : ℕ). get_or l k 0) (take j ks) (get_or ks j 0 ∷ [])

  pub outside-more : (ks : List ℕ) (m j : ℕ) → j < length ks → any (inside m) (masks_at l (take j ks)) ≡ false → inside m (get_or l (get_or ks j 0) 0) ≡ false → any (inside m) (masks_at l (take (j + 1) ks)) ≡ false
  outside-more ks m j h a b = rw (at_more ks j h) (any-more (inside m) (masks_at l (take j ks)) (get_or l (get_or ks j 0) 0) a b)

  pub outside-not : (ks : List ℕ) (n m j : ℕ) → j < length (take n ks) → inside m (get_or l (get_or (take n ks) j 0) 0) ≡ true → outside l ks n m ≡ false
  unfolding outside
  outside-not ks n m j k t =
      ap not (any_at (inside m) (masks_at l (take n ks)) j 0 (omega (arith, length-map (take n ks) (λ (k : ℕ). get_or l k 0)))
      (ap (inside m) (map_at (λ (k : ℕ). get_or l k 0) (take n ks) 0 j k) ∙ t))

  pub outside-is : (ks : List ℕ) (n m j : ℕ) → length (take n ks) ≤ j → any (inside m) (masks_at l (take j (take n ks))) ≡ false → outside l ks n m ≡ true
  unfolding outside
  outside-is ks n m j h a = ap not (ap (λ (t : List ℕ). any (inside m) (masks_at l t)) (sym (take_all j (take n ks) h)) ∙ a)

-- ---- the pass: i members are seen, the first n of ks are the positions of those kept, and the places past them are as they were
pub record Passing (l : List ℕ) (x : ℕ) (ks₀ ks : List ℕ) (n i : ℕ) : Type 0 where
  pub at_most : i ≤ length l
  pub few : n ≤ i
  pub long : length ks ≡ length ks₀
  pub past : (j : ℕ) → n ≤ j → get_or ks j 0 ≡ get_or ks₀ j 0
  pub each : (k : ℕ) → Memᴰ k (take n ks) → k < i
  pub part : (y : ℕ) → Memᴰ y (masks_at l (take n ks)) → properly y x ≡ true
  pub above : (y : ℕ) → Memᴰ y (take i l) → properly y x ≡ true → (z : ℕ) × Memᴰ z (masks_at l (take n ks)) × (inside y z ≡ true)
  pub apart : (y z : ℕ) → Memᴰ y (masks_at l (take n ks)) → Memᴰ z (masks_at l (take n ks)) → properly y z ≡ false
  pub ordered : Ordered (masks_at l (take n ks))

pub passing-none : (l : List ℕ) (x : ℕ) (ks : List ℕ) → Passing l x ks ks 0 0
passing-none l x ks = record {
  at_most = omega arith;
  few = omega arith;
  long = refl;
  past = λ j h. refl;
  each = λ k m. absurd (Memᴰ.not-nil m);
  part = λ y m. absurd (Memᴰ.not-nil m);
  above = λ y m. absurd (Memᴰ.not-nil m);
  apart = λ y z m. absurd (Memᴰ.not-nil m);
  ordered = tt;
}

module _ {l : List ℕ} {x : ℕ} {ks₀ ks : List ℕ} {n i : ℕ} (v : Passing l x ks₀ ks n i) (room : length l ≤ length ks₀) where
  in_range : (j : ℕ) → j < n → get_or ks j 0 < i
  in_range j h =
      let long : length (take n ks) ≡ n = length-take-le n ks (omega (arith, v.few, v.at_most, v.long)) in
      subst (λ (k : ℕ). k < i) (get_or-take n ks j 0 h) (v.each (get_or (take n ks) j 0) (get_or-mem (take n ks) j 0 (omega arith)))

  pub passing-positions : Positions l ks n
  passing-positions = record { long = omega (arith, v.few, v.at_most, v.long); each = λ j h. omega (arith, in_range j h, v.at_most) }

  seen_more : i < length l → (y : ℕ) → Memᴰ y (take (i + 1) l) → Memᴰ y (take i l) ⊎ (y ≡ get_or l i 0)
  seen_more h y m = go (Memᴰ.append_cases (take i l) (subst (λ (z : List ℕ). Memᴰ y z) (ap (λ (j : ℕ). take j l) (add-one i) ∙ take-suc l i 0 h) m))
    where
      go : Memᴰ y (take i l) ⊎ Memᴰ y (get_or l i 0 ∷ []) → Memᴰ y (take i l) ⊎ (y ≡ get_or l i 0)
      go (inl z) = inl z
      go (inr z) = inr (Memᴰ.eq_of_singleton z)

  -- not kept: it is not properly inside the node, or lies inside one that is kept
  pub passing-skip : i < length l → kept l ks n x (get_or l i 0) ≡ false → Passing l x ks₀ ks n (i + 1)
  unfolding kept outside
  passing-skip h f = record {
    at_most = omega arith;
    few = omega (arith, v.few);
    long = v.long;
    past = v.past;
    each = λ k m. omega (arith, v.each k m);
    part = v.part;
    above = λ y m t. go y t (seen_more h y m);
    apart = v.apart;
    ordered = v.ordered;
  }
    where
      m : ℕ
      m = get_or l i 0

      ms : List ℕ
      ms = masks_at l (take n ks)

      inner : properly m x ≡ true → (any (inside m) ms ≡ true) ⊎ (any (inside m) ms ≡ false) → (z : ℕ) × Memᴰ z ms × (inside m z ≡ true)
      inner t (inl a) = any_some (inside m) ms a
      inner t (inr a) = absurd (true≢false (sym (both (properly m x) (not (any (inside m) ms)) t (ap not a)) ∙ f))

      go : (y : ℕ) → properly y x ≡ true → Memᴰ y (take i l) ⊎ (y ≡ m) → (z : ℕ) × Memᴰ z ms × (inside y z ≡ true)
      go y t (inl k) = v.above y k t
      go y t (inr e) = subst (λ (w : ℕ). (z : ℕ) × Memᴰ z ms × (inside w z ≡ true)) (sym e) (inner (ap (λ (w : ℕ). properly w x) (sym e) ∙ t) (test (any (inside m) ms)))

  -- kept
  pub passing-more : i < length l → LargerFirst l → kept l ks n x (get_or l i 0) ≡ true → Passing l x ks₀ (carried l n i ks) (n + 1) (i + 1)
  unfolding kept outside
  passing-more h larger t = record {
    at_most = omega arith;
    few = omega (arith, v.few);
    long = carried-length l n i ks ∙ v.long;
    past = λ j k. carried-past l n i ks j (omega arith) ∙ v.past j (omega arith);
    each = λ k z. once k (carried-in l n i ks k (subst (λ (j : ℕ). Memᴰ k (take j (carried l n i ks))) (add-one n) z));
    part = λ y z. part' y (cases y z);
    above = λ y z u. above' y u (seen_more h y z);
    apart = λ y z a b. apart' y z (cases y a) (cases z b);
    ordered = subst (λ (z : List ℕ). Ordered z) (sym placed) (place-ordered m ms v.ordered (λ y k e. new y k e));
  }
    where
      m : ℕ
      m = get_or l i 0

      ms : List ℕ
      ms = masks_at l (take n ks)

      placed : masks_at l (take (n + 1) (carried l n i ks)) ≡ place m ms
      placed = ap (λ (j : ℕ). masks_at l (take j (carried l n i ks))) (add-one n) ∙ carried-place l n i ks (omega (arith, v.few, v.long)) v.ordered

      within : properly m x ≡ true
      within = and_l (properly m x) (not (any (inside m) ms)) t

      free : (y : ℕ) → Memᴰ y ms → inside m y ≡ false
      free = none_any (inside m) ms (not-true (any (inside m) ms) (and_r (properly m x) (not (any (inside m) ms)) t))

      new : (y : ℕ) → Memᴰ y ms → m ≢ y
      new y k e = true≢false (sym (inside-refl m) ∙ ap (inside m) e ∙ free y k)

      cases : (y : ℕ) → Memᴰ y (masks_at l (take (n + 1) (carried l n i ks))) → (y ≡ m) ⊎ Memᴰ y ms
      cases y k = place-mem m ms y (subst (λ (z : List ℕ). Memᴰ y z) placed k)

      back : {y : ℕ} → Memᴰ y (m ∷ ms) → Memᴰ y (masks_at l (take (n + 1) (carried l n i ks)))
      back {y} k = subst (λ (z : List ℕ). Memᴰ y z) (sym placed) (mem-place m ms y k)

      once : (k : ℕ) → (k ≡ i) ⊎ Memᴰ k (take n ks) → k < i + 1
      once k (inl e) = omega arith
      once k (inr z) = omega (arith, v.each k z)

      part' : (y : ℕ) → (y ≡ m) ⊎ Memᴰ y ms → properly y x ≡ true
      part' y (inl e) = ap (λ (z : ℕ). properly z x) e ∙ within
      part' y (inr k) = v.part y k

      above' : (y : ℕ) → properly y x ≡ true → Memᴰ y (take i l) ⊎ (y ≡ m) → (z : ℕ) × Memᴰ z (masks_at l (take (n + 1) (carried l n i ks))) × (inside y z ≡ true)
      above' y u (inl k) = let r = v.above y k u in (r.0, back (Memᴰ.tail r.1), r.2)
      above' y u (inr e) = (m, back (Memᴰ.head refl), ap (λ (z : ℕ). inside z m) e ∙ inside-refl m)

      -- whatever lies around a mask stands before it
      earlier : (y : ℕ) → Memᴰ y ms → properly y m ≡ false
      earlier y k =
          let r = map-mem (λ (j : ℕ). get_or l j 0) (take n ks) y k in
          ap (λ (z : ℕ). properly z m) r.2 ∙ larger r.0 i (v.each r.0 r.1) h

      apart' : (y z : ℕ) → (y ≡ m) ⊎ Memᴰ y ms → (z ≡ m) ⊎ Memᴰ z ms → properly y z ≡ false
      apart' y z (inl e) (inl d) = ap₂ properly e d ∙ properly-itself m
      apart' y z (inl e) (inr k) = ap (λ (w : ℕ). properly w z) e ∙ outside-properly m z (free z k)
      apart' y z (inr k) (inl d) = ap (properly y) d ∙ earlier y k
      apart' y z (inr k) (inr j) = v.apart y z k j

  -- all are seen
  pub passing-all : Distinct l → length l ≤ i → Stored ks₀ ks 0 n (child_positions l x)
  unfolding children_in child_positions
  passing-all d h = record { now_is = front ∙ ap (sets ks₀ 0) positions; next_is = omega (arith, sym (ap length positions), many) }
    where
      ms : List ℕ
      ms = masks_at l (take n ks)

      within : List ℕ
      within = filter (λ (m : ℕ). properly m x) l

      listed : (y : ℕ) → Memᴰ y ms → Memᴰ y l
      listed y k =
          let r = map-mem (λ (j : ℕ). get_or l j 0) (take n ks) y k in
          Memᴰ.cast r.2 (get_or-mem l r.0 0 (omega (arith, v.each r.0 r.1, v.at_most)))

      part : (y : ℕ) → Memᴰ y ms → Memᴰ y within
      part y k = mem-filter (λ (m : ℕ). properly m x) l y (listed y k) (v.part y k)

      above : (y : ℕ) → Memᴰ y within → (z : ℕ) × Memᴰ z ms × (inside y z ≡ true)
      above y k =
          let r = filter-mem (λ (m : ℕ). properly m x) l y k in
          v.above y (subst (λ (z : List ℕ). Memᴰ y z) (sym (take_all i l h)) r.0) r.1

      children : ms ≡ children_in l x
      children = kept_is within ms part above v.apart (distinct_filter (λ (m : ℕ). properly m x) l d) v.ordered

      positions : take n ks ≡ child_positions l x
      positions = positions-are l x d (take n ks) (λ k m. omega (arith, v.each k m, v.at_most)) children

      many : length (take n ks) ≡ n
      many = length-take-le n ks (omega (arith, v.few, v.at_most, v.long))

      column : Column (take n ks) ks
      column = record { long = omega (arith, many, v.few, v.at_most, v.long); each = λ j k. sym (get_or-take n ks j 0 (omega (arith, many))) }

      front : ks ≡ sets ks₀ 0 (take n ks)
      front = sets-ext ks₀ (take n ks) (omega (arith, many, v.few, v.at_most)) ks column v.long (λ j k. v.past j (omega (arith, many)))
