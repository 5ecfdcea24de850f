-- What the search for the children of a node rests on. A child that waits in a colour set lies inside one of the largest cycles of that set; such a cycle lies inside the node, and the
-- child is found in it, or waits in a lower set. Assumes nothing.
use Prim.Native.Nat.{ℕ, zero, suc, ◌+◌, ◌-◌, ◌*◌, ◌^◌, ◌/◌, ◌%◌, ◌≤◌, ◌<◌}
use native.Mathlib.Omega.{arith}
use native.Mathlib.Decide.{ℕ_discrete, dec_lt}
use native.Mathlib.Numerals.{add-one}
use mathlib.Core.Path.{◌≡◌, refl, sym, ap, ap₂, ◌∙◌, subst}
use mathlib.Core.Logic.{◌⊎◌, inl, inr, ◌≢◌}
use mathlib.Core.Bool.{Bool, true, false, cond, not, ◌&&◌, ◌||◌, true≢false, beq}
use lib.Dec.{eqb}
use mathlib.Core.List.Memᴰ
use mathlib.Core.List.{List, [], ◌∷◌, Memᴰ}
use lib.ListN.{length, get_or, take, replicate, length-map}
use lib.Seq.{get_or-take, length-take-le}
use Rattle.recurrence.proofs.Pigeon.{pigeon}
use Rattle.lists.specs.Lists.{any}
use Rattle.lists.proofs.Bools.{eqb≡, ≡eqb, neqb, and_l, and_r, both, or_left, or_right, or_cases, not_itself, not-true}
use borrow.Author.Tests.{not-false}
use Rattle.lists.proofs.Lists.{any_some, none_any, get_or-mem, mem-at, replicate-at}
use Rattle.tables.proofs.Columns.{map_at}
use Rattle.masks.specs.Masks.{has, inside}
use Rattle.masks.proofs.Bits.{has-none, inside-refl, inside-trans, inside-antisym, inside-le, properly-inside}
use Rattle.masks.proofs.Members.{some-nonzero}
use Rattle.collections.specs.Collections.{has_set, End, Smaller}
use Rattle.policy.specs.declared.Policy.{Policy}
use Rattle.policy.specs.Policies.{edges, source, colours_of, in_family, accepting, legal}
use Rattle.policy.specs.ByColour.{edges_in}
use Rattle.policy.proofs.Laws.{legal-target, plain-loud, edge-coloured, some-colours, colours-up, colours-lt, accepting-is}
use Rattle.policy.proofs.ByColour.{edges-in-colours}
use Rattle.graph.specs.Cycles.{is_cycle, contains}
use Rattle.graph.specs.Through.{cycle_through}
use Rattle.graph.proofs.Cycles.{Targets, contains-some, contains-inside}
use Rattle.graph.proofs.Through.{through-cycle, through-largest}
use Rattle.graph.proofs.Inside.{cycle-state}
use Rattle.components.specs.Components.{lowest_is, largest_in}
use Rattle.components.proofs.Components.{lowest-some, largest-in-mem}
use Rattle.forest.specs.Forest.{before, place, children}
use Rattle.forest.specs.Laws.{Ordered}
use Rattle.forest.proofs.Order.{before-irreflexive, place-mem, mem-place, place-ordered, ordered_same}
use Rattle.forest.proofs.Children.{child, in_child, ordered-children}
use Rattle.full_cycles.specs.Full.{Full}
use Rattle.full_cycles.proofs.Full.{full-largest, inside-colours}
use Rattle.full_cycles.proofs.Children.{child-largest}
use Rattle.full_cycles.proofs.Largest.{largest-within, largest-cycle, in-largest}
use Rattle.siblings.specs.Positions.{masks_at, Positions, carried, outside}
use Rattle.siblings.proofs.Carrying.{carried-length, carried-place, carried-in}
use Rattle.pool.specs.Pool.{SpanOf, Pool, Extends, SetListed}
use Rattle.pool.proofs.Pool.{pool-room, extends-same, extends-on}
use Rattle.std.proofs.Common.{Option, None, Some}
use Rattle.offspring.specs.Offspring.{Around, StatesIn, ChildrenAt, Offspring}
use Rattle.offspring.specs.Looking.{WaitsIn, LiesAt, Looking, Looked, Node, NodeAmong, Span, Greatest, NowListed, SetSearched}

-- ---- lists in order
-- a member stands before each that comes later
ordered_at : (l : List ℕ) → Ordered l → (i j : ℕ) → i < j → j < length l → before (get_or l i 0) (get_or l j 0) ≡ true
ordered_at [] o i j h k = absurd (omega arith)
ordered_at (x ∷ l) o zero (suc j) h k = o.0 (get_or l j 0) (get_or-mem l j 0 (omega arith))
ordered_at (x ∷ l) o (suc i) zero h k = absurd (omega arith)
ordered_at (x ∷ l) o (suc i) (suc j) h k = ordered_at l o.1 i j (omega arith) (omega arith)
ordered_at (x ∷ l) o zero zero h k = absurd (omega arith)

module _ (pool kids : List ℕ) (found : ℕ) (long : found ≤ length kids) where
  mask-found : (j : ℕ) → j < found → get_or (masks_at pool (take found kids)) j 0 ≡ get_or pool (get_or kids j 0) 0
  mask-found j h =
      let l : length (take found kids) ≡ found = length-take-le found kids long in
      map_at (λ (k : ℕ). get_or pool k 0) (take found kids) 0 j (omega arith) ∙ ap (λ (k : ℕ). get_or pool k 0) (get_or-take found kids j 0 h)

  found-long : length (masks_at pool (take found kids)) ≡ found
  found-long = length-map (take found kids) (λ (k : ℕ). get_or pool k 0) ∙ length-take-le found kids long

  -- positions whose masks stand in order are all different, and so is one more whose mask is not among them
  found-few : (count i : ℕ) → Ordered (masks_at pool (take found kids)) → ((j : ℕ) → j < found → get_or kids j 0 < count) → i < count
      → ((x : ℕ) → Memᴰ x (masks_at pool (take found kids)) → get_or pool i 0 ≢ x) → found < count
  found-few count i o each h new = go (dec_lt found count)
    where
      at : ℕ → ℕ
      at zero = i
      at (suc j) = get_or kids j 0

      ms : List ℕ
      ms = masks_at pool (take found kids)

      go : Dec (found < count) → found < count
      go (yes l) = l
      go (no l) = clash (pigeon count at low)
        where
          low : (j : ℕ) → j ≤ count → at j < count
          low zero b = h
          low (suc j) b = each j (omega arith)

          clash : (a : ℕ) × (b : ℕ) × (a < b) × (b ≤ count) × (at a ≡ at b) → found < count
          clash (zero, suc b, k, m, e) = absurd (new (get_or ms b 0) (get_or-mem ms b 0 (omega (arith, found-long))) (ap (λ (z : ℕ). get_or pool z 0) e ∙ sym (mask-found b (omega arith))))
          clash (suc a, suc b, k, m, e) =
              absurd (true≢false (sym (ordered_at ms o a b (omega arith) (omega (arith, found-long))) ∙ ap (λ (z : ℕ). before z (get_or ms b 0)) (mask-found a (omega arith) ∙ ap (λ (z : ℕ). get_or pool z 0) e ∙ sym (mask-found b (omega arith))) ∙ before-irreflexive (get_or ms b 0)))
          clash (zero, zero, k, m, e) = absurd (omega arith)
          clash (suc a, zero, k, m, e) = absurd (omega arith)

-- the positions found
found_among : (kids : List ℕ) (found count : ℕ) → found ≤ length kids → ((j : ℕ) → j < found → get_or kids j 0 < count) → (k : ℕ) → Memᴰ k (take found kids) → k < count
found_among kids found count long each k m =
    let a = mem-at (take found kids) 0 k m in
    let l : length (take found kids) ≡ found = length-take-le found kids long in
    subst (λ (z : ℕ). z < count) (sym (get_or-take found kids a.0 0 (omega (arith, a.1))) ∙ a.2) (each a.0 (omega (arith, a.1)))

-- their masks, where they are as they were
masks-same : (pool pool₀ : List ℕ) (count : ℕ) → ((i : ℕ) → i < count → get_or pool i 0 ≡ get_or pool₀ i 0) → (ks : List ℕ) → ((k : ℕ) → Memᴰ k ks → k < count) → masks_at pool ks ≡ masks_at pool₀ ks
masks-same pool pool₀ count same [] low = refl
masks-same pool pool₀ count same (k ∷ ks) low = ap₂ {C = List ℕ} (λ a b. a ∷ b) (same k (low k (Memᴰ.head refl))) (masks-same pool pool₀ count same ks (λ j m. low j (Memᴰ.tail m)))

turned : (a v : Bool) → v ≡ not a → a ≡ not v
turned true v e = sym (ap not e)
turned false v e = sym (ap not e)

-- ---- the cycles of a colour set
module _ (p : Policy) (lawful : legal p ≡ true) where
  targets : Targets p
  targets e l = legal-target p lawful e l

  -- of the largest cycles inside m, none lies inside another
  largest-once : (m y z : ℕ) → Memᴰ y (largest_in p m) → Memᴰ z (largest_in p m) → inside y z ≡ true → y ≡ z
  largest-once m y z ky kz i = inside-antisym y z i (subst (λ (w : ℕ). inside z w ≡ true) (sym s.2) (through-largest p targets m s.0 s.1 z (largest-cycle p lawful m z kz) (largest-within p lawful m z kz) on))
    where
      s : (v : ℕ) × (v < p.states) × (y ≡ cycle_through p m v) × (lowest_is p v y ≡ true)
      s = largest-in-mem p m y ky

      on : contains p s.0 z ≡ true
      on = contains-inside p s.0 y z i (ap (contains p s.0) s.2 ∙ (through-cycle p targets m s.0 s.1 (λ w. (lowest-some p s.0 y s.3).0 (s.2 ∙ w))).1)

  set-colours : (c y : ℕ) → Memᴰ y (largest_in p (edges_in p c)) → inside (colours_of p y) c ≡ true
  set-colours c y k = inside-trans (colours_of p y) (colours_of p (edges_in p c)) c (colours-up p y (edges_in p c) (largest-within p lawful (edges_in p c) y k)) (edges-in-colours p c)

  -- ---- a node
  module _ (n : ℕ) (full : Full p n) where
    child-in : (x : ℕ) → Memᴰ x (children p n) → inside x n ≡ true
    child-in x k = properly-inside x n (child p n x k).within

    -- a cycle of a set of its colours that has a child of it lies inside it
    in-node : (c y x : ℕ) → inside c (colours_of p n) ≡ true → Memᴰ y (largest_in p (edges_in p c)) → Memᴰ x (children p n) → inside x y ≡ true → inside y n ≡ true
    in-node c y x i ky kx t =
        let s = cycle-state p lawful x (child p n x kx).cycle in
        full-largest p lawful n full y s.0 (largest-cycle p lawful (edges_in p c) y ky) (inside-trans (colours_of p y) c (colours_of p n) (set-colours c y ky) i)
        (contains-inside p s.0 x n (child-in x kx) s.2) (contains-inside p s.0 x y t s.2)

    -- a child that waits in a set lies inside one of its cycles
    in-cycle : (c x : ℕ) → Memᴰ x (children p n) → inside (colours_of p x) c ≡ true → (y : ℕ) × Memᴰ y (largest_in p (edges_in p c)) × (inside x y ≡ true)
    in-cycle c x k i = let cy = (child p n x k).cycle in in-largest p lawful (edges_in p c) x cy (inside-colours p lawful x c cy i)

  -- a cycle without colours has quiet edges
  some-counts : (x : ℕ) → is_cycle p x ≡ true → (colours_of p x ≢ 0) ⊎ (p.quiet ≢ 0)
  some-counts x cy = go (ℕ_discrete p.quiet 0)
    where
      s : (v : ℕ) × (v < p.states) × (contains p v x ≡ true)
      s = cycle-state p lawful x cy

      e : (e : ℕ) × (e < edges p) × (has x e ≡ true) × (source p e ≡ s.0)
      e = contains-some p s.0 x s.2

      go : Dec (p.quiet ≡ 0) → (colours_of p x ≢ 0) ⊎ (p.quiet ≢ 0)
      go (no q) = inr q
      go (yes q) = let c = edge-coloured p e.0 (plain-loud p q e.0) in inl (some-nonzero (colours_of p x) c.0 (some-colours p x e.0 c.0 e.1 e.2 c.1))

  -- ---- the search
  module _ (n : ℕ) (full : Full p n) (v : Bool) (verdict : v ≡ not (accepting p n)) where
    abbrev h : ℕ
    h = colours_of p n

    child-verdict : (x : ℕ) → Memᴰ x (children p n) → accepting p x ≡ v
    child-verdict x k = (child p n x k).turned ∙ sym verdict

    -- the sets with a set of the verdict v inside them
    abbrev pub Within : List ℕ → Type 0
    Within within = (d s : ℕ) → s < 2 ^ p.colours → inside d s ≡ true → in_family p d ≡ v → (d ≢ 0) ⊎ (p.quiet ≢ 0) → has_set within s ≡ true

    -- a child with colours in c, which has the node's verdict, waits in a set with one colour fewer
    smaller-waits : (within todo todo' : List ℕ) → Within within → (c : ℕ) → c < 2 ^ p.colours → c < 256 → in_family p c ≡ not v → Smaller within todo c todo'
        → (x : ℕ) → Memᴰ x (children p n) → inside (colours_of p x) c ≡ true → WaitsIn p todo' x
    smaller-waits within todo todo' w c lt byte other sm x k i =
        let r = sm.some (colours_of p x) i differ (λ s b a q. w (colours_of p x) s (omega (arith, inside-le s c q)) a (sym (accepting-is p x) ∙ child-verdict x k) (some-counts x (child p n x k).cycle)) in
        (r.0, omega (arith, r.1), r.3, r.2)
      where
        differ : colours_of p x ≢ c
        differ e = not_itself v (sym (child-verdict x k) ∙ accepting-is p x ∙ ap (in_family p) e ∙ other)

    -- ---- one cycle
    module _ {pool : List ℕ} {count s from to : ℕ} {todo kids : List ℕ} {found : ℕ} (l : Looking p n pool count s from to todo kids found) where
      abbrev ms : List ℕ
      ms = masks_at pool (take found kids)

      abbrev y : ℕ
      y = get_or pool from 0

      -- what lies in it is found, or waits
      looking-on : (todo' : List ℕ) → length todo' ≡ 4 → ((t : ℕ) → t < 256 → has_set todo t ≡ true → has_set todo' t ≡ true) → ((t : ℕ) → t < 256 → has_set todo' t ≡ true → (t < s) × (inside t h ≡ true))
          → ((x : ℕ) → Memᴰ x (children p n) → inside x y ≡ true → Memᴰ x ms ⊎ WaitsIn p todo' x) → Looking p n pool count s (from + 1) to todo' kids found
      looking-on todo' four kept lower here = record {
        four = four;
        long = l.long;
        each = l.each;
        mine = l.mine;
        ordered = l.ordered;
        lower = lower;
        waits = λ x k. go x k (l.waits x k);
      }
        where
          settle : (x : ℕ) → Memᴰ x ms ⊎ WaitsIn p todo' x → Memᴰ x ms ⊎ (WaitsIn p todo' x ⊎ LiesAt pool (from + 1) to x)
          settle x (inl m) = inl m
          settle x (inr w) = inr (inl w)

          at : (x : ℕ) → Memᴰ x (children p n) → (j : ℕ) → from ≤ j → j < to → inside x (get_or pool j 0) ≡ true → Dec (j ≡ from) → Memᴰ x ms ⊎ (WaitsIn p todo' x ⊎ LiesAt pool (from + 1) to x)
          at x k j a b i (yes e) = settle x (here x k (ap (λ (z : ℕ). inside x (get_or pool z 0)) (sym e) ∙ i))
          at x k j a b i (no e) = inr (inr (j, omega arith, b, i))

          go : (x : ℕ) → Memᴰ x (children p n) → Memᴰ x ms ⊎ (WaitsIn p todo x ⊎ LiesAt pool from to x) → Memᴰ x ms ⊎ (WaitsIn p todo' x ⊎ LiesAt pool (from + 1) to x)
          go x k (inl m) = inl m
          go x k (inr (inl w)) = inr (inl (w.0, w.1, kept w.0 w.1 w.2, w.3))
          go x k (inr (inr a)) = at x k a.0 a.1 a.2 a.3 (ℕ_discrete a.0 from)

      module _ (c : inside s h ≡ true) (low : from < to) (span : (j : ℕ) → from ≤ j → j < to → Memᴰ (get_or pool j 0) (largest_in p (edges_in p s))) where
        ky : Memᴰ y (largest_in p (edges_in p s))
        ky = span from (omega arith) low

        cy : is_cycle p y ≡ true
        cy = largest-cycle p lawful (edges_in p s) y ky

        hue-in : inside (colours_of p y) s ≡ true
        hue-in = set-colours s y ky

        -- it lies not inside the node: no child lies inside it
        pub looking-outside : inside y n ≡ false → Looking p n pool count s (from + 1) to todo kids found
        looking-outside f = looking-on todo l.four (λ t b a. a) l.lower (λ x k i. absurd (true≢false (sym (in-node n full s y x c ky k i) ∙ f)))

        -- it lies inside a child that is found
        pub looking-covered : any (inside y) ms ≡ true → Looking p n pool count s (from + 1) to todo kids found
        looking-covered t = looking-on todo l.four (λ t b a. a) l.lower (λ x k i. inl (same x k (inside-trans x y r.0 i r.2)))
          where
            r : (z : ℕ) × Memᴰ z ms × (inside y z ≡ true)
            r = any_some (inside y) ms t

            kz : Memᴰ r.0 (children p n)
            kz = l.mine r.0 r.1

            same : (x : ℕ) → Memᴰ x (children p n) → inside x r.0 ≡ true → Memᴰ x ms
            same x k i = subst (λ (z : ℕ). Memᴰ z ms) (sym (child-largest p n x r.0 k (child p n r.0 kz).cycle (child-in n full r.0 kz) (child-verdict r.0 kz ∙ sym (child-verdict x k)) i)) r.1

        -- its colours have the other verdict, but are not all of s: their turn comes
        pub looking-later : (todo' : List ℕ) → length todo' ≡ 4 → ((t : ℕ) → t < 256 → has_set todo t ≡ true → has_set todo' t ≡ true) → ((t : ℕ) → t < 256 → has_set todo' t ≡ true → (has_set todo t ≡ true) ⊎ (t ≡ colours_of p y))
            → has_set todo' (colours_of p y) ≡ true → colours_of p y < 256 → colours_of p y ≢ s → Looking p n pool count s (from + 1) to todo' kids found
        looking-later todo' four kept only here byte differ = looking-on todo' four kept (λ t b a. lower t b (only t b a)) (λ x k i. inr (colours_of p y, byte, here, colours-up p x y i))
          where
            lower : (t : ℕ) → t < 256 → (has_set todo t ≡ true) ⊎ (t ≡ colours_of p y) → (t < s) × (inside t h ≡ true)
            lower t b (inl a) = l.lower t b a
            lower t b (inr e) = let ne : t ≢ s = λ z. differ (sym e ∙ z) in (omega (arith, ne, e, inside-le (colours_of p y) s hue-in), subst (λ (z : ℕ). inside z h ≡ true) (sym e) (inside-trans (colours_of p y) s h hue-in c))

        -- its colours have the node's verdict: they lose one
        pub looking-smaller : (within todo' : List ℕ) → Within within → s < 256 → s < 2 ^ p.colours → in_family p (colours_of p y) ≡ not v → Smaller within todo (colours_of p y) todo' → Looking p n pool count s (from + 1) to todo' kids found
        looking-smaller within todo' w byte lt other sm =
            let le = inside-le (colours_of p y) s hue-in in
            looking-on todo' sm.long sm.kept (λ t b a. lower t b (sm.only t b a)) (λ x k i. inr (smaller-waits within todo todo' w (colours_of p y) (omega arith) (omega arith) other sm x k (colours-up p x y i)))
          where
            lower : (t : ℕ) → t < 256 → (has_set todo t ≡ true) ⊎ ((inside t (colours_of p y) ≡ true) × (t < colours_of p y)) → (t < s) × (inside t h ≡ true)
            lower t b (inl a) = l.lower t b a
            lower t b (inr a) = (omega (arith, a.1, inside-le (colours_of p y) s hue-in), inside-trans t (colours_of p y) h a.0 (inside-trans (colours_of p y) s h hue-in c))

        -- ---- it is a child
        module _ (is : colours_of p y ≡ s) (other : in_family p s ≡ v) (in-n : inside y n ≡ true) (free : any (inside y) ms ≡ false) where
          mine : Memᴰ y (children p n)
          mine = go (l.waits z kz)
            where
              r : (z : ℕ) × Memᴰ z (children p n) × (inside y z ≡ true)
              r = in_child p n y cy in-n (accepting-is p y ∙ ap (in_family p) is ∙ other ∙ verdict)

              z : ℕ
              z = r.0

              kz : Memᴰ z (children p n)
              kz = r.1

              up : inside (colours_of p y) (colours_of p z) ≡ true
              up = colours-up p y z r.2

              go : Memᴰ z ms ⊎ (WaitsIn p todo z ⊎ LiesAt pool from to z) → Memᴰ y (children p n)
              go (inl m) = absurd (true≢false (sym r.2 ∙ none_any (inside y) ms free z m))
              go (inr (inl w)) = absurd (omega (arith, (l.lower w.0 w.1 w.2).0, inside-le (colours_of p z) w.0 w.3, inside-le (colours_of p y) (colours_of p z) up, is))
              go (inr (inr a)) =
                  let e : y ≡ get_or pool a.0 0 = largest-once (edges_in p s) y (get_or pool a.0 0) ky (span a.0 a.1 a.2) (inside-trans y z (get_or pool a.0 0) r.2 a.3) in
                  subst (λ (w : ℕ). Memᴰ w (children p n)) (inside-antisym z y (subst (λ (w : ℕ). inside z w ≡ true) (sym e) a.3) r.2) kz

          new : (x : ℕ) → Memᴰ x ms → y ≢ x
          new x m e = true≢false (sym (inside-refl y) ∙ ap (inside y) e ∙ none_any (inside y) ms free x m)

          pub looking-room : from < count → found < count
          looking-room b = found-few pool kids found l.long count from l.ordered l.each b new

          pub looking-found : from < count → found < length kids → Looking p n pool count s (from + 1) to todo (carried pool found from kids) (found + 1)
          looking-found b room = record {
            four = l.four;
            long = omega (arith, carried-length pool found from kids);
            each = λ j q. each j q;
            mine = λ x m. part x (cases x m);
            ordered = subst (λ (t : List ℕ). Ordered t) (sym placed) (place-ordered y ms l.ordered new);
            lower = l.lower;
            waits = λ x k. go x k (l.waits x k);
          }
            where
              ks : List ℕ
              ks = carried pool found from kids

              placed : masks_at pool (take (found + 1) ks) ≡ place y ms
              placed = ap (λ (j : ℕ). masks_at pool (take j ks)) (add-one found) ∙ carried-place pool found from kids room l.ordered

              cases : (x : ℕ) → Memᴰ x (masks_at pool (take (found + 1) ks)) → (x ≡ y) ⊎ Memᴰ x ms
              cases x m = place-mem y ms x (subst (λ (t : List ℕ). Memᴰ x t) placed m)

              back : (x : ℕ) → Memᴰ x (y ∷ ms) → Memᴰ x (masks_at pool (take (found + 1) ks))
              back x m = subst (λ (t : List ℕ). Memᴰ x t) (sym placed) (mem-place y ms x m)

              part : (x : ℕ) → (x ≡ y) ⊎ Memᴰ x ms → Memᴰ x (children p n)
              part x (inl e) = subst (λ (z : ℕ). Memᴰ z (children p n)) (sym e) mine
              part x (inr m) = l.mine x m

              position : (k : ℕ) → (k ≡ from) ⊎ Memᴰ k (take found kids) → k < count
              position k (inl e) = omega arith
              position k (inr m) = found_among kids found count l.long l.each k m

              each : (j : ℕ) → j < found + 1 → get_or ks j 0 < count
              each j q =
                  let long : length (take (suc found) ks) ≡ suc found = length-take-le (suc found) ks (omega (arith, carried-length pool found from kids)) in
                  let at = get_or-take (suc found) ks j 0 (omega arith) in
                  position (get_or ks j 0) (carried-in pool found from kids (get_or ks j 0) (subst (λ (z : ℕ). Memᴰ z (take (suc found) ks)) at (get_or-mem (take (suc found) ks) j 0 (omega arith))))

              same : (x : ℕ) → Memᴰ x (children p n) → inside x y ≡ true → x ≡ y
              same x k i = child-largest p n x y k cy in-n (accepting-is p y ∙ ap (in_family p) is ∙ other ∙ sym (child-verdict x k)) i

              at : (x : ℕ) → Memᴰ x (children p n) → (j : ℕ) → from ≤ j → j < to → inside x (get_or pool j 0) ≡ true → Dec (j ≡ from) → Memᴰ x (masks_at pool (take (found + 1) ks)) ⊎ (WaitsIn p todo x ⊎ LiesAt pool (from + 1) to x)
              at x k j a b i (yes e) = inl (back x (Memᴰ.head (same x k (ap (λ (z : ℕ). inside x (get_or pool z 0)) (sym e) ∙ i))))
              at x k j a b i (no e) = inr (inr (j, omega arith, b, i))

              go : (x : ℕ) → Memᴰ x (children p n) → Memᴰ x ms ⊎ (WaitsIn p todo x ⊎ LiesAt pool from to x) → Memᴰ x (masks_at pool (take (found + 1) ks)) ⊎ (WaitsIn p todo x ⊎ LiesAt pool (from + 1) to x)
              go x k (inl m) = inl (back x (Memᴰ.tail m))
              go x k (inr (inl w)) = inr (inl w)
              go x k (inr (inr a)) = at x k a.0 a.1 a.2 a.3 (ℕ_discrete a.0 from)

    -- ---- one colour set
    -- the cycles are all looked at
    pub looking-done : {pool : List ℕ} {count s from to : ℕ} {todo kids : List ℕ} {found : ℕ} → Looking p n pool count s from to todo kids found → to ≤ from → Looking p n pool count s 0 0 todo kids found
    looking-done {pool} {count} {s} {from} {to} {todo} {kids} {found} l e = record {
      four = l.four;
      long = l.long;
      each = l.each;
      mine = l.mine;
      ordered = l.ordered;
      lower = l.lower;
      waits = λ x k. go x (l.waits x k);
    }
      where
        go : (x : ℕ) → Memᴰ x (masks_at pool (take found kids)) ⊎ (WaitsIn p todo x ⊎ LiesAt pool from to x) → Memᴰ x (masks_at pool (take found kids)) ⊎ (WaitsIn p todo x ⊎ LiesAt pool 0 0 x)
        go x (inl m) = inl m
        go x (inr (inl w)) = inr (inl w)
        go x (inr (inr a)) = absurd (omega (arith, a.1, a.2))

    -- more cycles are listed
    pub looking-extends : {pool₀ pool : List ℕ} {count₀ count s : ℕ} {todo kids : List ℕ} {found : ℕ} → Looking p n pool₀ count₀ s 0 0 todo kids found → Extends pool₀ count₀ pool count → Looking p n pool count s 0 0 todo kids found
    looking-extends {pool₀} {pool} {count₀} {count} {s} {todo} {kids} {found} l x = record {
      four = l.four;
      long = l.long;
      each = λ j b. omega (arith, l.each j b, x.more);
      mine = λ z m. l.mine z (subst (λ (t : List ℕ). Memᴰ z t) same m);
      ordered = subst (λ (t : List ℕ). Ordered t) (sym same) l.ordered;
      lower = l.lower;
      waits = λ z k. go z (l.waits z k);
    }
      where
        same : masks_at pool (take found kids) ≡ masks_at pool₀ (take found kids)
        same = masks-same pool pool₀ count₀ x.kept (take found kids) (found_among kids found count₀ l.long l.each)

        go : (z : ℕ) → Memᴰ z (masks_at pool₀ (take found kids)) ⊎ (WaitsIn p todo z ⊎ LiesAt pool₀ 0 0 z) → Memᴰ z (masks_at pool (take found kids)) ⊎ (WaitsIn p todo z ⊎ LiesAt pool 0 0 z)
        go z (inl m) = inl (subst (λ (t : List ℕ). Memᴰ z t) (sym same) m)
        go z (inr (inl w)) = inr (inl w)
        go z (inr (inr a)) = absurd (omega (arith, a.2))

    -- the greatest set is taken out
    module _ {pool : List ℕ} {count left : ℕ} {todo kids : List ℕ} {found : ℕ} (l : Looking p n pool count left 0 0 todo kids found) (s : ℕ) (todo' : List ℕ) (four : length todo' ≡ 4)
        (out : (d : ℕ) → d < 256 → has_set todo' d ≡ (has_set todo d && not (eqb d s))) (last : (d : ℕ) → d < 256 → has_set todo d ≡ true → d ≤ s) where
      rest : (t : ℕ) → t < 256 → has_set todo' t ≡ true → (has_set todo t ≡ true) × (t ≢ s)
      rest t b a = let q = sym (out t b) ∙ a in (and_l (has_set todo t) (not (eqb t s)) q, λ e. true≢false (sym (≡eqb t s e) ∙ not-true (eqb t s) (and_r (has_set todo t) (not (eqb t s)) q)))

      stays : (t : ℕ) → t < 256 → has_set todo t ≡ true → t ≢ s → has_set todo' t ≡ true
      stays t b a e = out t b ∙ both (has_set todo t) (not (eqb t s)) a (ap not (neqb t s e))

      lower : (t : ℕ) → t < 256 → has_set todo' t ≡ true → (t < s) × (inside t h ≡ true)
      lower t b a = let r = rest t b a in let ne = r.1 in (omega (arith, last t b r.0), (l.lower t b r.0).1)

      -- its cycles stand from `from` up to `to`
      pub looking-set : (among : ℕ) → StatesIn p among n → (from to : ℕ) → ((y u : ℕ) → Memᴰ y (largest_in p (edges_in p s)) → has among u ≡ true → contains p u y ≡ true → (j : ℕ) × (from ≤ j) × (j < to) × (get_or pool j 0 ≡ y)) → Looking p n pool count s from to todo' kids found
      looking-set among own from to span = record {
        four = four;
        long = l.long;
        each = l.each;
        mine = l.mine;
        ordered = l.ordered;
        lower = lower;
        waits = λ x k. go x k (l.waits x k);
      }
        where
          at : (x : ℕ) → Memᴰ x (children p n) → (t : ℕ) → t < 256 → has_set todo t ≡ true → inside (colours_of p x) t ≡ true → Dec (t ≡ s) → WaitsIn p todo' x ⊎ LiesAt pool from to x
          at x k t b a i (no e) = inl (t, b, stays t b a e, i)
          at x k t b a i (yes e) =
              let r = in-cycle n full s x k (subst (λ (z : ℕ). inside (colours_of p x) z ≡ true) e i) in
              let u = cycle-state p lawful x (child p n x k).cycle in
              let j = span r.0 u.0 r.1 (own u.0 (contains-inside p u.0 x n (child-in n full x k) u.2)) (contains-inside p u.0 x r.0 r.2 u.2) in
              inr (j.0, j.1, j.2, ap (inside x) j.3 ∙ r.2)

          go : (x : ℕ) → Memᴰ x (children p n) → Memᴰ x (masks_at pool (take found kids)) ⊎ (WaitsIn p todo x ⊎ LiesAt pool 0 0 x) → Memᴰ x (masks_at pool (take found kids)) ⊎ (WaitsIn p todo' x ⊎ LiesAt pool from to x)
          go x k (inl m) = inl m
          go x k (inr (inl w)) = inr (at x k w.0 w.1 w.2 w.3 (ℕ_discrete w.0 s))
          go x k (inr (inr a)) = absurd (omega (arith, a.2))

    -- ---- all of them
    -- none is found, and each waits in a set with one colour fewer than the node
    pub looking-none : (pool : List ℕ) (count : ℕ) (kids within todo todo' : List ℕ) → Within within → h < 256 → h < 2 ^ p.colours → ((t : ℕ) → t < 256 → has_set todo t ≡ false) → Smaller within todo h todo'
        → Looking p n pool count h 0 0 todo' kids 0
    looking-none pool count kids within todo todo' w byte lt empty sm = record {
      four = sm.long;
      long = omega arith;
      each = λ j b. absurd (omega arith);
      mine = λ x m. absurd (Memᴰ.not-nil m);
      ordered = tt;
      lower = λ t b a. below t b (sm.only t b a);
      waits = λ x k. inr (inl (smaller-waits within todo todo' w h lt byte (sym (accepting-is p n) ∙ turned (accepting p n) v verdict) sm x k (colours-up p x n (child-in n full x k))));
    }
      where
        below : (t : ℕ) → t < 256 → (has_set todo t ≡ true) ⊎ ((inside t h ≡ true) × (t < h)) → (t < h) × (inside t h ≡ true)
        below t b (inl a) = absurd (true≢false (sym a ∙ empty t b))
        below t b (inr a) = (a.1, a.0)

    -- no set is left
    pub looking-all : {pool : List ℕ} {count left : ℕ} {todo kids : List ℕ} {found : ℕ} → Looking p n pool count left 0 0 todo kids found → ((t : ℕ) → t < 256 → has_set todo t ≡ true → ⊥) → ChildrenAt p n pool count kids found
    looking-all {pool} {count} {left} {todo} {kids} {found} l none = record {
      long = l.long;
      each = l.each;
      masks_are = ordered_same (masks_at pool (take found kids)) (children p n) l.ordered (ordered-children p n) l.mine (λ x k. go x (l.waits x k));
    }
      where
        go : (x : ℕ) → Memᴰ x (masks_at pool (take found kids)) ⊎ (WaitsIn p todo x ⊎ LiesAt pool 0 0 x) → Memᴰ x (masks_at pool (take found kids))
        go x (inl m) = m
        go x (inr (inl w)) = absurd (none w.0 w.1 w.2)
        go x (inr (inr a)) = absurd (omega (arith, a.2))

-- ---- options
none-some : (r : Option ℕ) {k : ℕ} → r ≡ None → r ≡ Some k → ⊥
none-some r a b = cc

some-is : {a k : ℕ} → Some a ≡ Some k → a ≡ k
some-is e = cc

-- ---- the same, as the code goes by it
other-verdict : (a v : Bool) → a ≢ v → a ≡ not v
other-verdict true true d = absurd (d refl)
other-verdict true false d = refl
other-verdict false true d = refl
other-verdict false false d = absurd (d refl)

module _ {p : Policy} {family : List Bool} {within : List ℕ} {n : ℕ} {v : Bool} {s : ℕ} {pool hues : List ℕ} {count i to : ℕ} {todo kids : List ℕ} {found : ℕ}
    (g : Node p family within n v) (r : Span p n s pool hues count i to) (low : i < to) (l : Looking p n pool count s i to todo kids found) where
  abbrev x : ℕ
  x = get_or pool i 0

  hue : get_or hues i 0 ≡ colours_of p x
  hue = r.hued i (omega (arith, low, r.listed))

  at-verdict : in_family p (colours_of p x) ≡ get_or family (get_or hues i 0) false
  unfolding in_family
  at-verdict = sym (ap (λ (t : List Bool). get_or t (get_or hues i 0) false) g.family_is ∙ ap (λ (c : ℕ). get_or p.family c false) hue)

  set-lt : s < 2 ^ p.colours
  set-lt = omega (arith, inside-le s (colours_of p n) r.of_node, colours-lt p g.lawful n)

  pub at-outside : inside x n ≡ false → Looking p n pool count s (i + 1) to todo kids found
  at-outside f = looking-outside p g.lawful n g.full v g.verdict l r.of_node low r.cycles f

  pub at-covered : outside pool kids found x ≡ false → Looking p n pool count s (i + 1) to todo kids found
  unfolding outside
  at-covered f = looking-covered p g.lawful n g.full v g.verdict l r.of_node low r.cycles (not-false (any (inside x) (masks_at pool (take found kids))) f)

  pub at-smaller : {todo' : List ℕ} → get_or family (get_or hues i 0) false ≢ v → s < 256 → Smaller within todo (get_or hues i 0) todo' → Looking p n pool count s (i + 1) to todo' kids found
  at-smaller {todo'} d byte sm =
      looking-smaller p g.lawful n g.full v g.verdict l r.of_node low r.cycles within todo' g.around byte set-lt (at-verdict ∙ other-verdict (get_or family (get_or hues i 0) false) v d) (subst (λ (c : ℕ). Smaller within todo c todo') hue sm)

  pub at-later : {todo' : List ℕ} → length todo' ≡ 4 → ((d : ℕ) → d < 256 → has_set todo' d ≡ (has_set todo d || (true && eqb d (get_or hues i 0)))) → get_or hues i 0 < 256 → get_or hues i 0 ≢ s → Looking p n pool count s (i + 1) to todo' kids found
  at-later {todo'} four is byte differ =
      looking-later p g.lawful n g.full v g.verdict l r.of_node low r.cycles todo' four (λ t b a. is t b ∙ or_left (has_set todo t) (true && eqb t (get_or hues i 0)) a) (λ t b a. only t (or_cases (has_set todo t) (true && eqb t (get_or hues i 0)) (sym (is t b) ∙ a)))
      (subst (λ (c : ℕ). has_set todo' c ≡ true) hue (is (get_or hues i 0) byte ∙ or_right (has_set todo (get_or hues i 0)) (true && eqb (get_or hues i 0) (get_or hues i 0)) (≡eqb (get_or hues i 0) (get_or hues i 0) refl))) (omega (arith, hue)) (λ e. differ (hue ∙ e))
    where
      only : (t : ℕ) → (has_set todo t ≡ true) ⊎ ((true && eqb t (get_or hues i 0)) ≡ true) → (has_set todo t ≡ true) ⊎ (t ≡ colours_of p x)
      only t (inl a) = inl a
      only t (inr a) = inr (eqb≡ t (get_or hues i 0) a ∙ hue)

  module _ (is : get_or hues i 0 ≡ s) (other : get_or family (get_or hues i 0) false ≡ v) (in-n : inside x n ≡ true) (free : outside pool kids found x ≡ true) where
    exact : colours_of p x ≡ s
    exact = sym hue ∙ is

    same_verdict : in_family p s ≡ v
    same_verdict = ap (in_family p) (sym exact) ∙ at-verdict ∙ other

    none : any (inside x) (masks_at pool (take found kids)) ≡ false
    unfolding outside
    none = not-true (any (inside x) (masks_at pool (take found kids))) free

    pub at_room : found < count
    at_room = looking-room p g.lawful n g.full v g.verdict l r.of_node low r.cycles exact same_verdict in-n none (omega (arith, low, r.listed))

    pub at-found : found < length kids → Looking p n pool count s (i + 1) to todo (carried pool found i kids) (found + 1)
    at-found room = looking-found p g.lawful n g.full v g.verdict l r.of_node low r.cycles exact same_verdict in-n none (omega (arith, low, r.listed)) room

    -- there is no place for it
    pub at-full : length kids ≤ found → Looked p n pool count s (i + 1) to todo kids None
    at-full h = record { looking = λ k e. absurd (none-some None refl e); fits = λ q. absurd (omega (arith, at_room, r.long)) }

-- what is found has a place
pub looked-of : {p : Policy} {n : ℕ} {pool : List ℕ} {count s from to : ℕ} {todo kids : List ℕ} {found : ℕ} → Looking p n pool count s from to todo kids found → Looked p n pool count s from to todo kids (Some found)
looked-of {p} {n} {pool} {count} {s} {from} {to} {todo} {kids} {found} l = record { looking = λ k e. subst (λ (x : ℕ). Looking p n pool count s from to todo kids x) (some-is e) l; fits = λ _ e. none-some _ e refl }

-- the rest is not looked at where a child has no place
pub looked-over : {p : Policy} {n : ℕ} {pool : List ℕ} {count s from to i j : ℕ} {todo kids : List ℕ} → Looked p n pool count s i j todo kids None → Looked p n pool count s from to todo kids None
looked-over l = record { looking = λ k e. absurd (none-some None refl e); fits = l.fits }

-- ---- two verdicts compared
pub beq-other : (a b : Bool) → not (beq a b) ≡ true → a ≢ b
beq-other true true t = absurd (true≢false (sym t))
beq-other true false t = true≢false
beq-other false true t = λ e. true≢false (sym e)
beq-other false false t = absurd (true≢false (sym t))

pub beq_same : (a b : Bool) → not (beq a b) ≡ false → a ≡ b
beq_same true true f = refl
beq_same true false f = absurd (true≢false f)
beq_same false true f = absurd (true≢false f)
beq_same false false f = refl

-- ---- kids that are the same
pub looking-is : {p : Policy} {n : ℕ} {pool : List ℕ} {count s from to : ℕ} {todo kids kids' : List ℕ} {found : ℕ} → kids ≡ kids' → Looking p n pool count s from to todo kids found → Looking p n pool count s from to todo kids' found
looking-is {p} {n} {pool} {count} {s} {from} {to} {todo} {kids} {kids'} {found} e l = subst (λ (t : List ℕ). Looking p n pool count s from to todo t found) e l

-- ---- a set that is listed
module _ {p : Policy} {among : ℕ} {pool hues spans : List ℕ} {count : ℕ} (l : Pool p among pool hues spans count) (s : ℕ) (e : get_or spans (2 * s + 1) 0 ≢ 0) where
  a : SpanOf p among pool count s (get_or spans (2 * s) 0) (get_or spans (2 * s + 1) 0)
  a = l.listed s e

  pub listed-span : (n : ℕ) → inside s (colours_of p n) ≡ true → Span p n s pool hues count (get_or spans (2 * s) 0) (get_or spans (2 * s) 0 + get_or spans (2 * s + 1) 0 - 1)
  listed-span n c = record {
    of_node = c;
    listed = let w = a.within in omega arith;
    long = l.long;
    hued = l.hued;
    cycles = λ j b t. a.lists.cycles j b (omega arith);
  }

  pub listed-all : (y u : ℕ) → Memᴰ y (largest_in p (edges_in p s)) → has among u ≡ true → contains p u y ≡ true → (j : ℕ) × (get_or spans (2 * s) 0 ≤ j) × (j < get_or spans (2 * s) 0 + get_or spans (2 * s + 1) 0 - 1) × (get_or pool j 0 ≡ y)
  listed-all y u k on at = let j = a.lists.all y u k on at in (j.0, j.1, omega (arith, j.2), j.3)

-- the positions of those found
pub looking-positions : {p : Policy} {n : ℕ} {pool : List ℕ} {count s from to : ℕ} {todo kids : List ℕ} {found : ℕ} → Looking p n pool count s from to todo kids found → count ≤ length pool → Positions pool kids found
looking-positions l h = record { long = l.long; each = λ j b. omega (arith, l.each j b) }

-- a span from a later position on
pub span-from : {p : Policy} {n s : ℕ} {pool hues : List ℕ} {count from to : ℕ} → Span p n s pool hues count from to → (i : ℕ) → from ≤ i → Span p n s pool hues count i to
span-from r i h = record { of_node = r.of_node; listed = r.listed; long = r.long; hued = r.hued; cycles = λ j b t. r.cycles j (omega arith) t }

-- ---- a colour set is listed
pub listed-short : {p : Policy} {among s : ℕ} {pool hues spans : List ℕ} {count : ℕ} → Pool p among pool hues spans count → s < 255 → get_or spans (2 * s + 1) 0 ≡ 0 → length pool - count < 16 → NowListed p among s pool count pool hues spans count false
listed-short {p} {among} {s} {pool} {hues} {spans} {count} l h e r = record {
  pool_is = l;
  extends = extends-same pool count;
  has_span = λ t. absurd (true≢false (sym t));
  enough = λ m. absurd (omega (arith, pool-room l s h e m));
}

pub listed-now : {p : Policy} {among s : ℕ} {pool₀ : List ℕ} {count₀ : ℕ} {pool hues spans : List ℕ} {count : ℕ} → SetListed p among s pool₀ count₀ pool hues spans count → NowListed p among s pool₀ count₀ pool hues spans count true
listed-now l = record { pool_is = l.pool_is; extends = l.extends; has_span = λ t. l.has_span; enough = λ m. refl }

greatest-in : {p : Policy} {n s : ℕ} {pool : List ℕ} {count : ℕ} {todo kids : List ℕ} {found : ℕ} → Greatest p n s pool count todo kids found → s < 255 → inside s (colours_of p n) ≡ true
greatest-in {s = s} gr byte = (gr.looking.lower s (omega arith) gr.here).1

-- ---- a colour set is searched
module _ {p : Policy} {among : ℕ} {family : List Bool} {within : List ℕ} {n : ℕ} {v : Bool} {s : ℕ} {pool₀ : List ℕ} {count₀ : ℕ} {todo kids : List ℕ} {found : ℕ} (g : NodeAmong p among family within n v) (gr : Greatest p n s pool₀ count₀ todo kids found) (byte : s < 255)
    (todo' : List ℕ) (four : length todo' ≡ 4) (out : (d : ℕ) → d < 256 → has_set todo' d ≡ (has_set todo d && not (eqb d s))) where
  module _ {pool hues spans : List ℕ} {count : ℕ} {whole : Bool} (w : NowListed p among s pool₀ count₀ pool hues spans count whole) where
    -- the space was too short
    pub set-short : whole ≡ false → SetSearched p among n s pool₀ count₀ pool hues spans count todo' kids None
    set-short f = record {
      listed = w.pool_is;
      extends = w.extends;
      looking = λ k e. absurd (none-some None refl e);
      enough = λ m _. absurd (true≢false (sym (w.enough m) ∙ f));
    }

    -- its cycles are looked at
    module _ (t : whole ≡ true) where
      pub set-span : Span p n s pool hues count (get_or spans (2 * s) 0) (get_or spans (2 * s) 0 + get_or spans (2 * s + 1) 0 - 1)
      set-span = listed-span w.pool_is s (w.has_span t) n (greatest-in gr byte)

      pub set-looking : Looking p n pool count s (get_or spans (2 * s) 0) (get_or spans (2 * s) 0 + get_or spans (2 * s + 1) 0 - 1) todo' kids found
      set-looking = looking-set p g.node.lawful n g.node.full v g.node.verdict (looking-extends p g.node.lawful n g.node.full v g.node.verdict gr.looking w.extends) s todo' four out gr.last among g.states_in _ _ (listed-all w.pool_is s (w.has_span t))

      pub set-searched : {todo'' kids'' : List ℕ} {next : Option ℕ} → Looked p n pool count s 0 0 todo'' kids'' next → SetSearched p among n s pool₀ count₀ pool hues spans count todo'' kids'' next
      set-searched l = record { listed = w.pool_is; extends = w.extends; looking = l.looking; enough = λ m k. l.fits k }

-- ---- set by set: the sets to be looked at are below `end`
pub record Searching (p : Policy) (among n : ℕ) (pool₀ : List ℕ) (count₀ : ℕ) (pool hues spans : List ℕ) (count : ℕ) (todo kids : List ℕ) (found end : ℕ) : Type 0 where
  pub listed : Pool p among pool hues spans count
  pub extends : Extends pool₀ count₀ pool count
  pub left : ℕ
  pub low : left ≤ colours_of p n
  pub looking : Looking p n pool count left 0 0 todo kids found
  pub end_is : End todo end

pub searching-none : {p : Policy} {among : ℕ} {family : List Bool} {within : List ℕ} {n : ℕ} {v : Bool} {pool hues spans : List ℕ} {count : ℕ} (kids : List ℕ) {todo todo' : List ℕ} {h end : ℕ} → Node p family within n v → Pool p among pool hues spans count → h ≡ colours_of p n → h < 256
    → ((t : ℕ) → t < 256 → has_set todo t ≡ false) → Smaller within todo h todo' → End todo' end → Searching p among n pool count pool hues spans count todo' kids 0 end
searching-none {p} {among} {family} {within} {n} {v} {pool} {hues} {spans} {count} kids {todo} {todo'} g l is byte empty sm e = record {
  listed = l;
  extends = extends-same pool count;
  left = colours_of p n;
  low = omega arith;
  looking = looking-none p g.lawful n g.full v g.verdict pool count kids within todo todo' g.around (omega arith) (colours-lt p g.lawful n) empty (subst (λ (c : ℕ). Smaller within todo c todo') is sm);
  end_is = e;
}

module _ {p : Policy} {among n : ℕ} {pool₀ : List ℕ} {count₀ : ℕ} {pool hues spans : List ℕ} {count : ℕ} {todo kids : List ℕ} {found end : ℕ} (w : Searching p among n pool₀ count₀ pool hues spans count todo kids found end) where
  -- the greatest set
  module _ (some : 0 < end) where
    here : has_set todo (end - 1) ≡ true
    here = let ne : end ≢ 0 = λ e. omega arith in w.end_is.last ne

    pub searching-low : end - 1 < colours_of p n
    searching-low = omega (arith, (w.looking.lower (end - 1) (let m = w.end_is.most in omega arith) here).0, w.low)

    pub searching-greatest : Greatest p n (end - 1) pool count todo kids found
    searching-greatest = record { left = w.left; looking = w.looking; here = here; last = λ d b a. let q = w.end_is.past d b a in omega arith }

    pub searching-more : {pool' hues' spans' todo' kids' : List ℕ} {count' next : ℕ} {end' : ℕ} → SetSearched p among n (end - 1) pool count pool' hues' spans' count' todo' kids' (Some next) → End todo' end'
        → Searching p among n pool₀ count₀ pool' hues' spans' count' todo' kids' next end' × (end' < end)
    searching-more {next = next} {end' = end'} x e = (record { listed = x.listed; extends = extends-on w.extends x.extends; left = end - 1; low = omega (arith, searching-low); looking = x.looking next refl; end_is = e }, less (ℕ_discrete end' 0))
      where
        less : Dec (end' ≡ 0) → end' < end
        less (yes z) = omega arith
        less (no z) = omega (arith, ((x.looking next refl).lower (end' - 1) (let m = e.most in omega arith) (e.last z)).0)

    pub searching-short : {pool' hues' spans' todo' kids' : List ℕ} {count' : ℕ} → SetSearched p among n (end - 1) pool count pool' hues' spans' count' todo' kids' None → Offspring p among n pool₀ count₀ pool' hues' spans' count' kids' None
    searching-short x = record { listed = x.listed; extends = extends-on w.extends x.extends; children_at = λ k e. absurd (none-some None refl e); enough = x.enough }

  pub searching-all : {family : List Bool} {within : List ℕ} {v : Bool} → Node p family within n v → end ≤ 0 → Offspring p among n pool₀ count₀ pool hues spans count kids (Some found)
  searching-all {v = v} g z = record {
    listed = w.listed;
    extends = w.extends;
    children_at = λ k e. subst (λ (x : ℕ). ChildrenAt p n pool count kids x) (some-is e) (looking-all p g.lawful n g.full v g.verdict w.looking (λ d b a. let q = w.end_is.past d b a in omega arith));
    enough = λ m k e. none-some _ e refl;
  }

-- ---- the node
pub node_of : {p : Policy} {family : List Bool} {accepted rejected : List ℕ} {n : ℕ} → legal p ≡ true → family ≡ p.family → Around p accepted rejected → Full p n → (v : Bool) → accepting p n ≡ v → Node p family (cond v rejected accepted) n (not v)
node_of {p} {family} {accepted} {rejected} {n} lawful is a full true e = record { lawful = lawful; family_is = is; full = full; verdict = ap not (sym e); around = a.rejected_in }
node_of {p} {family} {accepted} {rejected} {n} lawful is a full false e = record { lawful = lawful; family_is = is; full = full; verdict = ap not (sym e); around = a.accepted_in }

-- ---- no set
pub empty-none : (t : ℕ) → has_set (replicate 4 0) t ≡ false
unfolding has_set
empty-none t = ap (λ (w : ℕ). has w (t % 64)) (replicate-at 4 (t / 64) 0) ∙ has-none (t % 64)

-- ---- the verdict of the node
pub node-verdict : (p : Policy) {family : List Bool} (n : ℕ) {h : ℕ} → family ≡ p.family → h ≡ colours_of p n → (b : Bool) → get_or family h false ≡ b → accepting p n ≡ b
unfolding in_family
node-verdict p {family} n {h} is e b t = accepting-is p n ∙ ap (λ (c : ℕ). get_or p.family c false) (sym e) ∙ ap (λ (f : List Bool). get_or f h false) (sym is) ∙ t
