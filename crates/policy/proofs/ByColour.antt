-- The table of the edges by colour: one turn of each loop over it, and that it gives the edges of a colour set and the colours of an edge set. Assumes nothing.
use Prim.Native.Nat.{ℕ, zero, suc, ◌+◌, ◌-◌, ◌*◌, ◌/◌, ◌%◌, ◌^◌, ◌≤◌, ◌<◌}
use native.Mathlib.Omega.{arith}
use native.Mathlib.Decide.{ℕ_discrete, dec_lt}
use native.Mathlib.Nat.{mod-lt, mul-zero, mul-one, mul-le-mul_left}
use native.Mathlib.Numerals.{add-one}
use mathlib.Core.Path.{◌≡◌, refl, sym, ap, ap₂, ◌∙◌, subst}
use mathlib.Core.Logic.{◌⊎◌, inl, inr, ◌≢◌}
use mathlib.Core.Bool.{Bool, true, false, not, ◌&&◌, cond, true≢false, false≢true, and-true}
use mathlib.Core.List.{List, Memᴰ}
use lib.Bits.{bit_and, bit_or, or_zero_r}
use lib.Dec.{eqb}
use lib.ListN.{length, get_or, set, take, replicate, length-set, length-take}
use lib.Seq.{ext_get_or, get_or-take, get_or-set_same, get_or-set_other}
use Rattle.lists.specs.Lists.{all}
use Rattle.lists.proofs.Bools.{test, and_l, and_r, and-absent, and-absorb, both, or_cases, or_left, or_right, eqb≡, ≡eqb, neqb, bool-ext}
use Rattle.lists.proofs.Lists.{get_or-map-below, all-each, each_all}
use Rattle.masks.specs.Masks.{has, insert, minus, mask_of, inside}
use Rattle.masks.proofs.Bits.{has-and, has-or, has-none, has-insert, has-minus, mask-ext, has-full, all-inside, inside-antisym}
use Rattle.masks.proofs.MaskOf.{has-mask-of, mask-of-in, mask-of-out, mask-of-some}
use Rattle.masks.proofs.Members.{none-zero, full-lt}
use Rattle.policy.specs.declared.Policy.{Policy}
use Rattle.policy.specs.Policies.{edges, colour_of, is_quiet, edge_colours, colours_of, in_family, accepting, legal, full}
use Rattle.policy.specs.ByColour.{has_colour, edges_in, by_colour_to, entry_of, by_colour, table_edges_to, table_edges, table_colours_to, table_colours}
use Rattle.policy.proofs.Laws.{legal-counts, legal-colour, quiet_lt, quiet-zero, coloured-loud, edge-colour-is, is-edge-colour, edge-colours-lt, colours_some, some-colours}

-- ---- one turn of the loops over a table
pub edges_none : (t : List ℕ) (c : ℕ) → table_edges_to t 0 c ≡ get_or t 8 0
unfolding table_edges_to
edges_none t c = refl

-- an entry or nothing
pub edges-next : (t : List ℕ) (n c : ℕ) → table_edges_to t (n + 1) c ≡ bit_or (table_edges_to t n c) (cond (has c n) (get_or t n 0) 0)
unfolding table_edges_to
edges-next t n c = rw add-one (go (has c n))
  where
    go : (b : Bool) → cond b (bit_or (table_edges_to t n c) (get_or t n 0)) (table_edges_to t n c) ≡ bit_or (table_edges_to t n c) (cond b (get_or t n 0) 0)
    go true = refl
    go false = sym (or_zero_r (table_edges_to t n c))

-- by a product with 1 or 0
pub times-le : (x n : ℕ) → x * (n % 2) ≤ x
times-le x n =
    let k : n % 2 < 2 = mod-lt n (omega arith) in
    let h : n % 2 ≤ 1 = omega arith in
    omega (arith, mul-le-mul_left x h, mul-one x)

pub times-chosen : (x c k : ℕ) → x * (c / 2 ^ k % 2) ≡ cond (has c k) x 0
unfolding has
times-chosen x c k = go (c / 2 ^ k % 2) (mod-lt (c / 2 ^ k) (omega arith))
  where
    go : (b : ℕ) → b < 2 → x * b ≡ cond (eqb b 1) x 0
    go zero h = mul-zero x
    go (suc zero) h = mul-one x
    go (suc (suc b)) h = absurd (omega arith)

pub colours-to-none : (t : List ℕ) (m : ℕ) → table_colours_to t 0 m ≡ 0
unfolding table_colours_to
colours-to-none t m = refl

-- with entry n, where it has an edge of m
pub colours-to-next : (t : List ℕ) (n m : ℕ) → table_colours_to t (n + 1) m ≡ cond (not (eqb (bit_and m (get_or t n 0)) 0)) (insert (table_colours_to t n m) n) (table_colours_to t n m)
unfolding table_colours_to
colours-to-next t n m = rw add-one (go (eqb (bit_and m (get_or t n 0)) 0))
  where
    go : (b : Bool) → cond b (table_colours_to t n m) (insert (table_colours_to t n m) n) ≡ cond (not b) (insert (table_colours_to t n m) n) (table_colours_to t n m)
    go true = refl
    go false = refl

-- ---- the bits of what they give
-- a quiet edge, or one of an entry of c
abbrev pub Among : List ℕ → ℕ → ℕ → ℕ → Type 0
Among t n c e = (has (get_or t 8 0) e ≡ true) ⊎ ((k : ℕ) × (k < n) × (has c k ≡ true) × (has (get_or t k 0) e ≡ true))

pub edges-to-some : (t : List ℕ) (n c e : ℕ) → has (table_edges_to t n c) e ≡ true → Among t n c e
unfolding table_edges_to
edges-to-some t zero c e h = inl h
edges-to-some t (suc n) c e h = go (test (has c n)) (edges-to-some t n c e)
  where
    up : Among t n c e → Among t (suc n) c e
    up (inl q) = inl q
    up (inr r) = inr (r.0, omega (arith, r.1), r.2, r.3)

    one : has c n ≡ true → (has (table_edges_to t n c) e ≡ true → Among t n c e) → (has (table_edges_to t n c) e ≡ true) ⊎ (has (get_or t n 0) e ≡ true) → Among t (suc n) c e
    one u ih (inl k) = up (ih k)
    one u ih (inr k) = inr (n, omega arith, u, k)

    go : (has c n ≡ true) ⊎ (has c n ≡ false) → (has (table_edges_to t n c) e ≡ true → Among t n c e) → Among t (suc n) c e
    go (inl u) ih = one u ih (or_cases (has (table_edges_to t n c) e) (has (get_or t n 0) e) (sym (has-or e (table_edges_to t n c) (get_or t n 0)) ∙ (rw u at h)))
    go (inr u) ih = up (ih (rw u at h))

-- with the entries below n + 1 they are no fewer
edges-to-up : (t : List ℕ) (n c e : ℕ) → has (table_edges_to t n c) e ≡ true → has (table_edges_to t (suc n) c) e ≡ true
unfolding table_edges_to
edges-to-up t n c e h = go (test (has c n))
  where
    go : (has c n ≡ true) ⊎ (has c n ≡ false) → has (table_edges_to t (suc n) c) e ≡ true
    go (inl w) = rw w (has-or e (table_edges_to t n c) (get_or t n 0) ∙ or_left (has (table_edges_to t n c) e) (has (get_or t n 0) e) h)
    go (inr w) = rw w h

pub quiet-edges-to : (t : List ℕ) (n c e : ℕ) → has (get_or t 8 0) e ≡ true → has (table_edges_to t n c) e ≡ true
unfolding table_edges_to
quiet-edges-to t zero c e h = h
quiet-edges-to t (suc n) c e h = edges-to-up t n c e (quiet-edges-to t n c e h)

pub some-edges-to : (t : List ℕ) (n c e k : ℕ) → k < n → has c k ≡ true → has (get_or t k 0) e ≡ true → has (table_edges_to t n c) e ≡ true
unfolding table_edges_to
some-edges-to t zero c e k l u h = absurd (omega arith)
some-edges-to t (suc n) c e k l u h = go (ℕ_discrete k n) (some-edges-to t n c e k)
  where
    go : Dec (k ≡ n) → (k < n → has c k ≡ true → has (get_or t k 0) e ≡ true → has (table_edges_to t n c) e ≡ true) → has (table_edges_to t (suc n) c) e ≡ true
    go (yes q) ih =
        rw (sym (ap (has c) q) ∙ u) (has-or e (table_edges_to t n c) (get_or t n 0) ∙ or_right (has (table_edges_to t n c) e) (has (get_or t n 0) e) (ap (λ (k : ℕ). has (get_or t k 0) e) (sym q) ∙ h))
    go (no q) ih = edges-to-up t n c e (ih (omega arith) u h)

-- bit c of the colours: c is below n, and entry c has an edge of m
colours-to-some : (t : List ℕ) (n m c : ℕ) → has (table_colours_to t n m) c ≡ true → (c < n) × (bit_and m (get_or t c 0) ≢ 0)
unfolding table_colours_to
colours-to-some t zero m c h = absurd (false≢true (sym (has-none c) ∙ h))
colours-to-some t (suc n) m c h = go (test (eqb (bit_and m (get_or t n 0)) 0)) (colours-to-some t n m c)
  where
    Some : ℕ → Type 0
    Some n = (c < n) × (bit_and m (get_or t c 0) ≢ 0)

    up : Some n → Some (suc n)
    up r = (omega (arith, r.0), r.1)

    one : eqb (bit_and m (get_or t n 0)) 0 ≡ false → (has (table_colours_to t n m) c ≡ true → Some n) → (has (table_colours_to t n m) c ≡ true) ⊎ (eqb n c ≡ true) → Some (suc n)
    one u ih (inl k) = up (ih k)
    one u ih (inr k) = (omega (arith, eqb≡ n c k), λ z. true≢false (sym (≡eqb (bit_and m (get_or t n 0)) 0 (ap (λ (x : ℕ). bit_and m (get_or t x 0)) (eqb≡ n c k) ∙ z)) ∙ u))

    go : (eqb (bit_and m (get_or t n 0)) 0 ≡ true) ⊎ (eqb (bit_and m (get_or t n 0)) 0 ≡ false) → (has (table_colours_to t n m) c ≡ true → Some n) → Some (suc n)
    go (inl u) ih = up (ih (rw u at h))
    go (inr u) ih = one u ih (or_cases (has (table_colours_to t n m) c) (eqb n c) (sym (has-insert (table_colours_to t n m) n c) ∙ (rw u at h)))

some-colours-to : (t : List ℕ) (n m c : ℕ) → c < n → bit_and m (get_or t c 0) ≢ 0 → has (table_colours_to t n m) c ≡ true
unfolding table_colours_to
some-colours-to t zero m c l h = absurd (omega arith)
some-colours-to t (suc n) m c l h = go (ℕ_discrete n c) (test (eqb (bit_and m (get_or t n 0)) 0)) (some-colours-to t n m c)
  where
    go : Dec (n ≡ c) → (eqb (bit_and m (get_or t n 0)) 0 ≡ true) ⊎ (eqb (bit_and m (get_or t n 0)) 0 ≡ false) → (c < n → bit_and m (get_or t c 0) ≢ 0 → has (table_colours_to t n m) c ≡ true) → has (table_colours_to t (suc n) m) c ≡ true
    go (yes q) (inl u) ih = absurd (h (ap (λ (x : ℕ). bit_and m (get_or t x 0)) (sym q) ∙ eqb≡ (bit_and m (get_or t n 0)) 0 u))
    go (yes q) (inr u) ih = rw u (has-insert (table_colours_to t n m) n c ∙ or_right (has (table_colours_to t n m) c) (eqb n c) (≡eqb n c q))
    go (no q) (inl u) ih = rw u (ih (omega arith) h)
    go (no q) (inr u) ih = rw u (has-insert (table_colours_to t n m) n c ∙ or_left (has (table_colours_to t n m) c) (eqb n c) (ih (omega arith) h))

-- ---- one turn of the loop that fills the table
module _ (colours : List ℕ) where
  of-colour : (c e : ℕ) → get_or colours e 0 ≡ c → has_colour colours c e ≡ true
  unfolding has_colour
  of-colour c e q = ≡eqb (get_or colours e 0) c q

  not-colour : (c e : ℕ) → get_or colours e 0 ≢ c → has_colour colours c e ≡ false
  unfolding has_colour
  not-colour c e q = neqb (get_or colours e 0) c q

  is-colour : (c e : ℕ) → has_colour colours c e ≡ true → get_or colours e 0 ≡ c
  unfolding has_colour
  is-colour c e t = eqb≡ (get_or colours e 0) c t

  pub by-none : replicate 9 0 ≡ by_colour_to colours 0
  unfolding by_colour_to mask_of
  by-none = refl

  by-long : (n : ℕ) → length (by_colour_to colours n) ≡ 9
  unfolding by_colour_to
  by-long n = refl

  by-at : (n c : ℕ) → c < 9 → get_or (by_colour_to colours n) c 0 ≡ mask_of (has_colour colours c) n
  unfolding by_colour_to
  by-at n c l = get_or-map-below (λ (c : ℕ). mask_of (has_colour colours c) n) 9 c 0 l

  pub by-more : (n : ℕ) → get_or colours n 0 < 9 → set (by_colour_to colours n) (get_or colours n 0) (insert (get_or (by_colour_to colours n) (get_or colours n 0) 0) n) ≡ by_colour_to colours (n + 1)
  by-more n l = ext_get_or 0 after (by_colour_to colours (n + 1)) (long ∙ sym (by-long (n + 1))) (λ c h. at c (subst (λ (k : ℕ). c < k) long h) (ℕ_discrete c k))
    where
      k : ℕ
      k = get_or colours n 0

      after : List ℕ
      after = set (by_colour_to colours n) k (insert (get_or (by_colour_to colours n) k 0) n)

      long : length after ≡ 9
      long = length-set (by_colour_to colours n) k (insert (get_or (by_colour_to colours n) k 0) n) ∙ by-long n

      at : (c : ℕ) → c < 9 → Dec (c ≡ k) → get_or after c 0 ≡ get_or (by_colour_to colours (n + 1)) c 0
      at c h (yes q) =
          ap (λ (c : ℕ). get_or after c 0) q ∙ get_or-set_same (by_colour_to colours n) k (insert (get_or (by_colour_to colours n) k 0) n) 0 (subst (λ (z : ℕ). k < z) (sym (by-long n)) l)
          ∙ ap (λ (x : ℕ). insert x n) (by-at n k l)
          ∙ sym (mask-of-in (has_colour colours k) n (of-colour k n refl)) ∙ sym (by-at (n + 1) k l) ∙ ap (λ (c : ℕ). get_or (by_colour_to colours (n + 1)) c 0) (sym q)
      at c h (no q) =
          get_or-set_other (by_colour_to colours n) k c (insert (get_or (by_colour_to colours n) k 0) n) 0 q
          ∙ by-at n c h ∙ sym (mask-of-out (has_colour colours c) n (not-colour c n (λ e. q (sym e)))) ∙ sym (by-at (n + 1) c h)

module _ (p : Policy) where
  -- ---- the table, by its edges
  table_at : (c : ℕ) → c < 9 → get_or (by_colour p) c 0 ≡ mask_of (λ e. eqb (entry_of p e) c) (edges p)
  unfolding by_colour
  table_at c l = get_or-map-below (λ (c : ℕ). mask_of (λ e. eqb (entry_of p e) c) (edges p)) 9 c 0 l

  pub table-some : (c e : ℕ) → c < 9 → has (get_or (by_colour p) c 0) e ≡ true → (e < edges p) × (entry_of p e ≡ c)
  table-some c e l h =
      let r = mask-of-some (λ (e : ℕ). eqb (entry_of p e) c) (edges p) e (ap (λ (m : ℕ). has m e) (sym (table_at c l)) ∙ h) in
      (r.0, eqb≡ (entry_of p e) c r.1)

  pub some-table : (c e : ℕ) → c < 9 → e < edges p → entry_of p e ≡ c → has (get_or (by_colour p) c 0) e ≡ true
  some-table c e l h q = ap (λ (m : ℕ). has m e) (table_at c l) ∙ has-mask-of (λ (e : ℕ). eqb (entry_of p e) c) (edges p) e h ∙ ≡eqb (entry_of p e) c q

  table-long : length (by_colour p) ≡ 9
  unfolding by_colour
  table-long = refl

  -- where an edge stands
  quiet-entry : (e : ℕ) → is_quiet p e ≡ true → entry_of p e ≡ 8
  unfolding entry_of
  quiet-entry e q = rw q

  loud-entry : (e : ℕ) → is_quiet p e ≡ false → entry_of p e ≡ colour_of p e
  unfolding entry_of
  loud-entry e f = rw f

  -- below 8 it is a colour of the edge, and a colour of it is there
  entry-colour : (e c : ℕ) → c < 8 → entry_of p e ≡ c → Memᴰ c (edge_colours p e)
  entry-colour e c l q = go (test (is_quiet p e))
    where
      go : (is_quiet p e ≡ true) ⊎ (is_quiet p e ≡ false) → Memᴰ c (edge_colours p e)
      go (inl t) = absurd (omega (arith, quiet-entry e t))
      go (inr f) = is-edge-colour p e c f (sym q ∙ loud-entry e f)

  colour-entry : (e c : ℕ) → Memᴰ c (edge_colours p e) → entry_of p e ≡ c
  colour-entry e c m = loud-entry e (coloured-loud p e c m) ∙ sym (edge-colour-is p e c m)

  -- ---- the edges of a colour set
  pub edges-in-some : (c e : ℕ) → has (edges_in p c) e ≡ true → (e < edges p) × ((d : ℕ) → Memᴰ d (edge_colours p e) → has c d ≡ true)
  unfolding edges_in
  edges-in-some c e h = let r = mask-of-some (λ (e : ℕ). all (has c) (edge_colours p e)) (edges p) e h in (r.0, all-each (has c) (edge_colours p e) r.1)

  pub some-edges-in : (c e : ℕ) → e < edges p → ((d : ℕ) → Memᴰ d (edge_colours p e) → has c d ≡ true) → has (edges_in p c) e ≡ true
  unfolding edges_in
  some-edges-in c e l h = has-mask-of (λ (e : ℕ). all (has c) (edge_colours p e)) (edges p) e l ∙ each_all (has c) (edge_colours p e) h

  pub edges-in-full : (c : ℕ) → inside (edges_in p c) (full p) ≡ true
  unfolding full
  edges-in-full c = all-inside (edges_in p c) (2 ^ edges p - 1) (λ e h. has-full (edges p) e (edges-in-some c e h).0)

  -- all colours give all edges
  pub edges-all : legal p ≡ true → edges_in p 255 ≡ full p
  unfolding full
  edges-all ok = inside-antisym (edges_in p 255) (full p) (edges-in-full 255) (all-inside (full p) (edges_in p 255) (λ e h. some-edges-in 255 e (full-lt (edges p) e h) (λ d m. has-full 8 d (omega (arith, edge-colours-lt p ok e d (full-lt (edges p) e h) m, (legal-counts p ok).colours_few)))))

  pub edges-in-colours : (c : ℕ) → inside (colours_of p (edges_in p c)) c ≡ true
  edges-in-colours c = all-inside (colours_of p (edges_in p c)) c (λ d t. let r = colours_some p (edges_in p c) d t in (edges-in-some c r.0 r.2).1 d r.3)

  module _ (lawful : legal p ≡ true) where
    pub colour-few : (e : ℕ) → e < edges p → colour_of p e < 8
    colour-few e l = omega (arith, legal-colour p lawful e l, (legal-counts p lawful).colours_few)

    -- of the colours of the first n places, all the edges: one place more
    module _ (n e : ℕ) where
      taken-at : e < length (take n p.colour) → get_or (take n p.colour) e 0 ≡ get_or p.colour e 0
      taken-at h = get_or-take n p.colour e 0 (omega (arith, length-take n p.colour))

      pub taken-few : n ≡ edges p → e < length (take n p.colour) → get_or (take n p.colour) e 0 < 8
      unfolding colour_of
      taken-few k h = omega (arith, taken-at h, colour-few e (omega (arith, length-take n p.colour)))

      pub by-more-taken : (t : List ℕ) (x : ℕ) → n ≡ edges p → e < length (take n p.colour) → t ≡ by_colour_to p.colour e → x ≡ insert (get_or t (get_or (take n p.colour) e 0) 0) e
          → set t (get_or (take n p.colour) e 0) x ≡ by_colour_to p.colour (e + 1)
      by-more-taken t x k h u v =
          let l : get_or p.colour e 0 < 9 = omega (arith, taken-few k h, taken-at h) in
          rw (v, u, taken-at h) (by-more p.colour e l)

    -- the table gives the edges of a colour set
    pub table-edges-are : (c : ℕ) → table_edges (by_colour p) c ≡ edges_in p c
    unfolding table_edges
    table-edges-are c = mask-ext (table_edges (by_colour p) c) (edges_in p c) (λ e. bool-ext (has (table_edges (by_colour p) c) e) (has (edges_in p c) e) (there e) (back e))
      where
        among : (e : ℕ) → Among (by_colour p) 8 c e → has (edges_in p c) e ≡ true
        among e (inl h) =
            let s = table-some 8 e (omega arith) h in
            some-edges-in c e s.0 (λ d k. absurd (omega (arith, s.1, colour-entry e d k, edge-colours-lt p lawful e d s.0 k, (legal-counts p lawful).colours_few)))
        among e (inr r) =
            let s = table-some r.0 e (omega (arith, r.1)) r.3 in
            some-edges-in c e s.0 (λ d k. ap (has c) (sym (colour-entry e d k) ∙ s.1) ∙ r.2)

        there : (e : ℕ) → has (table_edges (by_colour p) c) e ≡ true → has (edges_in p c) e ≡ true
        there e h = among e (edges-to-some (by_colour p) 8 c e h)

        stands : (e : ℕ) → e < edges p → ((d : ℕ) → Memᴰ d (edge_colours p e) → has c d ≡ true) → (is_quiet p e ≡ true) ⊎ (is_quiet p e ≡ false) → has (table_edges (by_colour p) c) e ≡ true
        stands e l h (inl q) = quiet-edges-to (by_colour p) 8 c e (some-table 8 e (omega arith) l (quiet-entry e q))
        stands e l h (inr f) =
            let few = colour-few e l in
            some-edges-to (by_colour p) 8 c e (colour_of p e) few (h (colour_of p e) (is-edge-colour p e (colour_of p e) f refl)) (some-table (colour_of p e) e (omega arith) l (loud-entry e f))

        back : (e : ℕ) → has (edges_in p c) e ≡ true → has (table_edges (by_colour p) c) e ≡ true
        back e h = let r = edges-in-some c e h in stands e r.0 r.1 (test (is_quiet p e))

    -- and the colours of an edge set
    pub table-colours-are : (m : ℕ) → table_colours (by_colour p) m ≡ colours_of p m
    unfolding table_colours
    table-colours-are m = mask-ext (table_colours (by_colour p) m) (colours_of p m) (λ c. bool-ext (has (table_colours (by_colour p) m) c) (has (colours_of p m) c) (there c) (back c))
      where
        there : (c : ℕ) → has (table_colours (by_colour p) m) c ≡ true → has (colours_of p m) c ≡ true
        there c h = go (test (has (colours_of p m) c))
          where
            r : (c < 8) × (bit_and m (get_or (by_colour p) c 0) ≢ 0)
            r = colours-to-some (by_colour p) 8 m c h

            none : has (colours_of p m) c ≡ false → bit_and m (get_or (by_colour p) c 0) ≡ 0
            none f =
                none-zero (bit_and m (get_or (by_colour p) c 0))
                (λ e t.
                let u : has m e && has (get_or (by_colour p) c 0) e ≡ true = sym (has-and e m (get_or (by_colour p) c 0)) ∙ t in
                let s = table-some c e (omega (arith, r.0)) (and_r (has m e) (has (get_or (by_colour p) c 0) e) u) in
                true≢false (sym (some-colours p m e c s.0 (and_l (has m e) (has (get_or (by_colour p) c 0) e) u) (entry-colour e c r.0 s.1)) ∙ f))

            go : (has (colours_of p m) c ≡ true) ⊎ (has (colours_of p m) c ≡ false) → has (colours_of p m) c ≡ true
            go (inl t) = t
            go (inr f) = absurd (r.1 (none f))

        back : (c : ℕ) → has (colours_of p m) c ≡ true → has (table_colours (by_colour p) m) c ≡ true
        back c h =
            let r = colours_some p m c h in
            let few : c < 8 = omega (arith, edge-colours-lt p lawful r.0 c r.1 r.3, (legal-counts p lawful).colours_few) in
            some-colours-to (by_colour p) 8 m c few
            (λ z.
            false≢true
            (sym (ap (λ (x : ℕ). has x r.0) z ∙ has-none r.0)
            ∙ has-and r.0 m (get_or (by_colour p) c 0) ∙ both (has m r.0) (has (get_or (by_colour p) c 0) r.0) r.2 (some-table c r.0 (omega arith) r.1 (colour-entry r.0 c r.3))))

    -- ---- the table is made of the recorded colours: the quiet edges are taken from entry 0, and stand in entry 8
    pub quiet-table : get_or (by_colour p) 8 0 ≡ p.quiet
    unfolding is_quiet
    quiet-table = mask-ext (get_or (by_colour p) 8 0) p.quiet (λ e. bool-ext (has (get_or (by_colour p) 8 0) e) (has p.quiet e) (there e) (back e))
      where
        there : (e : ℕ) → has (get_or (by_colour p) 8 0) e ≡ true → has p.quiet e ≡ true
        there e h = go (test (is_quiet p e)) (table-some 8 e (omega arith) h)
          where
            go : (is_quiet p e ≡ true) ⊎ (is_quiet p e ≡ false) → (e < edges p) × (entry_of p e ≡ 8) → has p.quiet e ≡ true
            go (inl t) s = t
            go (inr f) s = absurd (omega (arith, loud-entry e f, s.1, colour-few e s.0))

        back : (e : ℕ) → has p.quiet e ≡ true → has (get_or (by_colour p) 8 0) e ≡ true
        back e h = some-table 8 e (omega arith) (quiet_lt p lawful e h) (quiet-entry e h)

    -- an edge stands in the entry of its recorded colour; a quiet one does not
    recorded : (c e : ℕ) → c < 8 → e < edges p → (eqb (entry_of p e) c ≡ has_colour p.colour c e && not (is_quiet p e))
    unfolding has_colour colour_of
    recorded c e l h = go (test (is_quiet p e))
      where
        go : (is_quiet p e ≡ true) ⊎ (is_quiet p e ≡ false) → eqb (entry_of p e) c ≡ has_colour p.colour c e && not (is_quiet p e)
        go (inl t) = neqb (entry_of p e) c (λ q. absurd (omega (arith, quiet-entry e t))) ∙ sym (and-absent (has_colour p.colour c e) (not (is_quiet p e)) (ap not t))
        go (inr f) = ap (λ (k : ℕ). eqb k c) (loud-entry e f) ∙ sym (ap (λ (b : Bool). has_colour p.colour c e && not b) f ∙ and-true (has_colour p.colour c e))

    recorded-bit : (c e : ℕ) → c < 8 → has (get_or (by_colour p) c 0) e ≡ has (get_or (by_colour_to p.colour (edges p)) c 0) e && not (is_quiet p e)
    recorded-bit c e l = go (dec_lt e (edges p))
      where
        t : ℕ → Bool
        t = has_colour p.colour c

        old : has (get_or (by_colour_to p.colour (edges p)) c 0) e ≡ has (mask_of t (edges p)) e
        old = ap (λ (m : ℕ). has m e) (by-at p.colour (edges p) c (omega arith))

        go : Dec (e < edges p) → has (get_or (by_colour p) c 0) e ≡ has (get_or (by_colour_to p.colour (edges p)) c 0) e && not (is_quiet p e)
        go (yes h) =
            ap (λ (m : ℕ). has m e) (table_at c (omega arith)) ∙ has-mask-of (λ (e : ℕ). eqb (entry_of p e) c) (edges p) e h ∙ recorded c e l h
            ∙ sym (ap (λ (b : Bool). b && not (is_quiet p e)) (old ∙ has-mask-of t (edges p) e h))
        go (no h) =
            bool-ext (has (get_or (by_colour p) c 0) e) (has (get_or (by_colour_to p.colour (edges p)) c 0) e && not (is_quiet p e))
            (λ u. absurd (h (table-some c e (omega arith) u).0))
            (λ u. absurd (h (mask-of-some t (edges p) e (sym old ∙ and_l (has (get_or (by_colour_to p.colour (edges p)) c 0) e) (not (is_quiet p e)) u)).0))

    -- no quiet edge stands in an entry above 0
    recorded-loud : (c e : ℕ) → c < 8 → c ≢ 0 → has (get_or (by_colour_to p.colour (edges p)) c 0) e ≡ true → not (is_quiet p e) ≡ true
    unfolding colour_of
    recorded-loud c e l n h = go (test (is_quiet p e))
      where
        r : (e < edges p) × (has_colour p.colour c e ≡ true)
        r = mask-of-some (has_colour p.colour c) (edges p) e (ap (λ (m : ℕ). has m e) (sym (by-at p.colour (edges p) c (omega arith))) ∙ h)

        go : (is_quiet p e ≡ true) ⊎ (is_quiet p e ≡ false) → not (is_quiet p e) ≡ true
        go (inl t) = absurd (n (sym (is-colour p.colour c e r.1) ∙ quiet-zero p lawful e t))
        go (inr f) = ap not f

    pub table-made : (t colours : List ℕ) (n : ℕ) → colours ≡ p.colour → n ≡ edges p → t ≡ by_colour_to colours n → set (set t 0 (minus (get_or t 0 0) p.quiet)) 8 p.quiet ≡ by_colour p
    unfolding is_quiet
    table-made t colours n eq-colours eq-n eq-t = ext_get_or 0 after (by_colour p) (long ∙ sym table-long) (λ c h. at c (subst (λ (k : ℕ). c < k) long h) (ℕ_discrete c 8) (ℕ_discrete c 0))
      where
        old : List ℕ
        old = by_colour_to p.colour (edges p)

        is : t ≡ old
        is = eq-t ∙ ap₂ by_colour_to eq-colours eq-n

        taken : List ℕ
        taken = set t 0 (minus (get_or t 0 0) p.quiet)

        after : List ℕ
        after = set taken 8 p.quiet

        t-long : length t ≡ 9
        t-long = ap length is ∙ by-long p.colour (edges p)

        taken-long : length taken ≡ 9
        taken-long = length-set t 0 (minus (get_or t 0 0) p.quiet) ∙ t-long

        long : length after ≡ 9
        long = length-set taken 8 p.quiet ∙ taken-long

        at_zero : minus (get_or old 0 0) p.quiet ≡ get_or (by_colour p) 0 0
        at_zero = mask-ext (minus (get_or old 0 0) p.quiet) (get_or (by_colour p) 0 0) (λ e. has-minus (get_or old 0 0) p.quiet e ∙ sym (recorded-bit 0 e (omega arith)))

        at_other : (c : ℕ) → c < 8 → c ≢ 0 → get_or old c 0 ≡ get_or (by_colour p) c 0
        at_other c l n =
            mask-ext (get_or old c 0) (get_or (by_colour p) c 0)
            (λ e. sym (recorded-bit c e l ∙ and-absorb (has (get_or old c 0) e) (not (is_quiet p e)) (recorded-loud c e l n)))

        at : (c : ℕ) → c < 9 → Dec (c ≡ 8) → Dec (c ≡ 0) → get_or after c 0 ≡ get_or (by_colour p) c 0
        at c h (yes q) z = ap (λ (c : ℕ). get_or after c 0) q ∙ get_or-set_same taken 8 p.quiet 0 (omega (arith, taken-long)) ∙ sym quiet-table ∙ ap (λ (c : ℕ). get_or (by_colour p) c 0) (sym q)
        at c h (no q) (yes z) =
            get_or-set_other taken 8 c p.quiet 0 q ∙ ap (λ (c : ℕ). get_or taken c 0) z ∙ get_or-set_same t 0 (minus (get_or t 0 0) p.quiet) 0 (omega (arith, t-long))
            ∙ ap (λ (l : List ℕ). minus (get_or l 0 0) p.quiet) is ∙ at_zero ∙ ap (λ (c : ℕ). get_or (by_colour p) c 0) (sym z)
        at c h (no q) (no z) =
            get_or-set_other taken 8 c p.quiet 0 q ∙ get_or-set_other t 0 c (minus (get_or t 0 0) p.quiet) 0 z ∙ ap (λ (l : List ℕ). get_or l c 0) is ∙ at_other c (omega arith) z

    -- and the verdict, by the family
    pub table-accepts : (t : List ℕ) (f : List Bool) (m c : ℕ) → t ≡ by_colour p → f ≡ p.family → c ≡ table_colours t m → get_or f c false ≡ accepting p m
    unfolding accepting in_family
    table-accepts t f m c h g q = ap₂ (λ (f : List Bool) (c : ℕ). get_or f c false) g (q ∙ ap (λ (t : List ℕ). table_colours t m) h ∙ table-colours-are m)
