-- Which pairs of colour sets are searched for a cycle, and by which tables: a pair is searched only if the verdicts differ and its edges have all of its colours, in p
-- already those in the colours c alone; any other pair agrees. Assumes nothing.
use Prim.Native.Nat.{ℕ, ◌^◌, ◌<◌}
use native.Mathlib.Omega.{arith}
use mathlib.Core.Path.{◌≡◌, refl, sym, ap, ap₂, ◌∙◌, subst}
use mathlib.Core.Logic.{◌⊎◌, inl, inr, ◌≢◌}
use mathlib.Core.Bool.{Bool, true, false, not, ◌&&◌, ◌||◌, true≢false, beq}
use mathlib.Core.List.{List}
use lib.Bits.{bit_and}
use lib.Dec.{eqb}
use lib.ListN.{get_or}
use Rattle.lists.specs.Lists.{below}
use Rattle.lists.proofs.Bools.{test, and_l, and-absent}
use Rattle.lists.proofs.Lists.{each_all}
use Rattle.lists.proofs.AnyAll.{all-not}
use Rattle.lists.specs.Bools.{differs}
use Rattle.masks.specs.Masks.{inside}
use Rattle.masks.proofs.Bits.{inside-antisym, inside-le}
use Rattle.policy.specs.declared.Policy.{Policy}
use Rattle.policy.specs.Policies.{colours_of, in_family, legal}
use Rattle.policy.specs.ByColour.{edges_in, table_edges, table_colours}
use Rattle.policy.proofs.Laws.{colours-up, colours-lt}
use Rattle.policy.proofs.ByColour.{table-edges-are, table-colours-are, edges-in-colours}
use Rattle.comparing.specs.Pairs.{ColourTables, pair_edges, exactly, no_cycle, needs_search, pair_agrees, set_agrees, exactly_by, needs_search_by}
use Rattle.comparing.proofs.Pairs.{pair-inside-p, exactly-p, exactly-q, none-missing}

module _ (p q : Policy) where
  -- ---- where the edges of a pair have all of its colours
  whole-p : (c d : ℕ) → exactly p q c d (pair_edges p q c d) ≡ true → colours_of p (edges_in p c) ≡ c
  whole-p c d t =
      inside-antisym (colours_of p (edges_in p c)) c (edges-in-colours p c)
      (subst (λ (s : ℕ). inside s (colours_of p (edges_in p c)) ≡ true) (exactly-p p q c d (pair_edges p q c d) t) (colours-up p (pair_edges p q c d) (edges_in p c) (pair-inside-p p q c d)))

  whole-q : (c d : ℕ) → exactly p q c d (pair_edges p q c d) ≡ true → inside d (colours_of q (edges_in p c)) ≡ true
  whole-q c d t =
      subst (λ (s : ℕ). inside s (colours_of q (edges_in p c)) ≡ true) (exactly-q p q c d (pair_edges p q c d) t) (colours-up q (pair_edges p q c d) (edges_in p c) (pair-inside-p p q c d))

  -- ---- the pairs that are searched
  -- a pair that is not searched agrees
  pub unsearched-agrees : (c d : ℕ) → needs_search p q c d ≡ false → pair_agrees p q c d ≡ true
  unfolding needs_search pair_agrees
  unsearched-agrees c d f = go (test (exactly p q c d (pair_edges p q c d))) (differs (in_family p c) (in_family q d)) f
    where
      go : (exactly p q c d (pair_edges p q c d) ≡ true) ⊎ (exactly p q c d (pair_edges p q c d) ≡ false) → (b : Bool) → b && exactly p q c d (pair_edges p q c d) ≡ false → not b || no_cycle p q c d ≡ true
      go (inl t) true g = absurd (true≢false (sym t ∙ g))
      go (inr z) true g = none-missing p q c d z
      go r false g = refl

  -- one that is searched agrees if no cycle has its colours
  pub searched-agrees : (c d : ℕ) → needs_search p q c d ≡ true → pair_agrees p q c d ≡ no_cycle p q c d
  unfolding needs_search pair_agrees
  searched-agrees c d t =
      ap (λ (b : Bool). not b || no_cycle p q c d) (and_l (differs (in_family p c) (in_family q d)) (exactly p q c d (pair_edges p q c d)) t)

  -- where the edges in the colours c have not all of them, every pair with c agrees
  pub missing-agrees : (c : ℕ) → colours_of p (edges_in p c) ≢ c → set_agrees p q c ≡ true
  unfolding set_agrees needs_search
  missing-agrees c h = each_all (pair_agrees p q c) (below (2 ^ q.colours)) (λ d j. unsearched-agrees c d (and-absent (differs (in_family p c) (in_family q d)) (exactly p q c d (pair_edges p q c d)) (none d (test (exactly p q c d (pair_edges p q c d))))))
    where
      none : (d : ℕ) → (exactly p q c d (pair_edges p q c d) ≡ true) ⊎ (exactly p q c d (pair_edges p q c d) ≡ false) → exactly p q c d (pair_edges p q c d) ≡ false
      none d (inl t) = absurd (h (whole-p c d t))
      none d (inr f) = f

  -- ---- the colours in use: those that the edges in the colours c have in q
  -- a set with another colour agrees
  outside-agrees : (c d : ℕ) → inside d (colours_of q (edges_in p c)) ≡ false → pair_agrees p q c d ≡ true
  unfolding needs_search
  outside-agrees c d f = unsearched-agrees c d (and-absent (differs (in_family p c) (in_family q d)) (exactly p q c d (pair_edges p q c d)) (none (test (exactly p q c d (pair_edges p q c d)))))
    where
      none : (exactly p q c d (pair_edges p q c d) ≡ true) ⊎ (exactly p q c d (pair_edges p q c d) ≡ false) → exactly p q c d (pair_edges p q c d) ≡ false
      none (inl t) = absurd (true≢false (sym (whole-q c d t) ∙ f))
      none (inr z) = z

  -- so it is enough that each set of them does
  pub used-agrees : (c used : ℕ) → used ≡ colours_of q (edges_in p c) → ((d : ℕ) → inside d used ≡ true → pair_agrees p q c d ≡ true) → set_agrees p q c ≡ true
  unfolding set_agrees
  used-agrees c used e h = each_all (pair_agrees p q c) (below (2 ^ q.colours)) (λ d _. go d (test (inside d used)))
    where
      go : (d : ℕ) → (inside d used ≡ true) ⊎ (inside d used ≡ false) → pair_agrees p q c d ≡ true
      go d (inl t) = h d t
      go d (inr f) = outside-agrees c d (ap (inside d) (sym e) ∙ f)

  -- and c does not agree if one of them does not
  pub used-not : legal q ≡ true → (c used d : ℕ) → used ≡ colours_of q (edges_in p c) → inside d used ≡ true → pair_agrees p q c d ≡ false → set_agrees p q c ≡ false
  unfolding set_agrees
  used-not ok c used d e i f = all-not (pair_agrees p q c) (2 ^ q.colours) d (omega (arith, inside-le d used i, subst (λ (k : ℕ). k < 2 ^ q.colours) (sym e) (colours-lt q ok (edges_in p c)))) f

  -- ---- by the tables
  module _ (t u : List ℕ) (k : ColourTables p q t u) where
    pub edges-p : (c : ℕ) → table_edges t c ≡ edges_in p c
    edges-p c = ap (λ (t : List ℕ). table_edges t c) k.of_p ∙ table-edges-are p k.comparable.legal_p c

    pub edges-q : (d : ℕ) → table_edges u d ≡ edges_in q d
    edges-q d = ap (λ (u : List ℕ). table_edges u d) k.of_q ∙ table-edges-are q k.comparable.legal_q d

    pub colours-p : (m : ℕ) → table_colours t m ≡ colours_of p m
    colours-p m = ap (λ (t : List ℕ). table_colours t m) k.of_p ∙ table-colours-are p k.comparable.legal_p m

    pub colours-q : (m : ℕ) → table_colours u m ≡ colours_of q m
    colours-q m = ap (λ (u : List ℕ). table_colours u m) k.of_q ∙ table-colours-are q k.comparable.legal_q m

    -- the edges of a pair
    pub pair-edges-by : (c d : ℕ) → bit_and (table_edges t c) (table_edges u d) ≡ pair_edges p q c d
    unfolding pair_edges
    pair-edges-by c d = ap₂ bit_and (edges-p c) (edges-q d)

    pub exactly-by : (c d m : ℕ) → exactly_by t u c d m ≡ exactly p q c d m
    unfolding exactly_by exactly
    exactly-by c d m = ap₂ (λ (a b : ℕ). eqb a c && eqb b d) (colours-p m) (colours-q m)

    pub search-by : (c d : ℕ) (b : Bool) (m : ℕ) → b ≡ in_family p c → m ≡ table_edges t c → needs_search_by t u q.family b m c d ≡ needs_search p q c d
    unfolding needs_search_by needs_search in_family
    search-by c d b m verdict is =
        ap₂ ◌&&◌ (ap (λ (x : Bool). differs x (get_or q.family d false)) verdict) (exactly-by c d (bit_and m (table_edges u d)) ∙ ap (exactly p q c d) (ap (λ (x : ℕ). bit_and x (table_edges u d)) is ∙ pair-edges-by c d))

-- ---- the tests in the code
same_is : (a b : Bool) → differs b a ≡ not (beq a b)
same_is true true = refl
same_is true false = refl
same_is false true = refl
same_is false false = refl

module _ (t u : List ℕ) (f : List Bool) (b : Bool) (m c d : ℕ) where
  -- one verdict in both
  pub by_one : beq (get_or f d false) b ≡ true → needs_search_by t u f b m c d ≡ false
  unfolding needs_search_by
  by_one h = rw (same_is (get_or f d false) b, h) refl

  -- two verdicts
  pub by_two : beq (get_or f d false) b ≡ false → needs_search_by t u f b m c d ≡ exactly_by t u c d (bit_and m (table_edges u d))
  unfolding needs_search_by
  by_two h = rw (same_is (get_or f d false) b, h) refl
