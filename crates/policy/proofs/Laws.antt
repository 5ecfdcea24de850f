-- What the layers above know of a policy: the ranges of a legal one, the edge of a state and a letter, the colours and the verdict of an edge set.
-- Assumes nothing.
use Prim.Native.Nat.{ℕ, ◌*◌, ◌^◌, ◌≤◌, ◌<◌}
use native.Mathlib.Omega.{arith}
use native.Mathlib.Nat.{mul-le-mul_right, suc-mul, div-lt_iff_lt-mul}
use mathlib.Core.Path.{◌≡◌, refl, sym, ap, ◌∙◌, subst}
use mathlib.Core.Logic.{◌⊎◌, inl, inr}
use mathlib.Core.Bool.{Bool, true, false, not, ◌&&◌, ◌||◌, false≢true}
use mathlib.Core.List.Memᴰ
use mathlib.Core.List.{Memᴰ, [], ◌∷◌, map}
use lib.Dec.{eqb, ltb, leb}
use lib.Arith.{digits_div}
use Rattle.lists.specs.Lists.{all, flat, below}
use Rattle.lists.proofs.Bools.{test, and_l, and_r, both, eqb≡, lt-true, lt-false, le-true}
use Rattle.lists.proofs.Lists.{all-each, mem_below, flat-mem, mem-flat}
use Rattle.masks.specs.Masks.{has, inside, members}
use Rattle.masks.proofs.Bits.{has-none, lt-of-bits, inside-all, all-inside}
use Rattle.masks.proofs.Members.{full-lt, members-has, members-lt, has-members}
use Rattle.masks.proofs.SetOf.{set-has}
use Rattle.policy.specs.declared.Policy.{Policy}
use Rattle.policy.specs.Policies.{edges, edge_of, source, target_of, colour_of, is_quiet, edge_colours, full, colours_of, in_family, accepting, counts_fit, legal_counts, legal_edge, legal_edges, uncoloured, legal_quiet, legal_family, legal_graph, legal}

-- the counts of a legal policy
pub record Counts (p : Policy) : Type 0 where
  pub states_some : 1 ≤ p.states
  pub states_few : p.states ≤ 16
  pub letters_some : 1 ≤ p.letters
  pub letters_few : p.letters ≤ 8
  pub colours_some : 1 ≤ p.colours
  pub colours_few : p.colours ≤ 8
  pub edges_few : p.states * p.letters ≤ 64
  pub initial_lt : p.initial < p.states

module _ (p : Policy) where
  pub counts : legal_counts p ≡ true → Counts p
  unfolding legal_counts counts_fit
  counts h =
      let s = p.states in
      let l = p.letters in
      let k = p.colours in
      let t1 = leb 1 s in
      let t2 = t1 && leb s 16 in
      let t3 = t2 && leb 1 l in
      let t4 = t3 && leb l 8 in
      let t5 = t4 && leb 1 k in
      let t6 = t5 && leb k 8 in
      let t7 = t6 && leb (s * l) 64 in
      let h7 = and_l t7 (ltb p.initial s) h in
      let h6 = and_l t6 (leb (s * l) 64) h7 in
      let h5 = and_l t5 (leb k 8) h6 in
      let h4 = and_l t4 (leb 1 k) h5 in
      let h3 = and_l t3 (leb l 8) h4 in
      let h2 = and_l t2 (leb 1 l) h3 in
      record {
        states_some = le-true 1 s (and_l t1 (leb s 16) h2);
        states_few = le-true s 16 (and_r t1 (leb s 16) h2);
        letters_some = le-true 1 l (and_r t2 (leb 1 l) h3);
        letters_few = le-true l 8 (and_r t3 (leb l 8) h4);
        colours_some = le-true 1 k (and_r t4 (leb 1 k) h5);
        colours_few = le-true k 8 (and_r t5 (leb k 8) h6);
        edges_few = le-true (s * l) 64 (and_r t6 (leb (s * l) 64) h7);
        initial_lt = lt-true p.initial s (and_r t7 (ltb p.initial s) h);
      }

  -- ---- the parts of a legal policy
  pub legal-graph : legal p ≡ true → legal_graph p ≡ true
  unfolding legal
  legal-graph h = and_l (legal_graph p) (legal_family p) h

  pub graph-parts : legal_graph p ≡ true → (legal_counts p ≡ true) × (legal_edges p ≡ true) × (legal_quiet p ≡ true)
  unfolding legal_graph
  graph-parts h =
      let g = and_l (legal_counts p && legal_edges p) (legal_quiet p) h in
      (and_l (legal_counts p) (legal_edges p) g, and_r (legal_counts p) (legal_edges p) g, and_r (legal_counts p && legal_edges p) (legal_quiet p) h)

  pub parts-legal : legal_counts p ≡ true → legal_edges p ≡ true → legal_quiet p ≡ true → legal_family p ≡ true → legal p ≡ true
  unfolding legal legal_graph
  parts-legal c e q f = both (legal_counts p && legal_edges p && legal_quiet p) (legal_family p) (both (legal_counts p && legal_edges p) (legal_quiet p) (both (legal_counts p) (legal_edges p) c e) q) f

  pub graph-counts : legal_graph p ≡ true → Counts p
  graph-counts h = counts (graph-parts h).0

  pub legal-counts : legal p ≡ true → Counts p
  legal-counts h = graph-counts (legal-graph h)

  pub edges_le : legal p ≡ true → edges p ≤ 64
  unfolding edges
  edges_le h = (legal-counts h).edges_few

  -- ---- the targets and the colours
  within-edge : legal_graph p ≡ true → (e : ℕ) → e < edges p → ltb (target_of p e) p.states && ltb (colour_of p e) p.colours ≡ true
  unfolding edges legal_edges legal_edge
  within-edge h e l = go (test (ltb e (edges p))) (all-each (legal_edge p) (below 64) (graph-parts h).1 e (mem_below 64 e (omega (arith, (graph-counts h).edges_few))))
    where
      go : (ltb e (edges p) ≡ true) ⊎ (ltb e (edges p) ≡ false) → legal_edge p e ≡ true → ltb (target_of p e) p.states && ltb (colour_of p e) p.colours ≡ true
      go (inl t) q = rw t at q
      go (inr f) q = absurd (omega (arith, lt-false e (edges p) f))

  pub graph-target : legal_graph p ≡ true → (e : ℕ) → e < edges p → target_of p e < p.states
  graph-target h e l = lt-true (target_of p e) p.states (and_l (ltb (target_of p e) p.states) _ (within-edge h e l))

  pub graph-colour : legal_graph p ≡ true → (e : ℕ) → e < edges p → colour_of p e < p.colours
  graph-colour h e l = lt-true (colour_of p e) p.colours (and_r (ltb (target_of p e) p.states) _ (within-edge h e l))

  pub legal-target : legal p ≡ true → (e : ℕ) → e < edges p → target_of p e < p.states
  legal-target h = graph-target (legal-graph h)

  pub legal-colour : legal p ≡ true → (e : ℕ) → e < edges p → colour_of p e < p.colours
  legal-colour h = graph-colour (legal-graph h)

  -- ---- the edge of a state and a letter
  pub source-edge : legal p ≡ true → (v a : ℕ) → a < p.letters → source p (edge_of p v a) ≡ v
  unfolding source edge_of
  source-edge h v a l = digits_div v l

  pub edge-lt : (v a : ℕ) → v < p.states → a < p.letters → edge_of p v a < edges p
  unfolding edges edge_of
  edge-lt v a h l = omega (arith, mul-le-mul_right p.letters h, suc-mul v p.letters)

  pub source-lt : legal p ≡ true → (e : ℕ) → e < edges p → source p e < p.states
  unfolding source edges
  source-lt h e l = (div-lt_iff_lt-mul (legal-counts h).letters_some).1 l

  -- ---- quiet edges
  pub graph-quiet-lt : legal_graph p ≡ true → (e : ℕ) → is_quiet p e ≡ true → e < edges p
  unfolding legal_quiet full is_quiet
  graph-quiet-lt h e q = full-lt (edges p) e (inside-all p.quiet (full p) (and_l (inside p.quiet (full p)) (all (uncoloured p) (below 64)) (graph-parts h).2) e q)

  pub quiet_lt : legal p ≡ true → (e : ℕ) → is_quiet p e ≡ true → e < edges p
  quiet_lt h = graph-quiet-lt (legal-graph h)

  -- the recorded colour is 0
  pub quiet-zero : legal p ≡ true → (e : ℕ) → is_quiet p e ≡ true → colour_of p e ≡ 0
  unfolding legal_quiet uncoloured
  quiet-zero h e q =
      let each = and_r (inside p.quiet (full p)) (all (uncoloured p) (below 64)) (graph-parts (legal-graph h)).2 in
      let few : e < 64 = omega (arith, quiet_lt h e q, edges_le h) in
      eqb≡ (colour_of p e) 0 (go (is_quiet p e) q (all-each (uncoloured p) (below 64) each e (mem_below 64 e few)))
    where
      go : (b : Bool) → b ≡ true → not b || eqb (colour_of p e) 0 ≡ true → eqb (colour_of p e) 0 ≡ true
      go true q t = t
      go false q t = absurd (false≢true q)

  -- where there is none
  pub plain-loud : p.quiet ≡ 0 → (e : ℕ) → is_quiet p e ≡ false
  unfolding is_quiet
  plain-loud z e = ap (λ (m : ℕ). has m e) z ∙ has-none e

  -- ---- the colours of an edge: its own; none if it is quiet
  pub quiet-colours : (e : ℕ) → is_quiet p e ≡ true → edge_colours p e ≡ []
  unfolding edge_colours
  quiet-colours e q = rw q

  pub loud-colours : (e : ℕ) → is_quiet p e ≡ false → edge_colours p e ≡ colour_of p e ∷ []
  unfolding edge_colours
  loud-colours e f = rw f

  pub coloured-loud : (e c : ℕ) → Memᴰ c (edge_colours p e) → is_quiet p e ≡ false
  coloured-loud e c m = go (test (is_quiet p e))
    where
      go : (is_quiet p e ≡ true) ⊎ (is_quiet p e ≡ false) → is_quiet p e ≡ false
      go (inl q) = absurd (Memᴰ.not-nil (subst (Memᴰ c) (quiet-colours e q) m))
      go (inr f) = f

  pub edge-colour-is : (e c : ℕ) → Memᴰ c (edge_colours p e) → c ≡ colour_of p e
  edge-colour-is e c m = Memᴰ.eq_of_singleton (subst (Memᴰ c) (loud-colours e (coloured-loud e c m)) m)

  pub is-edge-colour : (e c : ℕ) → is_quiet p e ≡ false → c ≡ colour_of p e → Memᴰ c (edge_colours p e)
  is-edge-colour e c f q = subst (Memᴰ c) (sym (loud-colours e f)) (Memᴰ.head q)

  -- an edge that is not quiet has a colour
  pub edge-coloured : (e : ℕ) → is_quiet p e ≡ false → (c : ℕ) × Memᴰ c (edge_colours p e)
  edge-coloured e f = (colour_of p e, is-edge-colour e (colour_of p e) f refl)

  pub edge-colours-lt : legal p ≡ true → (e c : ℕ) → e < edges p → Memᴰ c (edge_colours p e) → c < p.colours
  edge-colours-lt h e c l m = subst (λ (x : ℕ). x < p.colours) (sym (edge-colour-is e c m)) (legal-colour h e l)

  -- ---- the colours of an edge set: c is one exactly if some edge of m has it
  pub colours_some : (m c : ℕ) → has (colours_of p m) c ≡ true → (e : ℕ) × (e < edges p) × (has m e ≡ true) × Memᴰ c (edge_colours p e)
  unfolding colours_of
  colours_some m c t =
      let r = flat-mem (edge_colours p) (members (edges p) m) c ((set-has (flat (map (edge_colours p) (members (edges p) m))) c).0 t) in
      (r.0, members-lt (edges p) m r.0 r.1, members-has (edges p) m r.0 r.1, r.2)

  pub some-colours : (m e c : ℕ) → e < edges p → has m e ≡ true → Memᴰ c (edge_colours p e) → has (colours_of p m) c ≡ true
  unfolding colours_of
  some-colours m e c l t k = (set-has (flat (map (edge_colours p) (members (edges p) m))) c).1 (mem-flat (edge_colours p) (members (edges p) m) e c (has-members (edges p) m e l t) k)

  pub colours-up : (a b : ℕ) → inside a b ≡ true → inside (colours_of p a) (colours_of p b) ≡ true
  colours-up a b i = all-inside (colours_of p a) (colours_of p b) (λ c t. let r = colours_some a c t in some-colours b r.0 c r.1 (inside-all a b i r.0 r.2) r.3)

  pub colours-lt : legal p ≡ true → (m : ℕ) → colours_of p m < 2 ^ p.colours
  colours-lt h m = lt-of-bits p.colours (colours_of p m) (λ c t. let r = colours_some m c t in edge-colours-lt h r.0 c r.1 r.3)

  -- ---- the verdict of an edge set: by its colours alone
  pub accepting-is : (m : ℕ) → accepting p m ≡ in_family p (colours_of p m)
  unfolding accepting
  accepting-is m = refl

  pub accepting-colours : (a b : ℕ) → colours_of p a ≡ colours_of p b → accepting p a ≡ accepting p b
  accepting-colours a b e = accepting-is a ∙ ap (in_family p) e ∙ sym (accepting-is b)
