-- One turn of the loops that test every number below n. Assumes nothing.
use Prim.Native.Nat.{ℕ, ◌+◌, ◌-◌, ◌^◌, ◌≤◌, ◌<◌}
use native.Mathlib.Omega.{arith}
use mathlib.Core.Path.{◌≡◌, refl, sym, ap, ap₂, ◌∙◌}
use mathlib.Core.Logic.{◌⊎◌, inl, inr}
use mathlib.Core.Bool.{Bool, true, false, not, ◌&&◌, ◌||◌, true≢false, or-true, or-false, and_comm}
use lib.Dec.{eqb, ltb}
use lib.ListN.{length, get_or, take, drop, length-take, length-drop}
use lib.Seq.{get_or-take, get_or-drop}
use borrow.Author.Tests.{lt-ltb, le-ltb}
use Rattle.lists.specs.Lists.{all, below}
use Rattle.lists.proofs.Bools.{both}
use Rattle.lists.proofs.Lists.{each_all, below-lt}
use Rattle.lists.proofs.AnyAll.{all-turn}
use Rattle.lists.proofs.Numbers.{below_one}
use Rattle.policy.specs.declared.Policy.{Policy}
use Rattle.masks.specs.Masks.{has, inside}
use Rattle.masks.proofs.Bits.{has-none, all-inside}
use Rattle.policy.specs.Policies.{edges, full, target_of, colour_of, is_quiet, in_family, legal_counts, legal_edge, legal_edges, uncoloured, legal_quiet, legal_set, legal_family, legal_graph, legal}
use Rattle.policy.proofs.Laws.{plain-loud}

module _ (p : Policy) where
  -- ---- the parts of the test for a legal policy
  -- entry e of a list by bound k: the number of states, or of colours, at an edge, and 1 past the last one
  abbrev pub Bound : ℕ → ℕ → ℕ → ℕ → Type 0
  Bound e n count k = ((e < n) × (k ≡ count)) ⊎ ((n ≤ e) × (k ≡ 1))

  pub legal-edge-by : (e n h k : ℕ) → n ≡ edges p → Bound e n p.states h → Bound e n p.colours k → ltb (target_of p e) h && ltb (colour_of p e) k ≡ legal_edge p e
  unfolding legal_edge
  legal-edge-by e n h k q (inl a) (inl b) = rw (lt-ltb e (edges p) (omega (arith, a.0)), a.1, b.1)
  legal-edge-by e n h k q (inl a) (inr b) = absurd (omega (arith, a.0, b.0))
  legal-edge-by e n h k q (inr a) (inl b) = absurd (omega (arith, a.0, b.0))
  legal-edge-by e n h k q (inr a) (inr b) = rw (le-ltb e (edges p) (omega (arith, a.0)), a.1, b.1) (ap₂ ◌&&◌ (below_one (target_of p e)) (below_one (colour_of p e)))

  -- where no edge is quiet
  pub legal-quiet-none : p.quiet ≡ 0 → true ≡ legal_quiet p
  unfolding legal_quiet uncoloured
  legal-quiet-none z =
      sym (both (inside p.quiet (full p)) (all (uncoloured p) (below 64))
      (all-inside p.quiet (full p) (λ e t. absurd (true≢false (sym t ∙ ap (λ (m : ℕ). has m e) z ∙ has-none e))))
      (each_all (uncoloured p) (below 64) (λ e m. ap (λ (b : Bool). not b || eqb (colour_of p e) 0) (plain-loud p z e))))

  -- the edges below e, and the test of those within
  pub quiet-turn : (a : Bool) (e : ℕ) (b c d : Bool) → b ≡ a && all (uncoloured p) (below e) → c ≡ is_quiet p e → d ≡ eqb (colour_of p e) 0
      → b && (not c || d) ≡ a && all (uncoloured p) (below (e + 1))
  unfolding uncoloured
  quiet-turn a e b c d q r s =
      ap₂ (λ (x y : Bool). x && y) q (ap₂ (λ (x y : Bool). not x || y) r s)
      ∙ assoc a (all (uncoloured p) (below e)) (uncoloured p e)
      ∙ ap (λ (x : Bool). a && x) (all-turn (uncoloured p) e (all (uncoloured p) (below e)) (uncoloured p e) refl refl)
    where
      assoc : (x y z : Bool) → x && y && z ≡ x && (y && z)
      assoc true y z = refl
      assoc false y z = refl

  -- a set of the colours, and one that is not
  legal-set-within : (s : ℕ) → s < 2 ^ p.colours → legal_set p s ≡ true
  unfolding legal_set
  legal-set-within s l = rw (lt-ltb s (2 ^ p.colours) l) (or-true (not (in_family p s)))

  pub legal-set-outside : (s : ℕ) → 2 ^ p.colours ≤ s → legal_set p s ≡ not (in_family p s)
  unfolding legal_set
  legal-set-outside s l = rw (le-ltb s (2 ^ p.colours) l) (or-false (not (in_family p s)))

  -- one more of a part of the family that starts past the sets of the colours
  pub family-turn : (a k i : ℕ) (b : Bool) → 2 ^ p.colours ≤ a → i < length (take k (drop a p.family)) → b ≡ all (legal_set p) (below (a + i)) → b && not (get_or (take k (drop a p.family)) i false) ≡ all (legal_set p) (below (a + (i + 1)))
  unfolding in_family
  family-turn a k i b h l e =
      let few : i < k = omega (arith, length-take k (drop a p.family)) in
      let at : get_or (take k (drop a p.family)) i false ≡ get_or p.family (a + i) false = get_or-take k (drop a p.family) i false few ∙ get_or-drop a p.family i false in
      let next : a + i + 1 ≡ a + (i + 1) = omega arith in
      let far : 2 ^ p.colours ≤ a + i = omega arith in
      all-turn (legal_set p) (a + i) _ _ e (ap not at ∙ sym (legal-set-outside (a + i) far)) ∙ ap (λ (n : ℕ). all (legal_set p) (below n)) next

  -- a part of the family, passed whole
  pub family-passed : (a e i : ℕ) → a ≤ e → e ≤ length p.family → i ≤ length (take (e - a) (drop a p.family)) → length (take (e - a) (drop a p.family)) ≤ i → a + i ≡ e
  family-passed a e i h l m n = omega (arith, length-take (e - a) (drop a p.family), length-drop a p.family)

  -- every set of the colours is legal
  pub legal-sets-within : (n : ℕ) → n ≡ 2 ^ p.colours → true ≡ all (legal_set p) (below n)
  legal-sets-within n q = sym (each_all (legal_set p) (below n) (λ s m. legal-set-within s (omega (arith, below-lt n s m))))

  -- ---- the test that is made of them
  pub graph-uncounted : legal_counts p ≡ false → legal_graph p ≡ false
  unfolding legal_graph
  graph-uncounted f = rw f

  pub graph-counted : legal_counts p ≡ true → (a b : Bool) → a ≡ legal_edges p → b ≡ legal_quiet p → b && a ≡ legal_graph p
  unfolding legal_graph
  graph-counted t a b q r = and_comm b a ∙ ap₂ ◌&&◌ (q ∙ ap (λ (x : Bool). x && legal_edges p) (sym t)) r

  pub legal-uncounted : legal_counts p ≡ false → legal p ≡ false
  unfolding legal
  legal-uncounted f = ap (λ (x : Bool). x && legal_family p) (graph-uncounted f)

  pub legal-counted : legal_counts p ≡ true → (a b c : Bool) → a ≡ legal_edges p → b ≡ legal_quiet p → c ≡ legal_family p → b && a && c ≡ legal p
  unfolding legal
  legal-counted t a b c q r s = ap₂ ◌&&◌ (graph-counted t a b q r) s
