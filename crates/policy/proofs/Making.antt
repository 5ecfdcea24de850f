-- Policies made step by step: what each step keeps, and that a policy is legal once every edge is given. Assumes nothing.
use Prim.Native.Nat.{ℕ, ◌^◌, ◌<◌}
use native.Mathlib.Omega.{arith}
use native.Mathlib.Decide.{ℕ_discrete}
use mathlib.Core.Path.{◌≡◌, refl, sym, ap, ◌∙◌, subst}
use mathlib.Core.Logic.{◌⊎◌, inl, inr}
use mathlib.Core.Bool.{Bool, true, false, not, ◌||◌, true≢false}
use mathlib.Core.List.{List}
use lib.Dec.{eqb, ltb}
use lib.ListN.{length, get_or, set, length-set}
use lib.Seq.{get_or-set_same, get_or-set_other}
use borrow.Author.Tests.{lt-ltb, ltb-true, ltb-false, eq-eqb, eqb-true}
use Rattle.lists.specs.Lists.{all, below}
use Rattle.lists.proofs.Bools.{test, both, or_cases, or_left, or_right, or-none}
use Rattle.lists.proofs.Lists.{all-each, each_all, mem_below, replicate-at}
use Rattle.masks.specs.Masks.{has, insert, inside}
use Rattle.masks.proofs.Bits.{has-none, has-insert, has-full, all-inside}
use Rattle.policy.specs.declared.Policy.{Policy}
use Rattle.policy.specs.declared.Shape.{Shape}
use Rattle.policy.specs.Policies.{edges, edge_of, target_of, colour_of, is_quiet, full, in_family, counts_fit, legal_counts, legal_edge, legal_edges, uncoloured, legal_quiet, legal_set, legal_family, legal_graph, legal}
use Rattle.policy.specs.Making.{counted, shape_of, from_parts, zero_policy, with_tables, with_edge, with_quiet, with_set}
use Rattle.policy.proofs.Laws.{Counts, counts, edge-lt, parts-legal}

-- the entries of the edges given are in range, all others are 0, only edges given are quiet, with colour 0, and each set of the family is in range
pub record Sound (p : Policy) (given : ℕ) : Type 0 where
  pub counts-fit : legal_counts p ≡ true
  pub targets_long : length p.target ≡ 64
  pub colours_long : length p.colour ≡ 64
  pub given_edge : (e : ℕ) → has given e ≡ true → (e < edges p) × (target_of p e < p.states) × (colour_of p e < p.colours)
  pub other_edge : (e : ℕ) → has given e ≡ false → (target_of p e ≡ 0) × (colour_of p e ≡ 0)
  pub quiet_edge : (e : ℕ) → is_quiet p e ≡ true → (has given e ≡ true) × (colour_of p e ≡ 0)
  pub in-family : (s : ℕ) → in_family p s ≡ true → s < 2 ^ p.colours

-- ---- from parts
pub parts_are : (p : Policy) {s : Shape} {h k : List ℕ} {f : List Bool} → s ≡ shape_of p → h ≡ p.target → k ≡ p.colour → f ≡ p.family → from_parts s p.quiet h k f ≡ p
parts_are p a b c d = λ i. from_parts (a i) p.quiet (b i) (c i) (d i)

-- ---- from the counts
pub sound-counted : (v a k i : ℕ) → counts_fit v a k i ≡ true → Sound (counted v a k i) 0
unfolding counted legal_counts target_of colour_of is_quiet in_family
sound-counted v a k i w = record {
  counts-fit = w;
  targets_long = refl;
  colours_long = refl;
  given_edge = λ e h. absurd (true≢false (sym h ∙ has-none e));
  other_edge = λ e h. (replicate-at 64 e 0, replicate-at 64 e 0);
  quiet_edge = λ e h. absurd (true≢false (sym h ∙ has-none e));
  in-family = λ s h. absurd (true≢false (sym h ∙ replicate-at 256 s false));
}

pub zero-counted : counted 0 0 0 0 ≡ zero_policy
unfolding zero_policy
zero-counted = refl

pub zero-illegal : legal zero_policy ≡ false
unfolding legal zero_policy counted legal_graph legal_counts counts_fit
zero-illegal = refl

module _ (p : Policy) (given : ℕ) (sound : Sound p given) where
  -- ---- an edge more
  pub sound-edge : (v a t k : ℕ) → v < p.states → a < p.letters → t < p.states → k < p.colours → has given (edge_of p v a) ≡ false
      → Sound (with_edge p (edge_of p v a) t k) (insert given (edge_of p v a))
  unfolding with_edge with_tables legal_counts target_of colour_of is_quiet in_family edges
  sound-edge v a t k v-lt a_lt t-lt k_lt new = record {
    counts-fit = sound.counts-fit;
    targets_long = length-set p.target n t ∙ sound.targets_long;
    colours_long = length-set p.colour n k ∙ sound.colours_long;
    given_edge = λ e h. in_range e (ℕ_discrete e n) (or_cases (has given e) (eqb n e) (sym (has-insert given n e) ∙ h));
    other_edge = λ e h. other e (ℕ_discrete e n) (sym (has-insert given n e) ∙ h);
    quiet_edge = λ e h. quiet e (ℕ_discrete e n) (sound.quiet_edge e h);
    in-family = sound.in-family;
  }
    where
      n : ℕ
      n = edge_of p v a

      quiet : (e : ℕ) → Dec (e ≡ n) → (has given e ≡ true) × (get_or p.colour e 0 ≡ 0) → (has (insert given n) e ≡ true) × (get_or (set p.colour n k) e 0 ≡ 0)
      quiet e (yes q) h = absurd (true≢false (sym h.0 ∙ ap (has given) q ∙ new))
      quiet e (no q) h = (has-insert given n e ∙ or_left (has given e) (eqb n e) h.0, get_or-set_other p.colour n e k 0 q ∙ h.1)

      n-lt : n < edges p
      n-lt = edge-lt p v a v-lt a_lt

      n-64 : n < 64
      n-64 = omega (arith, n-lt, (counts p sound.counts-fit).edges_few)

      in_range : (e : ℕ) → Dec (e ≡ n) → (has given e ≡ true) ⊎ (eqb n e ≡ true) → (e < edges p) × (get_or (set p.target n t) e 0 < p.states) × (get_or (set p.colour n k) e 0 < p.colours)
      in_range e (yes q) h =
          rw q (n-lt, subst (λ (x : ℕ). x < p.states) (sym (get_or-set_same p.target n t 0 (omega (arith, n-64, sound.targets_long)))) t-lt, subst (λ (x : ℕ). x < p.colours) (sym (get_or-set_same p.colour n k 0 (omega (arith, n-64, sound.colours_long)))) k_lt)
      in_range e (no q) (inl h) = rw (get_or-set_other p.target n e t 0 q, get_or-set_other p.colour n e k 0 q) (sound.given_edge e h)
      in_range e (no q) (inr h) = absurd (q (sym (eqb-true n e h)))

      other : (e : ℕ) → Dec (e ≡ n) → has given e || eqb n e ≡ false → (get_or (set p.target n t) e 0 ≡ 0) × (get_or (set p.colour n k) e 0 ≡ 0)
      other e (yes q) h = absurd (true≢false (sym (or_right (has given e) (eqb n e) (eq-eqb n e (sym q))) ∙ h))
      other e (no q) h = rw (get_or-set_other p.target n e t 0 q, get_or-set_other p.colour n e k 0 q) (sound.other_edge e (or-none (has given e) (eqb n e) h))

  -- ---- a quiet edge more: the edge with colour 0, made quiet
  pub sound-quiet : (v a t : ℕ) → v < p.states → a < p.letters → t < p.states → has given (edge_of p v a) ≡ false → Sound (with_quiet p (edge_of p v a) t) (insert given (edge_of p v a))
  unfolding with_quiet with_edge with_tables legal_counts target_of colour_of is_quiet in_family edges
  sound-quiet v a t v-lt a_lt t-lt new = record {
    counts-fit = loud.counts-fit;
    targets_long = loud.targets_long;
    colours_long = loud.colours_long;
    given_edge = loud.given_edge;
    other_edge = loud.other_edge;
    quiet_edge = λ e h. quiet e (ℕ_discrete e n) (or_cases (has p.quiet e) (eqb n e) (sym (has-insert p.quiet n e) ∙ h));
    in-family = loud.in-family;
  }
    where
      n : ℕ
      n = edge_of p v a

      fit : Counts p
      fit = counts p sound.counts-fit

      n-64 : n < 64
      n-64 = omega (arith, edge-lt p v a v-lt a_lt, fit.edges_few)

      loud : Sound (with_edge p n t 0) (insert given n)
      loud = sound-edge v a t 0 v-lt a_lt t-lt fit.colours_some new

      quiet : (e : ℕ) → Dec (e ≡ n) → (has p.quiet e ≡ true) ⊎ (eqb n e ≡ true) → (has (insert given n) e ≡ true) × (get_or (set p.colour n 0) e 0 ≡ 0)
      quiet e (yes q) h =
          (has-insert given n e ∙ or_right (has given e) (eqb n e) (eq-eqb n e (sym q)), ap (λ (x : ℕ). get_or (set p.colour n 0) x 0) q ∙ get_or-set_same p.colour n 0 0 (omega (arith, n-64, sound.colours_long)))
      quiet e (no q) (inl h) = loud.quiet_edge e h
      quiet e (no q) (inr h) = absurd (q (sym (eqb-true n e h)))

  -- ---- a set more
  pub sound-set : (s : ℕ) → s < 2 ^ p.colours → Sound (with_set p s) given
  unfolding with_set with_tables legal_counts target_of colour_of is_quiet in_family edges
  sound-set s few = record {
    counts-fit = sound.counts-fit;
    targets_long = sound.targets_long;
    colours_long = sound.colours_long;
    given_edge = sound.given_edge;
    other_edge = sound.other_edge;
    quiet_edge = sound.quiet_edge;
    in-family = λ x h. go x (ℕ_discrete x s) h;
  }
    where
      go : (x : ℕ) → Dec (x ≡ s) → get_or (set p.family s true) x false ≡ true → x < 2 ^ p.colours
      go x (yes q) h = rw q few
      go x (no q) h = sound.in-family x (sym (get_or-set_other p.family s x true false q) ∙ h)

  -- ---- with every edge given, the policy is legal
  pub sound-legal : all (has given) (below (edges p)) ≡ true → legal p ≡ true
  unfolding legal_edges legal_quiet legal_family legal_edge uncoloured legal_set full is_quiet
  sound-legal g =
      parts-legal p sound.counts-fit (each_all (legal_edge p) (below 64) (λ e m. edge e (test (ltb e (edges p))) (test (has given e))))
      (both (inside p.quiet (full p)) (all (uncoloured p) (below 64))
      (all-inside p.quiet (full p) (λ e t. has-full (edges p) e (sound.given_edge e (sound.quiet_edge e t).0).0))
      (each_all (uncoloured p) (below 64) (λ e m. quiet e (test (is_quiet p e)))))
      (each_all (legal_set p) (below 256) (λ s m. in-set s (test (in_family p s))))
    where
      quiet : (e : ℕ) → (is_quiet p e ≡ true) ⊎ (is_quiet p e ≡ false) → uncoloured p e ≡ true
      quiet e (inl t) = or_right (not (is_quiet p e)) (eqb (colour_of p e) 0) (eq-eqb _ _ (sound.quiet_edge e t).1)
      quiet e (inr f) = or_left (not (is_quiet p e)) (eqb (colour_of p e) 0) (ap not f)

      edge : (e : ℕ) → (ltb e (edges p) ≡ true) ⊎ (ltb e (edges p) ≡ false) → (has given e ≡ true) ⊎ (has given e ≡ false) → legal_edge p e ≡ true
      edge e (inl t) (inl h) = let r = sound.given_edge e h in rw t (both (ltb (target_of p e) p.states) (ltb (colour_of p e) p.colours) (lt-ltb _ _ r.1) (lt-ltb _ _ r.2))
      edge e (inl t) (inr h) = absurd (true≢false (sym (all-each (has given) (below (edges p)) g e (mem_below (edges p) e (ltb-true e (edges p) t))) ∙ h))
      edge e (inr t) (inl h) = absurd (omega (arith, ltb-false e (edges p) t, (sound.given_edge e h).0))
      edge e (inr t) (inr h) = let r = sound.other_edge e h in rw t (both (eqb (target_of p e) 0) (eqb (colour_of p e) 0) (eq-eqb _ _ r.0) (eq-eqb _ _ r.1))

      in-set : (s : ℕ) → (in_family p s ≡ true) ⊎ (in_family p s ≡ false) → legal_set p s ≡ true
      in-set s (inl t) = rw t (lt-ltb s (2 ^ p.colours) (sound.in-family s t))
      in-set s (inr f) = rw f
