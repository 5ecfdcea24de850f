-- A policy without quiet edges, and without the empty set in its family: what document 02's S-5 changed has document 01's text again. Assumes nothing.
use Prim.Native.Nat.{ℕ, zero, suc, ◌^◌}
use native.Mathlib.Omega.{arith}
use mathlib.Core.Path.{◌≡◌, sym, ap, ap₂, ◌∙◌}
use mathlib.Core.Bool.{Bool, true, false, not, ◌&&◌, ◌||◌, cond, and-true}
use mathlib.Core.List.{[], ◌∷◌, map}
use lib.Dec.{eqb, ltb}
use borrow.Author.Tests.{lt-ltb}
use Rattle.lists.specs.Lists.{all, flat, below}
use Rattle.masks.specs.Masks.{members, set_of, mask_of}
use Rattle.policy.specs.declared.Policy.{Policy}
use Rattle.policy.specs.Policies.{edges, colour_of, edge_colours, colours_of, in_family, accepting, legal_counts, legal_edges, legal_set, legal_family, legal_graph, legal}
use Rattle.policy.specs.ByColour.{has_colour, by_colour_to, entry_of, by_colour, table_edges_to}
use Rattle.policy.proofs.Laws.{plain-loud, loud-colours}
use Rattle.policy.proofs.ByColour.{quiet-table}
use Rattle.policy.proofs.LegalTests.{legal-quiet-none}

-- no member of the family is empty or outside the colours
abbrev pub some_set : Policy → ℕ → Bool
some_set p s = not (in_family p s) || (ltb 0 s && ltb s (2 ^ p.colours))

module _ (p : Policy) (plain : p.quiet ≡ 0) where
  -- each edge has one colour
  pub plain-colours : (e : ℕ) → edge_colours p e ≡ colour_of p e ∷ []
  plain-colours e = loud-colours p e (plain-loud p plain e)

  -- an edge set has the colours of its edges, and their verdict
  pub plain-colours-of : (m : ℕ) → colours_of p m ≡ set_of (flat (map (λ (e : ℕ). colour_of p e ∷ []) (members (edges p) m)))
  unfolding colours_of
  plain-colours-of m = λ i. set_of (flat (map (λ (e : ℕ). plain-colours e i) (members (edges p) m)))

  pub plain-accepting : (m : ℕ) → accepting p m ≡ in_family p (set_of (flat (map (λ (e : ℕ). colour_of p e ∷ []) (members (edges p) m))))
  unfolding accepting
  plain-accepting m = ap (in_family p) (plain-colours-of m)

  -- the table of edges by colour goes by the recorded colours, and its last entry adds no edge to a colour set
  pub plain-by-colour : by_colour p ≡ by_colour_to p.colour (edges p)
  unfolding by_colour entry_of by_colour_to has_colour colour_of
  plain-by-colour = λ i. map (λ (c : ℕ). mask_of (λ (e : ℕ). eqb (cond (plain-loud p plain e i) 8 (colour_of p e)) c) (edges p)) (below 9)

  pub plain-table-edges : legal p ≡ true → (c : ℕ) → table_edges_to (by_colour p) 0 c ≡ 0
  unfolding table_edges_to
  plain-table-edges lawful c = quiet-table p lawful ∙ plain

  -- a graph is legal by its counts and its edges, and a policy by its sets too
  pub plain-legal-graph : legal_graph p ≡ legal_counts p && legal_edges p
  unfolding legal_graph
  plain-legal-graph = ap (λ (b : Bool). legal_counts p && legal_edges p && b) (sym (legal-quiet-none p plain)) ∙ and-true (legal_counts p && legal_edges p)

  pub plain-legal : in_family p 0 ≡ false → legal p ≡ legal_counts p && legal_edges p && all (some_set p) (below 256)
  unfolding legal legal_family legal_set
  plain-legal none = ap₂ ◌&&◌ plain-legal-graph (λ i. all (λ (s : ℕ). set s i) (below 256))
    where
      set : (s : ℕ) → legal_set p s ≡ some_set p s
      set zero = rw none
      set (suc s) = ap (λ (b : Bool). not (in_family p (suc s)) || (b && ltb (suc s) (2 ^ p.colours))) (sym (lt-ltb 0 (suc s) (omega arith)))
