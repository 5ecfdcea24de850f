-- The policy of a document: its edges, its step and its family are the document's. Assumes nothing.
use Prim.Native.Nat.{ℕ, ◌+◌, ◌-◌, ◌*◌, ◌^◌, ◌≤◌, ◌<◌}
use native.Mathlib.Omega.{arith}
use mathlib.Core.Path.{◌≡◌, refl, sym, ap, ◌∙◌}
use mathlib.Core.Bool.{false, cond}
use mathlib.Core.List.{map}
use lib.Dec.{ltb}
use lib.ListN.{length, get_or, length-map, get_or-map, get_or-eq_default}
use borrow.Author.Tests.{lt-ltb}
use Rattle.lists.proofs.Lists.{get_or-map-below}
use Rattle.tables.proofs.Columns.{map_at}
use Rattle.policy.specs.declared.Policy.{Policy}
use Rattle.policy.specs.Policies.{edge_of, target_of, colour_of, in_family}
use Rattle.running.specs.Running.{policy_step}
use Rattle.mark_sets.specs.MarkSets.{union_at}
use Rattle.mark_sets.proofs.Unions.{filled_at}
use Rattle.hanoi.specs.Documents.{Edge, plain, Document, target_of as edge_target, letters}
use Rattle.hanoi.specs.Meaning.{holds, edges_of, mark_sets, colour_of as edge_colour, named, policy_of, edge_at, step}

module _ (d : Document) where
  abbrev p : Policy
  p = policy_of d

  pub states_are : p.states ≡ d.states
  unfolding policy_of
  states_are = refl

  pub letters_are : p.letters ≡ letters d
  unfolding policy_of
  letters_are = refl

  -- no edge is quiet
  pub no-quiet : p.quiet ≡ 0
  unfolding policy_of
  no-quiet = refl

  -- edge e of the document
  abbrev pub edge : ℕ → Edge
  edge e = get_or (edges_of d) e (plain 0)

  -- ---- edges
  pub target-at : (e : ℕ) → target_of p e ≡ edge_target (edge e)
  unfolding target_of policy_of
  target-at e = filled_at (map edge_target (edges_of d)) (64 - length (map edge_target (edges_of d))) e ∙ get_or-map edge_target (edges_of d) e (plain 0)

  pub colour-at : (e : ℕ) → e < length (edges_of d) → colour_of p e ≡ edge_colour d (edge e)
  unfolding colour_of policy_of
  colour-at e h = filled_at (map (edge_colour d) (edges_of d)) (64 - length (map (edge_colour d) (edges_of d))) e ∙ map_at (edge_colour d) (edges_of d) (plain 0) e h

  pub past-target : (e : ℕ) → length (edges_of d) ≤ e → target_of p e ≡ 0
  past-target e h = target-at e ∙ ap edge_target (get_or-eq_default (edges_of d) (plain 0) h)

  pub past-colour : (e : ℕ) → length (edges_of d) ≤ e → colour_of p e ≡ 0
  unfolding colour_of policy_of
  past-colour e h =
      filled_at (map (edge_colour d) (edges_of d)) (64 - length (map (edge_colour d) (edges_of d))) e
      ∙ get_or-eq_default (map (edge_colour d) (edges_of d)) 0 (omega (arith, length-map (edges_of d) (edge_colour d)))

  -- ---- the document's step is the policy's
  pub step_same : (v a : ℕ) → step d v a ≡ policy_step p v a
  unfolding step edge_at policy_step edge_of policy_of
  step_same v a = ap (λ (t : ℕ). cond (ltb a (letters d)) t v) (sym (target-at (v * letters d + a)))

  -- ---- the family
  pub family-at : (s : ℕ) → s < 256 → in_family p s ≡ named d s
  unfolding in_family policy_of
  family-at s h = get_or-map-below (named d) 256 s false h

  -- a non-empty set of colours
  pub named-is : (s : ℕ) → 0 < s → s < 2 ^ length (mark_sets d) → named d s ≡ holds (union_at (mark_sets d) s (length (mark_sets d))) d.formula
  unfolding named
  named-is s some few = rw (lt-ltb 0 s some, lt-ltb s (2 ^ length (mark_sets d)) few) refl
