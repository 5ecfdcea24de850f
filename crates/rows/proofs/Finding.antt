-- The search for the row of an edge: where the edge leads from the node that it meets, and that place in the tables. Assumes nothing.
use Prim.Native.Nat.{ℕ, ◌+◌, ◌≤◌, ◌<◌}
use native.Mathlib.Omega.{arith}
use native.Mathlib.Nat.{le_refl}
use native.Mathlib.Decide.{ℕ_discrete}
use mathlib.Core.Path.{◌≡◌, sym, ap, ◌∙◌, subst}
use mathlib.Core.Logic.{inl, inr, ◌≢◌}
use mathlib.Core.Bool.{Bool, true, false, not}
use mathlib.Core.List.{List, Memᴰ}
use lib.ListN.{length, get_or}
use Rattle.lists.proofs.Bools.{not-true, unnot}
use Rattle.tables.specs.Tables.{Column}
use Rattle.policy.specs.declared.Policy.{Policy}
use Rattle.policy.specs.Policies.{edges, source, target_of, legal}
use Rattle.policy.proofs.Laws.{legal-target}
use Rattle.forest.specs.Forest.{forest, in_root}
use Rattle.forest.proofs.Forest.{forest-laws}
use Rattle.automaton.specs.Automaton.{or_else, deepest, lead, leaves, leaf_after, built, number, state_leaves}
use Rattle.automaton.specs.Stages.{end_of, first_over, node_ends}
use Rattle.automaton.proofs.Columns.{ends-long, end-at, leaves_long}
use Rattle.automaton.proofs.EdgeRuns.{Good}
use Rattle.automaton.proofs.Leaves.{Meets, of-leaf, leaf-under, leaves-good, leaf-after-good, meets, after-out}
use Rattle.automaton.proofs.Starts.{over-le, over-mono, first-number}
use Rattle.automaton.proofs.Tables.{number_at}
use Rattle.search.specs.LowerBound.{AscendsIn, LowerBound}
use Rattle.rows.specs.Rows.{Met}
use Rattle.rows.proofs.Climbing.{lead-self, lead-off, lead-lt}
use Rattle.rows.proofs.Targets.{FirstFrom, leaf-after-self, leaf-after-next, leaf-after-first, leaves-ascend-in, leaf-in-run, bound-number, bound-none}

-- ---- where the edge leads
module _ (p : Policy) (ok : legal p ≡ true) (ls : List ℕ) (col : Column (state_leaves p) ls) (e : ℕ) (he : e < edges p) (l : ℕ) (good : Good (forest p) p (source p e) l)
    (met : Bool) (at child priority : ℕ) (m : Met p e l met at child priority) where
  abbrev w : ℕ
  w = target_of p e

  hw : w < p.states
  hw = legal-target p ok e he

  -- no root has e: the first state over the target
  target-out : met ≡ false → number p (target_of p e) (leaf_after (forest p) p e l) ≡ first_over p (target_of p e)
  target-out f = ap (number p w) (after-out (forest p) p e l (sym m.in-root ∙ f)) ∙ first-number p (forest-laws p ok) w hw

  module _ (t : met ≡ true) where
    rooted : in_root (forest p) e ≡ true
    rooted = sym m.in-root ∙ t

    g : Meets (forest p) p e l
    g = meets p (forest p) (forest-laws p ok) e l he rooted good

    n≡ : at ≡ deepest (forest p) e l
    n≡ = m.node_is t

    c≡ : child ≡ lead (forest p) (deepest (forest p) e l) l
    c≡ = m.child_is t

    -- the leaf is the node met exactly if no child leads to it
    self : child ≡ at → l ≡ deepest (forest p) e l
    self q = go (ℕ_discrete l (deepest (forest p) e l))
      where
        go : Dec (l ≡ deepest (forest p) e l) → l ≡ deepest (forest p) e l
        go (yes z) = z
        go (no z) = absurd (omega (arith, q, n≡, c≡, lead-off p (forest p) (forest-laws p ok) (deepest (forest p) e l) l g.leaf_range g.node_above z))

    off : child ≢ at → l ≢ deepest (forest p) e l
    off q z = q (c≡ ∙ ap (λ (x : ℕ). lead (forest p) x l) (sym z) ∙ lead-self p (forest p) (forest-laws p ok) l g.leaf_range ∙ z ∙ sym n≡)

    -- the state found is the one where the first leaf from x on stands
    at_bound : (x r : ℕ) → FirstFrom (leaves (forest p) p w) x (leaf_after (forest p) p e l) → LowerBound ls (first_over p w) (first_over p (w + 1)) x r
        → number p w (leaf_after (forest p) p e l) ≡ r
    at_bound x r f b = bound-number p (forest-laws p ok) ls col w hw x (leaf_after (forest p) p e l) r f b

    -- the leaf is the node met
    target-at : (r : ℕ) → child ≡ at → LowerBound ls (first_over p (target_of p e)) (first_over p (target_of p e + 1)) at r
        → number p (target_of p e) (leaf_after (forest p) p e l) ≡ r
    target-at r q b = at_bound at r (subst (λ (x : ℕ). FirstFrom (leaves (forest p) p w) x (leaf_after (forest p) p e l)) (sym n≡) (leaf-after-self p (forest p) (forest-laws p ok) e l rooted g (self q))) b

    -- the target has a leaf
    some : (z : ℕ) × Memᴰ z (leaves (forest p) p w)
    some =
        let y = leaf-under p (forest p) (forest-laws p ok) w (deepest (forest p) e l) g.node_range g.node_target in
        (y.0, of-leaf (forest p) p w y.0 y.1.in_range y.1.is-leaf)

    -- a state over the target below a child after the one that leads to l
    target-next : (r : ℕ) → child ≢ at → LowerBound ls (first_over p (target_of p e)) (first_over p (target_of p e + 1)) (end_of (forest p) child) r
        → r < first_over p (target_of p e + 1) → get_or ls r 0 < end_of (forest p) at → number p (target_of p e) (leaf_after (forest p) p e l) ≡ r
    target-next r q b i j =
        at_bound (end_of (forest p) child) r
        (subst (λ (x : ℕ). FirstFrom (leaves (forest p) p w) (end_of (forest p) x) (leaf_after (forest p) p e l)) (sym c≡)
        (leaf-after-next p (forest p) (forest-laws p ok) e l rooted g (off q) (get_or ls r 0) (leaf-in-run p (forest-laws p ok) ls col w hw some.0 some.1 r b.low i)
        (subst (λ (x : ℕ). end_of (forest p) x ≤ get_or ls r 0) c≡ (b.after r (le_refl r) i)) (subst (λ (x : ℕ). get_or ls r 0 < end_of (forest p) x) n≡ j))) b

    -- no such state
    target_first : (r₀ r : ℕ) → child ≢ at → LowerBound ls (first_over p (target_of p e)) (first_over p (target_of p e + 1)) (end_of (forest p) child) r₀
        → (r₀ < first_over p (target_of p e + 1) → get_or ls r₀ 0 < end_of (forest p) at → ⊥) → LowerBound ls (first_over p (target_of p e)) (first_over p (target_of p e + 1)) at r
        → number p (target_of p e) (leaf_after (forest p) p e l) ≡ r
    target_first r₀ r q b₀ no-leaf b =
        at_bound at r
        (subst (λ (x : ℕ). FirstFrom (leaves (forest p) p w) x (leaf_after (forest p) p e l)) (sym n≡)
        (leaf-after-first p (forest p) (forest-laws p ok) e l rooted g (off q)
        (λ z k i j. bound-none p (forest-laws p ok) ls col w hw (end_of (forest p) child) (end_of (forest p) at) r₀ b₀ no-leaf z k (subst (λ (x : ℕ). end_of (forest p) x ≤ z) (sym c≡) i) (subst (λ (x : ℕ). z < end_of (forest p) x) (sym n≡) j)))) b

-- ---- the searches over the tables
-- where the edge meets the branch, and the tables to search
abbrev pub Place : Policy → ℕ → ℕ → Bool → ℕ → ℕ → ℕ → Type 0
Place p e l met at child priority =
    (legal p ≡ true) × (e < edges p) × Memᴰ l (or_else 65535 (leaves (forest p) p (source p e))) × Met p e l met at child priority

abbrev pub Run : Policy → List ℕ → List ℕ → ℕ → ℕ → ℕ → Type 0
Run p ends entries e from to =
    (length (forest p) ≤ 65535) × Column (node_ends p) ends × (length (built p) ≤ 65535) × Column (state_leaves p) entries × (from ≡ first_over p (target_of p e)) × (to ≡ first_over p (target_of p e + 1))

module _ (p : Policy) (ends entries : List ℕ) (e l : ℕ) (met : Bool) (at child priority from to : ℕ) (a : Place p e l met at child priority) (b : Run p ends entries e from to) where
  stands : Good (forest p) p (source p e) l
  stands = leaves-good p (forest p) (forest-laws p a.0) (source p e) l a.2

  pub place-small : l < 65536
  place-small = go stands
    where
      go : Good (forest p) p (source p e) l → l < 65536
      go (inl g) = omega (arith, g.0, b.0)
      go (inr g) = omega (arith, g.0)

  -- the number of the state that e leads to fits
  pub find-fits : number p (target_of p e) (leaf_after (forest p) p e l) < 65536
  find-fits =
      omega (arith, (number_at p (forest-laws p a.0) (target_of p e) (leaf_after (forest p) p e l) (legal-target p a.0 e a.1) (leaf-after-good p (forest p) (forest-laws p a.0) e a.1 l stands)).0, b.2)

  bound : (x r : ℕ) → LowerBound entries from to x r → LowerBound entries (first_over p (target_of p e)) (first_over p (target_of p e + 1)) x r
  bound x r w = subst (λ (z : ℕ). LowerBound entries (first_over p (target_of p e)) z x r) b.5 (subst (λ (z : ℕ). LowerBound entries z to x r) b.4 w)

  -- the run to search
  pub find-run : (from ≤ to) × (to ≤ length entries) × AscendsIn entries from to
  find-run = (
    omega (arith, b.4, b.5, over-mono p (target_of p e)),
    omega (arith, b.5, over-le p (target_of p e + 1), leaves_long p b.3),
    λ i j x y z. leaves-ascend-in p entries b.3 (target_of p e) i j (omega (arith, b.4)) y (omega (arith, b.5)),
  )

  pub find-out : not met ≡ true → from ≡ number p (target_of p e) (leaf_after (forest p) p e l)
  find-out f = b.4 ∙ sym (target-out p a.0 entries b.3 e a.1 l stands met at child priority a.3 (not-true met f))

  module _ (f : not met ≡ false) where
    t : met ≡ true
    t = unnot met f

    pub find-rooted : in_root (forest p) e ≡ true
    find-rooted = sym a.3.in-root ∙ t

    pub find-meets : Meets (forest p) p e l
    find-meets = meets p (forest p) (forest-laws p a.0) e l a.1 find-rooted stands

    at_lt : at < length (forest p)
    at_lt = omega (arith, a.3.node_is t, find-meets.node_range)

    child-in : child < length (forest p)
    child-in = omega (arith, a.3.child_is t, lead-lt p (forest p) (forest-laws p a.0) (deepest (forest p) e l) l find-meets.leaf_range find-meets.node_above)

    pub find-child : (child ≡ lead (forest p) (deepest (forest p) e l) l) × (at ≡ deepest (forest p) e l) × (get_or ends child 0 ≡ end_of (forest p) (lead (forest p) (deepest (forest p) e l) l))
    find-child = (a.3.child_is t, a.3.node_is t, end-at p child child-in b.1 ∙ ap (end_of (forest p)) (a.3.child_is t))

    -- the places of the node and of the child in the table of ends
    pub find-in : (at < length ends) × (child < length ends) × (at < 65535) × (child < 65535)
    find-in =
        (omega (arith, at_lt, ends-long p b.1), omega (arith, child-in, ends-long p b.1), omega (arith, at_lt, b.0), omega (arith, child-in, b.0))

    pub find_at : (r : ℕ) → child ≡ at → LowerBound entries from to at r → r ≡ number p (target_of p e) (leaf_after (forest p) p e l)
    find_at r q w = sym (target-at p a.0 entries b.3 e a.1 l stands met at child priority a.3 t r q (bound at r w))

    module _ (x r₀ : ℕ) (q : child ≢ at) (is : x ≡ get_or ends child 0) (w₀ : LowerBound entries from to x r₀) where
      ended : LowerBound entries (first_over p (target_of p e)) (first_over p (target_of p e + 1)) (end_of (forest p) child) r₀
      ended = subst (λ (z : ℕ). LowerBound entries (first_over p (target_of p e)) (first_over p (target_of p e + 1)) z r₀) (is ∙ end-at p child child-in b.1) (bound x r₀ w₀)

      pub find-next : r₀ < to → get_or entries r₀ 0 < get_or ends at 0 → r₀ ≡ number p (target_of p e) (leaf_after (forest p) p e l)
      find-next i j =
          sym (target-next p a.0 entries b.3 e a.1 l stands met at child priority a.3 t r₀ q ended (omega (arith, b.5)) (omega (arith, end-at p at at_lt b.1)))

      pub find_first : (r : ℕ) → (r₀ < to → get_or entries r₀ 0 < get_or ends at 0 → ⊥) → LowerBound entries from to at r → r ≡ number p (target_of p e) (leaf_after (forest p) p e l)
      find_first r none w =
          sym (target_first p a.0 entries b.3 e a.1 l stands met at child priority a.3 t r₀ r q ended (λ i j. none (omega (arith, b.5)) (omega (arith, end-at p at at_lt b.1))) (bound at r w))
