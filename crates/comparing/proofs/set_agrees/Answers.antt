use Prim.Native.Nat.{ℕ, ◌-◌}
use native.Mathlib.Omega.{arith}
use mathlib.Core.Path.{◌≡◌, refl, sym, ap, ◌∙◌}
use mathlib.Core.Bool.{Bool, true}
use mathlib.Core.List.{List}
use lib.Bits.{and_le_l}
use Rattle.masks.proofs.Bits.{inside-refl, inside-le}
use Rattle.policy.specs.declared.Policy.{Policy}
use Rattle.policy.specs.Policies.{colours_of, in_family}
use Rattle.policy.specs.ByColour.{edges_in, table_edges, table_colours}
use Rattle.comparing.specs.Pairs.{ColourTables, needs_search, pair_agrees, needs_search_by}
use Rattle.comparing.proofs.Searches.{edges-p, colours-p, colours-q, missing-agrees, unsearched-agrees, searched-agrees, used-agrees, used-not, search-by}
use Rattle.masks.proofs.Bits.{and-inside}
use Rattle.masks.proofs.Subsets.{not-between, from-here}
use Rattle.comparing.proofs.set_agrees.Goals as goal
use Rattle.comparing.proofs.set_agrees.Goals.{then-needs_search+else-not-has_no_cycle, else-needs_search}

module _ (p q : Policy) (t u : List ℕ) (c m : ℕ) (is : m ≡ table_edges t c) where
  -- the colours in use
  used-are : ColourTables p q t u → (used : ℕ) → used ≡ table_colours u m → used ≡ colours_of q (edges_in p c)
  used-are k used e = e ∙ colours-q p q t u k m ∙ ap (colours_of q) (is ∙ edges-p p q t u k c)

  -- whether the pair is searched
  asked : ColourTables p q t u → {s : Bool} → (d : ℕ) → s ≡ needs_search_by t u q.family (in_family p c) m c d → s ≡ needs_search p q c d
  asked k d e = e ∙ search-by p q t u k c d (in_family p c) m refl is

pub returns-then-colours_in-c : goal.returns-then-colours_in-c
returns-then-colours_in-c c =
    let a = c.args in
    let p = a.g.now.policy.now in
    let q = a.h.now.policy.now in
    let k : ColourTables p q a.g.now.by a.h.now.by = record { comparable = c.requires.0; of_p = a.g.now.by_is; of_q = a.h.now.by_is } in (
      sym (missing-agrees p q a.c
          (λ z. c.if-colours_in-c.true (c.colours_in.ensures ∙ colours-p p q a.g.now.by a.h.now.by k _ ∙ ap (colours_of p) (c.edges_in-m.ensures ∙ edges-p p q a.g.now.by a.h.now.by k a.c) ∙ z))),
      c.requires.1,
    )

pub loop-rows-init : goal.loop-rows-init
loop-rows-init c = (inside-refl c.colours_in-used.result, c.requires.1, λ e l i. absurd (omega (arith, l, inside-le e c.colours_in-used.result i)))

pub has_no_cycle-requires : goal.has_no_cycle-requires
has_no_cycle-requires c = (c.requires.0, c.loop-rows.invariant.1)

pub returns-then-not-has_no_cycle : goal.returns-then-not-has_no_cycle
unfolding in_family
returns-then-not-has_no_cycle c =
    let at = c.loop-rows in
    let a = c.args in
    let p = a.g.now.policy.now in
    let q = a.h.now.policy.now in
    let k : ColourTables p q a.g.now.by a.h.now.by = record { comparable = c.requires.0; of_p = a.g.now.by_is; of_q = a.h.now.by_is } in
    let m = c.edges_in-m in (
      sym (used-not p q k.comparable.legal_q a.c _ at.d (used-are p q _ _ a.c _ m.ensures k _ c.colours_in-used.ensures) at.invariant.0
          (searched-agrees p q a.c at.d (sym (asked p q _ _ a.c _ m.ensures k at.d c.needs_search.ensures) ∙ c.if-needs_search.true) ∙ sym c.has_no_cycle.ensures.0 ∙ c.if-not-has_no_cycle.true)),
      c.has_no_cycle.ensures.1,
    )

pub returns-then-d-eq0 : goal.returns-then-d-eq0
unfolding in_family
returns-then-d-eq0 c =
    let a = c.args in
    let p = a.g.now.policy.now in
    let q = a.h.now.policy.now in
    let k : ColourTables p q a.g.now.by a.h.now.by = record { comparable = c.requires.0; of_p = a.g.now.by_is; of_q = a.h.now.by_is } in
    let m = c.edges_in-m in
    let d = c.loop-rows.d in
    let used = c.colours_in-used.result in
    -- the pair agrees, and so does every set of the colours in use from it on
    let searched = asked p q _ _ a.c _ m.ensures k d c.needs_search.ensures in
    let here : pair_agrees p q a.c d ≡ true =
    elim c.if-needs_search.branch [
      | then-needs_search+else-not-has_no_cycle w ↦ searched-agrees p q a.c d (sym searched ∙ w.if-needs_search.true) ∙ sym w.has_no_cycle.ensures.0 ∙ w.if-not-has_no_cycle.false
      | else-needs_search w ↦ unsearched-agrees p q a.c d (sym searched ∙ w.if-needs_search.false)
    ] in
    let from_on = from-here (λ (e : ℕ). pair_agrees p q a.c e ≡ true) d used here c.loop-rows.invariant.2 in (
      sym (used-agrees p q a.c _ (used-are p q _ _ a.c _ m.ensures k _ c.colours_in-used.ensures) (λ e i. from_on e (omega (arith, c.if-d-eq0.true)) i)),
      c.if-needs_search.array_long,
    )

pub loop-rows-smaller : goal.loop-rows-smaller
loop-rows-smaller c = omega (arith, c.if-d-eq0.false, and_le_l (c.loop-rows.d - 1) c.colours_in-used.result)

pub loop-rows-preserved : goal.loop-rows-preserved
unfolding in_family
loop-rows-preserved c =
    let a = c.args in
    let p = a.g.now.policy.now in
    let q = a.h.now.policy.now in
    let k : ColourTables p q a.g.now.by a.h.now.by = record { comparable = c.requires.0; of_p = a.g.now.by_is; of_q = a.h.now.by_is } in
    let m = c.edges_in-m in
    let d = c.loop-rows.d in
    let used = c.colours_in-used.result in
    let searched = asked p q _ _ a.c _ m.ensures k d c.needs_search.ensures in
    let here : pair_agrees p q a.c d ≡ true =
    elim c.if-needs_search.branch [
      | then-needs_search+else-not-has_no_cycle w ↦ searched-agrees p q a.c d (sym searched ∙ w.if-needs_search.true) ∙ sym w.has_no_cycle.ensures.0 ∙ w.if-not-has_no_cycle.false
      | else-needs_search w ↦ unsearched-agrees p q a.c d (sym searched ∙ w.if-needs_search.false)
    ] in
    let from_on = from-here (λ (e : ℕ). pair_agrees p q a.c e ≡ true) d used here c.loop-rows.invariant.2 in
    (and-inside (d - 1) used, c.if-needs_search.array_long, λ e l i. from_on e (not-between d used e c.loop-rows.invariant.0 i l) i)
