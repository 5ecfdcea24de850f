-- Two policies over one graph give every cycle the same verdict exactly if every pair of colour sets agrees. A cycle with exactly the colours c and d lies inside the largest
-- one, through any of its states, of the edges with colours in c and d; and that one has exactly these colours too, hence the same two verdicts. Assumes nothing.
use Prim.Native.Nat.{ℕ, ◌^◌, ◌<◌}
use mathlib.Core.Path.{◌≡◌, refl, sym, ap, ap₂, ◌∙◌, subst}
use mathlib.Core.Logic.{◌⊎◌, inl, inr, ◌≢◌}
use mathlib.Core.Bool.{true, false, not, true≢false}
use lib.Dec.{eqb}
use Rattle.lists.specs.Lists.{below}
use Rattle.lists.proofs.Bools.{test, and_l, and_r, both, or_cases, or_left, or_right, eqb≡, ≡eqb, not-true, not-false, bool-ext}
use Rattle.lists.proofs.Lists.{all-each, each_all, mem_below, below-lt}
use Rattle.lists.specs.Bools.{differs}
use Rattle.masks.specs.Masks.{has, inside}
use Rattle.masks.proofs.Bits.{inside-all, all-inside, inside-refl, inside-antisym, inside-trans, has-and}
use Rattle.masks.proofs.Members.{some-nonzero}
use Rattle.policy.specs.declared.Policy.{Policy}
use Rattle.policy.specs.Policies.{colours_of, in_family, accepting, full}
use Rattle.policy.proofs.Laws.{legal-target, some-colours, colours-up, colours-lt, accepting-is}
use Rattle.policy.specs.ByColour.{edges_in}
use Rattle.policy.proofs.ByColour.{some-edges-in, edges-in-colours}
use Rattle.graph.specs.Cycles.{is_cycle, contains, cycles_in}
use Rattle.graph.specs.Through.{cycle_through}
use Rattle.graph.proofs.Cycles.{Targets, cycle-edge, contains-some}
use Rattle.graph.proofs.Through.{through-inside, through-cycle, through-largest}
use Rattle.graph.proofs.Inside.{cycles-mem, mem-cycles, cycle-state, inside-full}
use Rattle.graph.proofs.SameGraph.{same_edges}
use Rattle.comparing.specs.Comparing.{same_verdicts}
use Rattle.comparing.specs.Pairs.{Comparable, pair_edges, exactly, no_cycle_at, no_cycle, pair_agrees, set_agrees, pairs_agree}

module _ (p q : Policy) where
  -- ---- the edges with colours in c and d
  pair-some : (c d e : ℕ) → has (pair_edges p q c d) e ≡ true → (has (edges_in p c) e ≡ true) × (has (edges_in q d) e ≡ true)
  unfolding pair_edges
  pair-some c d e h =
      let t = sym (has-and e (edges_in p c) (edges_in q d)) ∙ h in
      (and_l (has (edges_in p c) e) (has (edges_in q d) e) t, and_r (has (edges_in p c) e) (has (edges_in q d) e) t)

  pub pair-inside-p : (c d : ℕ) → inside (pair_edges p q c d) (edges_in p c) ≡ true
  pair-inside-p c d = all-inside (pair_edges p q c d) (edges_in p c) (λ e h. (pair-some c d e h).0)

  pair-inside-q : (c d : ℕ) → inside (pair_edges p q c d) (edges_in q d) ≡ true
  pair-inside-q c d = all-inside (pair_edges p q c d) (edges_in q d) (λ e h. (pair-some c d e h).1)

  some_pair : (c d e : ℕ) → has (edges_in p c) e ≡ true → has (edges_in q d) e ≡ true → has (pair_edges p q c d) e ≡ true
  unfolding pair_edges
  some_pair c d e f g = has-and e (edges_in p c) (edges_in q d) ∙ both (has (edges_in p c) e) (has (edges_in q d) e) f g

  pair-colours-p : (c d : ℕ) → inside (colours_of p (pair_edges p q c d)) c ≡ true
  pair-colours-p c d = inside-trans (colours_of p (pair_edges p q c d)) (colours_of p (edges_in p c)) c (colours-up p (pair_edges p q c d) (edges_in p c) (pair-inside-p c d)) (edges-in-colours p c)

  pair-colours-q : (c d : ℕ) → inside (colours_of q (pair_edges p q c d)) d ≡ true
  pair-colours-q c d = inside-trans (colours_of q (pair_edges p q c d)) (colours_of q (edges_in q d)) d (colours-up q (pair_edges p q c d) (edges_in q d) (pair-inside-q c d)) (edges-in-colours q d)

  -- ---- exactly these colours
  pub exactly-p : (c d m : ℕ) → exactly p q c d m ≡ true → colours_of p m ≡ c
  unfolding exactly
  exactly-p c d m t = eqb≡ (colours_of p m) c (and_l (eqb (colours_of p m) c) (eqb (colours_of q m) d) t)

  pub exactly-q : (c d m : ℕ) → exactly p q c d m ≡ true → colours_of q m ≡ d
  unfolding exactly
  exactly-q c d m t = eqb≡ (colours_of q m) d (and_r (eqb (colours_of p m) c) (eqb (colours_of q m) d) t)

  is-exactly : (c d m : ℕ) → colours_of p m ≡ c → colours_of q m ≡ d → exactly p q c d m ≡ true
  unfolding exactly
  is-exactly c d m a b = both (eqb (colours_of p m) c) (eqb (colours_of q m) d) (≡eqb (colours_of p m) c a) (≡eqb (colours_of q m) d b)

  -- what lies between a set with exactly these colours and all edges with them, has exactly them
  exactly-up : (c d x y : ℕ) → inside x y ≡ true → inside y (pair_edges p q c d) ≡ true → exactly p q c d x ≡ true → exactly p q c d y ≡ true
  exactly-up c d x y i j t =
      let m = pair_edges p q c d in
      is-exactly c d y
      (inside-antisym (colours_of p y) c
      (inside-trans (colours_of p y) (colours_of p m) c (colours-up p y m j) (pair-colours-p c d))
      (subst (λ (s : ℕ). inside s (colours_of p y) ≡ true) (exactly-p c d x t) (colours-up p x y i)))
      (inside-antisym (colours_of q y) d
      (inside-trans (colours_of q y) (colours_of q m) d (colours-up q y m j) (pair-colours-q c d))
      (subst (λ (s : ℕ). inside s (colours_of q y) ≡ true) (exactly-q c d x t) (colours-up q x y i)))

  -- ---- no cycle with exactly these colours
  at_none : (c d v : ℕ) → ((t : cycle_through p (pair_edges p q c d) v ≢ 0) → exactly p q c d (cycle_through p (pair_edges p q c d) v) ≡ true → ⊥) → no_cycle_at p q c d v ≡ true
  unfolding no_cycle_at
  at_none c d v h = go (test (eqb y 0))
    where
      y : ℕ
      y = cycle_through p (pair_edges p q c d) v

      go : (eqb y 0 ≡ true) ⊎ (eqb y 0 ≡ false) → no_cycle_at p q c d v ≡ true
      go (inl t) = or_left (eqb y 0) (not (exactly p q c d y)) t
      go (inr f) = or_right (eqb y 0) (not (exactly p q c d y)) (not-false (exactly p q c d y) (h (λ z. true≢false (sym (≡eqb y 0 z) ∙ f))))

  none-at : (c d v : ℕ) → no_cycle_at p q c d v ≡ true → cycle_through p (pair_edges p q c d) v ≢ 0 → exactly p q c d (cycle_through p (pair_edges p q c d) v) ≡ true → ⊥
  unfolding no_cycle_at
  none-at c d v t nz x = go (or_cases (eqb y 0) (not (exactly p q c d y)) t)
    where
      y : ℕ
      y = cycle_through p (pair_edges p q c d) v

      go : (eqb y 0 ≡ true) ⊎ (not (exactly p q c d y) ≡ true) → ⊥
      go (inl z) = nz (eqb≡ y 0 z)
      go (inr f) = true≢false (sym x ∙ not-true (exactly p q c d y) f)

  -- where some colour is missing among all edges with these colours, no cycle has them all
  pub none-missing : (c d : ℕ) → exactly p q c d (pair_edges p q c d) ≡ false → no_cycle p q c d ≡ true
  unfolding no_cycle
  none-missing c d f =
      let m = pair_edges p q c d in
      each_all (no_cycle_at p q c d) (below p.states) (λ v k. at_none c d v (λ nz x. true≢false (sym (exactly-up c d (cycle_through p m v) m (through-inside p m v) (inside-refl m) x) ∙ f)))

  -- ---- verdicts
  verdict-p : (c d m : ℕ) → exactly p q c d m ≡ true → accepting p m ≡ in_family p c
  verdict-p c d m t = accepting-is p m ∙ ap (in_family p) (exactly-p c d m t)

  verdict-q : (c d m : ℕ) → exactly p q c d m ≡ true → accepting q m ≡ in_family q d
  verdict-q c d m t = accepting-is q m ∙ ap (in_family q) (exactly-q c d m t)

  module _ (k : Comparable p q) where
    targets : Targets p
    targets = legal-target p k.legal_p

    -- the same verdicts: every pair agrees
    same-pair : same_verdicts p q ≡ true → (c d : ℕ) → pair_agrees p q c d ≡ true
    unfolding same_verdicts pair_agrees no_cycle
    same-pair s c d = go (test (differs (in_family p c) (in_family q d)))
      where
        m : ℕ
        m = pair_edges p q c d

        same : (x : ℕ) → is_cycle p x ≡ true → differs (accepting p x) (accepting q x) ≡ false
        same x cy =
            not-true (differs (accepting p x) (accepting q x))
            (all-each (λ (z : ℕ). not (differs (accepting p z) (accepting q z))) (cycles_in p (full p)) s x (mem-cycles p (full p) x cy (inside-full p x cy)))

        none : differs (in_family p c) (in_family q d) ≡ true → (v : ℕ) → v < p.states → no_cycle_at p q c d v ≡ true
        none t v l =
            at_none c d v
            (λ nz x.
            let y = cycle_through p m v in
            true≢false (sym t ∙ sym (ap₂ differs (verdict-p c d y x) (verdict-q c d y x)) ∙ same y (through-cycle p targets m v l nz).0))

        go : (differs (in_family p c) (in_family q d) ≡ true) ⊎ (differs (in_family p c) (in_family q d) ≡ false) → pair_agrees p q c d ≡ true
        go (inl t) =
            or_right (not (differs (in_family p c) (in_family q d))) (no_cycle p q c d)
            (each_all (no_cycle_at p q c d) (below p.states) (λ v j. none t v (below-lt p.states v j)))
        go (inr f) = or_left (not (differs (in_family p c) (in_family q d))) (no_cycle p q c d) (ap not f)

    -- a cycle whose pair of colour sets agrees has the same verdict in both
    pair_same : (x : ℕ) → is_cycle p x ≡ true → pair_agrees p q (colours_of p x) (colours_of q x) ≡ true → not (differs (accepting p x) (accepting q x)) ≡ true
    unfolding pair_agrees no_cycle
    pair_same x cy t = go (or_cases (not (differs (in_family p c) (in_family q d))) (no_cycle p q c d) t)
      where
        c : ℕ
        c = colours_of p x

        d : ℕ
        d = colours_of q x

        m : ℕ
        m = pair_edges p q c d

        v : ℕ
        v = (cycle-state p k.legal_p x cy).0

        lt : v < p.states
        lt = (cycle-state p k.legal_p x cy).1

        on : contains p v x ≡ true
        on = (cycle-state p k.legal_p x cy).2

        into : inside x m ≡ true
        into =
            all-inside x m
            (λ e h. let l = cycle-edge p x cy e h in
            let l' = subst (λ (n : ℕ). e < n) (same_edges p q k.same-graph) l in
            some_pair c d e (some-edges-in p c e l (λ z i. some-colours p x e z l h i)) (some-edges-in q d e l' (λ z i. some-colours q x e z l' h i)))

        y : ℕ
        y = cycle_through p m v

        up : inside x y ≡ true
        up = through-largest p targets m v lt x cy into on

        nonzero : y ≢ 0
        nonzero = let r = contains-some p v x on in some-nonzero y r.0 (inside-all x y up r.0 r.2)

        go : (not (differs (in_family p c) (in_family q d)) ≡ true) ⊎ (no_cycle p q c d ≡ true) → not (differs (accepting p x) (accepting q x)) ≡ true
        go (inl a) = ap not (ap₂ differs (accepting-is p x) (accepting-is q x)) ∙ a
        go (inr f) =
            absurd (none-at c d v (all-each (no_cycle_at p q c d) (below p.states) f v (mem_below p.states v lt)) nonzero
            (exactly-up c d x y up (through-inside p m v) (is-exactly c d x refl refl)))

    -- ---- the theorem
    pub pairs_decide : same_verdicts p q ≡ pairs_agree p q
    unfolding same_verdicts set_agrees pairs_agree
    pairs_decide = bool-ext (same_verdicts p q) (pairs_agree p q) there back
      where
        there : same_verdicts p q ≡ true → pairs_agree p q ≡ true
        there s = each_all (set_agrees p q) (below (2 ^ p.colours)) (λ c i. each_all (pair_agrees p q c) (below (2 ^ q.colours)) (λ d j. same-pair s c d))

        agree : pairs_agree p q ≡ true → (c d : ℕ) → c < 2 ^ p.colours → d < 2 ^ q.colours → pair_agrees p q c d ≡ true
        agree t c d lc ld =
            all-each (pair_agrees p q c) (below (2 ^ q.colours)) (all-each (set_agrees p q) (below (2 ^ p.colours)) t c (mem_below (2 ^ p.colours) c lc)) d (mem_below (2 ^ q.colours) d ld)

        back : pairs_agree p q ≡ true → same_verdicts p q ≡ true
        back t =
            each_all (λ (x : ℕ). not (differs (accepting p x) (accepting q x))) (cycles_in p (full p))
            (λ x i. pair_same x (cycles-mem p (full p) x i).0 (agree t (colours_of p x) (colours_of q x) (colours-lt p k.legal_p x) (colours-lt q k.legal_q x)))
