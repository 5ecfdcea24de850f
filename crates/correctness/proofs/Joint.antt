-- The two runs side by side: reading letters from a built state (v, l) takes the edges of a path from v, and the leaves, priorities and colours are
-- those of the edges. Refused letters leave both runs where they are. Assumes nothing.
use Prim.Native.Nat.{ℕ, ◌<◌}
use native.Mathlib.Omega.{arith}
use mathlib.Core.Path.{◌≡◌, refl, sym, ap, ap₂, ◌∙◌, subst}
use mathlib.Core.Logic.{◌⊎◌, inl, inr, ◌≢◌}
use mathlib.Core.Bool.{true, false, false≢true}
use mathlib.Core.List.{List, [], ◌∷◌, ◌++◌, map, nil≢cons}
use lib.Dec.{ltb}
use lib.ListN.{length, get_or}
use Rattle.lists.specs.Lists.{any, flat, below}
use Rattle.lists.proofs.Bools.{test, lt-true}
use Rattle.lists.proofs.Lists.{mem_below}
use Rattle.recurrence.specs.Runs.{after, met}
use Rattle.policy.specs.declared.Policy.{Policy}
use Rattle.policy.specs.Policies.{legal, edges, edge_of, target_of, edge_colours}
use Rattle.policy.proofs.Laws.{legal-counts, legal-target, source-edge, edge-lt}
use Rattle.graph.specs.Cycles.{Path}
use Rattle.forest.specs.Forest.{forest}
use Rattle.forest.proofs.Forest.{forest-laws}
use Rattle.automaton.specs.Automaton.{built, state_at, number, start, first_leaf, leaf_after, priority_after, row_target, row_priority}
use Rattle.automaton.proofs.EdgeRuns.{Good, leaf_run, met_run}
use Rattle.automaton.proofs.Leaves.{first_good, leaf-after-good}
use Rattle.automaton.proofs.Tables.{built-good, number_at}
use Rattle.running.specs.declared.Run.{Run}
use Rattle.running.specs.Running.{policy_step, policy_meets, row_of, row_states, row_step, row_meets}
use Rattle.running.proofs.Steps.{policy-moves, policy-stays, row-moves, row-refuses}
use Rattle.correctness.proofs.BuiltRows.{Rows, StandsOver, policy_run, built_run}

-- the run is in the built state (v, l)
pub record In (p : Policy) (r : Run) (v l : ℕ) : Type 0 where
  pub is-built : r.state < length (built p)
  pub over : (state_at p r.state).state ≡ v
  pub leaf_is : (state_at p r.state).leaf ≡ l

-- what reading the letters w from the built state (v, l) does
pub record Read (p : Policy) (targets priorities w : List ℕ) (r : Run) (v l : ℕ) : Type 0 where
  pub taken : List ℕ
  pub path : Path p (below (edges p)) v taken (policy_run p w v)
  pub ends : In p (built_run p targets priorities w r) (policy_run p w v) (leaf_run (forest p) p taken l)
  pub priorities_are : met (row_step p.letters targets priorities) (row_meets p.letters targets priorities) w r ≡ met_run (forest p) p taken l
  pub colours_are : met (policy_step p) (policy_meets p) w v ≡ flat (map (edge_colours p) taken)
  pub some : any (λ (a : ℕ). ltb a p.letters) w ≡ true → taken ≢ []

module _ (p : Policy) (ok : legal p ≡ true) where
  pub in-good : (r : Run) (v l : ℕ) → In p r v l → (v < p.states) × Good (forest p) p v l
  in-good r v l h =
      let g = built-good p (forest-laws p ok) r.state h.is-built in (
        subst (λ (z : ℕ). z < p.states) h.over g.0,
        subst (λ (z : ℕ). Good (forest p) p v z) h.leaf_is (subst (λ (z : ℕ). Good (forest p) p z (state_at p r.state).leaf) h.over g.1),
      )

  -- the numbered state (v, l) is it
  in-number : (r : Run) (v l : ℕ) → v < p.states → Good (forest p) p v l → r.state ≡ number p v l → In p r v l
  in-number r v l lt g e =
      let n = number_at p (forest-laws p ok) v l lt g in
      record {
        is-built = subst (λ (s : ℕ). s < length (built p)) (sym e) n.0;
        over = ap (λ (s : ℕ). (state_at p s).state) e ∙ n.1;
        leaf_is = ap (λ (s : ℕ). (state_at p s).leaf) e ∙ n.2;
      }

  -- the start stands over the initial state
  pub start-stands : StandsOver p (record { state = start p }) p.initial
  unfolding start
  start-stands =
      let n = number_at p (forest-laws p ok) p.initial (first_leaf (forest p) p p.initial) (legal-counts p ok).initial_lt (first_good p (forest p) (forest-laws p ok) p.initial) in
      record { is-built = n.0; over = n.1 }

  module _ (targets priorities : List ℕ) (rows : Rows p targets priorities) where
    abbrev step : Run → ℕ → Run
    step = row_step p.letters targets priorities

    abbrev meets : Run → ℕ → List ℕ
    meets = row_meets p.letters targets priorities

    -- ---- one letter
    moves : (r : Run) (v l a : ℕ) → In p r v l → ltb a p.letters ≡ true
        → In p (step r a) (policy_step p v a) (leaf_after (forest p) p (edge_of p v a) l) × (meets r a ≡ priority_after (forest p) p (edge_of p v a) l ∷ [])
    unfolding row_target row_priority
    moves r v l a h t = (
      in-number (step r a) (policy_step p v a) (leaf_after (forest p) p e l) (subst (λ (z : ℕ). z < p.states) (sym goes) w-lt) (subst (λ (z : ℕ). Good (forest p) p z (leaf_after (forest p) p e l)) (sym goes) w-good)
          (ap (λ (x : Run). x.state) reads.0 ∙ target ∙ ap (λ (z : ℕ). number p z (leaf_after (forest p) p e l)) (sym goes)),
      reads.1 ∙ ap (λ (k : ℕ). k ∷ []) priority,
    )
      where
        e : ℕ
        e = edge_of p v a

        lt : a < p.letters
        lt = lt-true a p.letters t

        e-lt : e < edges p
        e-lt = edge-lt p v a (in-good r v l h).0 lt

        goes : policy_step p v a ≡ target_of p e
        goes = (policy-moves p v a t).0

        w-lt : target_of p e < p.states
        w-lt = legal-target p ok e e-lt

        w-good : Good (forest p) p (target_of p e) (leaf_after (forest p) p e l)
        w-good = leaf-after-good p (forest p) (forest-laws p ok) e e-lt l (subst (λ (z : ℕ). Good (forest p) p z l) (sym (source-edge p ok v a lt)) (in-good r v l h).1)

        target : get_or targets (row_of p.letters r.state a) 0 ≡ number p (target_of p e) (leaf_after (forest p) p e l)
        target = rows.targets_are r.state a h.is-built lt ∙ ap₂ (λ (v l : ℕ). number p (target_of p (edge_of p v a)) (leaf_after (forest p) p (edge_of p v a) l)) h.over h.leaf_is

        priority : get_or priorities (row_of p.letters r.state a) 0 ≡ priority_after (forest p) p e l
        priority = rows.priorities_are r.state a h.is-built lt ∙ ap₂ (λ (v l : ℕ). priority_after (forest p) p (edge_of p v a) l) h.over h.leaf_is

        among : (s : ℕ) → s < length (built p) → s < row_states p.letters targets priorities
        among s k = omega (arith, rows.enough)

        reads : (step r a ≡ record { state = get_or targets (row_of p.letters r.state a) 0 }) × (meets r a ≡ get_or priorities (row_of p.letters r.state a) 0 ∷ [])
        reads = row-moves p.letters targets priorities r a rows.passes (among r.state h.is-built) t
            (among (get_or targets (row_of p.letters r.state a) 0) (subst (λ (s : ℕ). s < length (built p)) (sym target) (number_at p (forest-laws p ok) (target_of p e) (leaf_after (forest p) p e l) w-lt w-good).0))

    stays : (r : Run) (v l a : ℕ) → In p r v l → ltb a p.letters ≡ false → In p (step r a) (policy_step p v a) l
    stays r v l a h f =
        subst (λ (x : Run). In p x (policy_step p v a) l) (sym (row-refuses p.letters targets priorities r a f).0) (subst (λ (z : ℕ). In p r z l) (sym (policy-stays p v a f).0) h)

    -- ---- letters
    pub read : (w : List ℕ) (r : Run) (v l : ℕ) → In p r v l → Read p targets priorities w r v l
    unfolding after met leaf_run met_run
    read [] r v l h = record { taken = []; path = refl; ends = h; priorities_are = refl; colours_are = refl; some = λ t. absurd (false≢true t) }
    read (a ∷ w) r v l h = go (test (ltb a p.letters)) (read w (step r a) (policy_step p v a))
      where
        go : (ltb a p.letters ≡ true) ⊎ (ltb a p.letters ≡ false) → ((l : ℕ) → In p (step r a) (policy_step p v a) l → Read p targets priorities w (step r a) (policy_step p v a) l)
            → Read p targets priorities (a ∷ w) r v l
        go (inl t) ih =
            let m = moves r v l a h t in
            let i = ih (leaf_after (forest p) p (edge_of p v a) l) m.0 in
            let lt = lt-true a p.letters t in
            record {
              taken = edge_of p v a ∷ i.taken;
              path = (
                source-edge p ok v a lt,
                mem_below (edges p) (edge_of p v a) (edge-lt p v a (in-good r v l h).0 lt),
                subst (λ (z : ℕ). Path p (below (edges p)) z i.taken (policy_run p w (policy_step p v a))) (policy-moves p v a t).0 i.path,
              );
              ends = i.ends;
              priorities_are = ap₂ (λ (x y : List ℕ). x ++ y) m.1 i.priorities_are;
              colours_are = ap₂ (λ (x y : List ℕ). x ++ y) (policy-moves p v a t).1 i.colours_are;
              some = λ u e. nil≢cons (sym e);
            }
        go (inr f) ih =
            let i = ih l (stays r v l a h f) in
            record {
              taken = i.taken;
              path = subst (λ (z : ℕ). Path p (below (edges p)) z i.taken (policy_run p w (policy_step p v a))) (policy-stays p v a f).0 i.path;
              ends = i.ends;
              priorities_are = ap₂ (λ (x y : List ℕ). x ++ y) (row-refuses p.letters targets priorities r a f).1 i.priorities_are;
              colours_are = ap₂ (λ (x y : List ℕ). x ++ y) (policy-stays p v a f).1 i.colours_are;
              some = λ u. i.some (rw f at u);
            }

    -- after any letters the built state stands over the policy's state
    pub stands_after : (w : List ℕ) (r : Run) (v : ℕ) → StandsOver p r v → StandsOver p (built_run p targets priorities w r) (policy_run p w v)
    stands_after w r v h =
        let e = (read w r v (state_at p r.state).leaf (record { is-built = h.is-built; over = h.over; leaf_is = refl })).ends in
        record { is-built = e.is-built; over = e.over }
