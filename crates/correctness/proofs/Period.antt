-- The joint run comes back: among finitely many built states one is met twice at the rounds' ends. The edges of the rounds between are then a closed
-- path with a closed run of leaves, what recurs is what they meet, and their least priority decides as their set of colours does. Assumes nothing.
use Prim.Native.Nat.{ℕ, zero, suc, ◌+◌, ◌-◌, ◌≤◌, ◌<◌}
use native.Mathlib.Omega.{arith}
use mathlib.Core.Path.{◌≡◌, refl, sym, ap, ◌∙◌, subst}
use mathlib.Core.Logic.{◌↔◌, ◌≢◌}
use mathlib.Core.Bool.{true}
use mathlib.Core.List.Memᴰ
use mathlib.Core.List.{List, [], ◌∷◌, ◌++◌, map, Memᴰ}
use lib.Dec.{ltb}
use lib.ListN.{length}
use Rattle.lists.specs.Lists.{any, flat, below}
use Rattle.lists.proofs.Lists.{any_some, some-any, below-lt, flat-mem, mem-flat}
use Rattle.masks.specs.Masks.{has, set_of}
use Rattle.recurrence.specs.Iterates.{iter}
use Rattle.recurrence.specs.Runs.{times, met}
use Rattle.recurrence.proofs.Recurs.{RecursInRounds}
use Rattle.recurrence.proofs.Pigeon.{pigeon}
use Rattle.recurrence.proofs.Runs.{after-times, period-recurs}
use Rattle.masks.proofs.SetOf.{set-has}
use Rattle.policy.specs.declared.Policy.{Policy}
use Rattle.policy.specs.Policies.{legal, edges, edge_colours, colours_of, in_family}
use Rattle.policy.proofs.Laws.{legal-target, colours_some, some-colours, accepting-is}
use Rattle.graph.specs.Cycles.{Path}
use Rattle.graph.proofs.Paths.{path-mem}
use Rattle.forest.specs.Forest.{even, forest}
use Rattle.forest.proofs.Forest.{forest-laws}
use Rattle.automaton.specs.Automaton.{built, state_at}
use Rattle.automaton.proofs.EdgeRuns.{Good, leaf_run, met_run, Least}
use Rattle.automaton.proofs.Closed.{closed_run}
use Rattle.running.specs.declared.Run.{Run}
use Rattle.running.specs.Running.{policy_step, policy_meets, row_step, row_meets}
use Rattle.correctness.proofs.BuiltRows.{Rows, StandsOver, policy_run, built_run}
use Rattle.correctness.proofs.Joint.{In, Read, in-good, read, stands_after}

-- what the two runs meet
abbrev pub policy_met : Policy → List ℕ → ℕ → List ℕ
policy_met p w v = met (policy_step p) (policy_meets p) w v

module _ (p : Policy) (targets priorities : List ℕ) where
  abbrev pub built_met : List ℕ → Run → List ℕ
  built_met w r = met (row_step p.letters targets priorities) (row_meets p.letters targets priorities) w r

  -- on the loop from here a least priority and a set of colours recur, and the one is even exactly if the other is in the family
  pub record Settled (loop : List ℕ) (r : Run) (v : ℕ) : Type 0 where
    pub least : ℕ
    pub least_recurs : RecursInRounds (built_run p targets priorities loop) (built_met loop) r least
    pub least_lowest : (k : ℕ) → RecursInRounds (built_run p targets priorities loop) (built_met loop) r k → least ≤ k
    pub colours : ℕ
    pub colours_recur : (c : ℕ) → (has colours c ≡ true) ↔ RecursInRounds (policy_run p loop) (policy_met p loop) v c
    pub verdict : even least ≡ in_family p colours

module _ (p : Policy) (ok : legal p ≡ true) where
  -- the verdict on a closed run, for a list that is not empty
  closed : (v l : ℕ) (es : List ℕ) → es ≢ [] → Path p (below (edges p)) v es v → Good (forest p) p v l → leaf_run (forest p) p es l ≡ l → Least (forest p) p es l (set_of es)
  closed v l [] some path good back = absurd (some refl)
  closed v l (e ∷ es) some path good back =
      closed_run p (forest p) (forest-laws p ok) (legal-target p ok) v e es l path good back (set_of (e ∷ es))
      (set-has (e ∷ es))

  module _ (targets priorities : List ℕ) (rows : Rows p targets priorities) (loop : List ℕ) (some : any (λ (a : ℕ). ltb a p.letters) loop ≡ true) (r : Run) (v : ℕ) (stands : StandsOver p r v) where
    abbrev run_end : ℕ → Run
    run_end n = iter (built_run p targets priorities loop) n r

    abbrev state_end : ℕ → ℕ
    state_end n = iter (policy_run p loop) n v

    stands-end : (n : ℕ) → StandsOver p (run_end n) (state_end n)
    unfolding iter
    stands-end zero = stands
    stands-end (suc n) = stands_after p ok targets priorities rows loop (run_end n) (state_end n) (stands-end n)

    repeats : (i : ℕ) × (k : ℕ) × (run_end i ≡ run_end (i + suc k))
    repeats =
        let q = pigeon (length (built p)) (λ n. (run_end n).state) (λ n h. (stands-end n).is-built) in
        let e : q.1 ≡ q.0 + suc (q.1 - suc q.0) = omega (arith, q.2) in
        (q.0, q.1 - suc q.0, subst (λ (n : ℕ). run_end q.0 ≡ run_end n) e (ap {B = Run} (λ (s : ℕ). record { state = s }) q.4))

    -- ---- one way round
    module _ (i k : ℕ) (back : run_end i ≡ run_end (i + suc k)) where
      leaf : ℕ
      leaf = (state_at p (run_end i).state).leaf

      here : In p (run_end i) (state_end i) leaf
      unfolding leaf
      here = record { is-built = (stands-end i).is-built; over = (stands-end i).over; leaf_is = refl }

      way : Read p targets priorities (times (suc k) loop) (run_end i) (state_end i) leaf
      way = read p ok targets priorities rows (times (suc k) loop) (run_end i) (state_end i) leaf here

      state-back : state_end i ≡ state_end (i + suc k)
      state-back = sym (stands-end i).over ∙ ap (λ (x : Run). (state_at p x.state).state) back ∙ (stands-end (i + suc k)).over

      run-end : built_run p targets priorities (times (suc k) loop) (run_end i) ≡ run_end i
      run-end = after-times (row_step p.letters targets priorities) (row_meets p.letters targets priorities) loop r i (suc k) ∙ sym back

      state-end : policy_run p (times (suc k) loop) (state_end i) ≡ state_end i
      state-end = after-times (policy_step p) (policy_meets p) loop v i (suc k) ∙ sym state-back

      path : Path p (below (edges p)) (state_end i) way.taken (state_end i)
      path = subst (Path p (below (edges p)) (state_end i) way.taken) state-end way.path

      leaf-back : leaf_run (forest p) p way.taken leaf ≡ leaf
      unfolding leaf
      leaf-back = sym way.ends.leaf_is ∙ ap (λ (x : Run). (state_at p x.state).leaf) run-end

      taken-some : way.taken ≢ []
      unfolding times
      taken-some =
          let a = any_some (λ (a : ℕ). ltb a p.letters) loop some in
          way.some (some-any (λ (a : ℕ). ltb a p.letters) (loop ++ times k loop) a.0 (Memᴰ.append_left (times k loop) a.1) a.2)

      X : ℕ
      X = set_of way.taken

      taken-lt : (e : ℕ) → Memᴰ e way.taken → e < edges p
      taken-lt e m = below-lt (edges p) e (path-mem p (below (edges p)) (state_end i) way.taken (state_end i) path e m)

      decided : Least (forest p) p way.taken leaf X
      unfolding X
      decided = closed (state_end i) leaf way.taken taken-some path (in-good p ok (run_end i) (state_end i) leaf here).1 leaf-back

      priority-recurs : (k' : ℕ) → RecursInRounds (built_run p targets priorities loop) (built_met p targets priorities loop) r k' ↔ Memᴰ k' (met_run (forest p) p way.taken leaf)
      priority-recurs k' =
          let q = period-recurs (row_step p.letters targets priorities) (row_meets p.letters targets priorities) loop r i (suc k) (omega arith) back k' in
          (λ h. subst (Memᴰ k') way.priorities_are (q.0 h), λ m. q.1 (subst (Memᴰ k') (sym way.priorities_are) m))

      colour-recurs : (c : ℕ) → RecursInRounds (policy_run p loop) (policy_met p loop) v c ↔ Memᴰ c (flat (map (edge_colours p) way.taken))
      colour-recurs c =
          let q = period-recurs (policy_step p) (policy_meets p) loop v i (suc k) (omega arith) state-back c in
          (λ h. subst (Memᴰ c) way.colours_are (q.0 h), λ m. q.1 (subst (Memᴰ c) (sym way.colours_are) m))

      exact : (e : ℕ) → (has X e ≡ true) ↔ Memᴰ e way.taken
      unfolding X
      exact e = set-has way.taken e

      colours_are : (c : ℕ) → (has (colours_of p X) c ≡ true) ↔ Memᴰ c (flat (map (edge_colours p) way.taken))
      colours_are c = (
        λ t. let e = colours_some p X c t in mem-flat (edge_colours p) way.taken e.0 c ((exact e.0).0 e.2) e.3,
        λ m. let e = flat-mem (edge_colours p) way.taken c m in some-colours p X e.0 c (taken-lt e.0 e.1) ((exact e.0).1 e.1) e.2,
      )

      one_way : Settled p targets priorities loop r v
      one_way = record {
        least = decided.least;
        least_recurs = (priority-recurs decided.least).1 decided.is_met;
        least_lowest = λ n h. decided.lowest n ((priority-recurs n).0 h);
        colours = colours_of p X;
        colours_recur = λ c. (λ t. (colour-recurs c).1 ((colours_are c).0 t), λ h. (colours_are c).1 ((colour-recurs c).0 h));
        verdict = decided.verdict ∙ accepting-is p X;
      }

    pub settled : Settled p targets priorities loop r v
    settled = one_way repeats.0 repeats.1 repeats.2
