-- The states in turn: v is the lowest state of the largest cycle through it exactly if no such cycle of a lower state covers v. Assumes nothing.
use Prim.Native.Nat.{ℕ, zero, suc, ◌+◌, ◌≤◌, ◌<◌}
use native.Mathlib.Omega.{arith}
use native.Mathlib.Numerals.{add-one}
use native.Mathlib.Decide.{ℕ_discrete}
use mathlib.Core.Path.{◌≡◌, refl, sym, ap, ◌∙◌, subst}
use mathlib.Core.Logic.{◌⊎◌, inl, inr, ◌≢◌}
use mathlib.Core.Bool.{Bool, true, false, ◌||◌, cond, true≢false, false≢true}
use lib.Bits.{bit_or}
use Rattle.lists.proofs.Bools.{test, or_cases, or_left, or_right}
use Rattle.masks.specs.Masks.{has}
use Rattle.masks.proofs.Bits.{has-or, has-none}
use Rattle.masks.proofs.Members.{some-nonzero}
use Rattle.policy.specs.declared.Policy.{Policy}
use Rattle.policy.specs.Policies.{edges, source, legal}
use Rattle.policy.proofs.Laws.{legal-target}
use Rattle.graph.specs.Cycles.{contains}
use Rattle.graph.specs.Through.{cycle_through}
use Rattle.graph.proofs.Cycles.{Targets, contains-some, some-contains}
use Rattle.graph.proofs.Through.{through-cycle, through_same}
use Rattle.components.specs.Components.{lowest_is}
use Rattle.components.specs.Finding.{lowest_cycle, covered}
use Rattle.components.proofs.Components.{lowest-some, some-lowest}

module _ (p : Policy) (lawful : legal p ≡ true) where
  targets : Targets p
  targets e l = legal-target p lawful e l

  -- ---- the cycles of lower states
  module _ (m : ℕ) where
    pub lowest-is : (v : ℕ) → lowest_is p v (cycle_through p m v) ≡ true → lowest_cycle p m v ≡ cycle_through p m v
    unfolding lowest_cycle
    lowest-is v t = rw t refl

    lowest-not : (v : ℕ) → lowest_is p v (cycle_through p m v) ≡ false → lowest_cycle p m v ≡ 0
    unfolding lowest_cycle
    lowest-not v f = rw f refl

    pub cycle-none : (v : ℕ) → cycle_through p m v ≡ 0 → lowest_cycle p m v ≡ 0
    unfolding lowest_cycle
    cycle-none v z = go (lowest_is p v (cycle_through p m v))
      where
        go : (b : Bool) → cond b (cycle_through p m v) 0 ≡ 0
        go true = z
        go false = refl

    -- an edge of v's is one of the largest cycle through v, which has v as its lowest state
    lowest-has : (v e : ℕ) → has (lowest_cycle p m v) e ≡ true → (lowest_is p v (cycle_through p m v) ≡ true) × (has (cycle_through p m v) e ≡ true)
    lowest-has v e h = go (test (lowest_is p v (cycle_through p m v)))
      where
        go : (lowest_is p v (cycle_through p m v) ≡ true) ⊎ (lowest_is p v (cycle_through p m v) ≡ false) → (lowest_is p v (cycle_through p m v) ≡ true) × (has (cycle_through p m v) e ≡ true)
        go (inl t) = (t, ap (λ (x : ℕ). has x e) (sym (lowest-is v t)) ∙ h)
        go (inr f) = absurd (false≢true (sym (has-none e) ∙ ap (λ (x : ℕ). has x e) (sym (lowest-not v f)) ∙ h))

    covered-has : (v e : ℕ) → has (covered p m v) e ≡ true → (u : ℕ) × (u < v) × (has (lowest_cycle p m u) e ≡ true)
    unfolding covered
    covered-has zero e h = absurd (false≢true (sym (has-none e) ∙ h))
    covered-has (suc v) e h = go (or_cases (has (covered p m v) e) (has (lowest_cycle p m v) e) (sym (has-or e (covered p m v) (lowest_cycle p m v)) ∙ h)) (covered-has v e)
      where
        go : (has (covered p m v) e ≡ true) ⊎ (has (lowest_cycle p m v) e ≡ true) → (has (covered p m v) e ≡ true → (u : ℕ) × (u < v) × (has (lowest_cycle p m u) e ≡ true)) → (u : ℕ) × (u < suc v) × (has (lowest_cycle p m u) e ≡ true)
        go (inl t) ih = let r = ih t in (r.0, omega (arith, r.1), r.2)
        go (inr t) ih = (v, omega arith, t)

    has-covered : (v u e : ℕ) → u < v → has (lowest_cycle p m u) e ≡ true → has (covered p m v) e ≡ true
    unfolding covered
    has-covered zero u e l h = absurd (omega arith)
    has-covered (suc v) u e l h = has-or e (covered p m v) (lowest_cycle p m v) ∙ go (ℕ_discrete u v) (has-covered v u e)
      where
        go : Dec (u ≡ v) → (u < v → has (lowest_cycle p m u) e ≡ true → has (covered p m v) e ≡ true) → has (covered p m v) e || has (lowest_cycle p m v) e ≡ true
        go (yes q) ih = or_right (has (covered p m v) e) (has (lowest_cycle p m v) e) (ap (λ (z : ℕ). has (lowest_cycle p m z) e) (sym q) ∙ h)
        go (no q) ih = or_left (has (covered p m v) e) (has (lowest_cycle p m v) e) (ih (omega arith) h)

    -- a covered state is not the lowest
    covered-not : (v : ℕ) → v < p.states → contains p v (covered p m v) ≡ true → lowest_is p v (cycle_through p m v) ≡ false
    covered-not v l on = go (test (lowest_is p v (cycle_through p m v)))
      where
        r : (e : ℕ) × (e < edges p) × (has (covered p m v) e ≡ true) × (source p e ≡ v)
        r = contains-some p v (covered p m v) on

        s : (u : ℕ) × (u < v) × (has (lowest_cycle p m u) r.0 ≡ true)
        s = covered-has v r.0 r.2

        u : ℕ
        u = s.0

        lu : u < p.states
        lu = omega (arith, s.1)

        t : has (cycle_through p m u) r.0 ≡ true
        t = (lowest-has u r.0 s.2).1

        same : cycle_through p m v ≡ cycle_through p m u
        same = through_same p targets m u v lu (some-contains p v (cycle_through p m u) r.0 r.1 t r.3)

        with-u : contains p u (cycle_through p m v) ≡ true
        with-u = ap (contains p u) same ∙ (through-cycle p targets m u lu (some-nonzero (cycle_through p m u) r.0 t)).1

        go : (lowest_is p v (cycle_through p m v) ≡ true) ⊎ (lowest_is p v (cycle_through p m v) ≡ false) → lowest_is p v (cycle_through p m v) ≡ false
        go (inl k) = absurd (omega (arith, s.1, (lowest-some p v (cycle_through p m v) k).1 u with-u))
        go (inr f) = f

    -- one that is not covered is the lowest, if it is on a cycle
    pub open-lowest : (v : ℕ) → v < p.states → contains p v (covered p m v) ≡ false → cycle_through p m v ≢ 0 → lowest_is p v (cycle_through p m v) ≡ true
    open-lowest v l off nz = go (ℕ_discrete r.0 v)
      where
        x : ℕ
        x = cycle_through p m v

        on : contains p v x ≡ true
        on = (through-cycle p targets m v l nz).1

        r : (u : ℕ) × (contains p u x ≡ true) × (lowest_is p u x ≡ true)
        r = some-lowest p v x on

        most : r.0 ≤ v
        most = (lowest-some p r.0 x r.2).1 v on

        same : cycle_through p m r.0 ≡ x
        same = through_same p targets m v r.0 l r.1

        its : lowest_cycle p m r.0 ≡ x
        its = lowest-is r.0 (ap (lowest_is p r.0) same ∙ r.2) ∙ same

        e : (e : ℕ) × (e < edges p) × (has x e ≡ true) × (source p e ≡ v)
        e = contains-some p v x on

        go : Dec (r.0 ≡ v) → lowest_is p v x ≡ true
        go (yes q) = subst (λ (u : ℕ). lowest_is p u x ≡ true) q r.2
        go (no q) =
            absurd (true≢false (sym (some-contains p v (covered p m v) e.0 e.1 (has-covered v r.0 e.0 (omega (arith, most)) (ap (λ (y : ℕ). has y e.0) its ∙ e.2)) e.3) ∙ off))

    pub shut-cycle : (v : ℕ) → v < p.states → contains p v (covered p m v) ≡ true → 0 ≡ lowest_cycle p m v
    shut-cycle v l on = sym (lowest-not v (covered-not v l on))

    pub covered_none : covered p m 0 ≡ 0
    unfolding covered
    covered_none = refl

    pub covered_next : (v x : ℕ) → x ≡ lowest_cycle p m v → covered p m (v + 1) ≡ bit_or (covered p m v) x
    unfolding covered
    covered_next v x e = rw (e, add-one v) refl
