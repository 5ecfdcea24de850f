-- The states over one policy state stand side by side, by ascending leaf: where they begin and end, and which of them has a leaf. Assumes nothing.
use Prim.Native.Nat.{ℕ, zero, suc, ◌+◌, ◌≤◌, ◌<◌}
use native.Mathlib.Omega.{arith}
use native.Mathlib.Nat.{le_refl}
use native.Mathlib.Decide.{dec_lt}
use mathlib.Core.Path.{◌≡◌, refl, sym, ap, ◌∙◌, subst}
use mathlib.Core.Logic.{◌⊎◌, inl, inr, ◌↔◌}
use mathlib.Core.Bool.{Bool, true, false, true≢false}
use mathlib.Core.List.{List, [], ◌∷◌, Memᴰ}
use lib.Dec.{ltb}
use lib.ListN.{length, get_or}
use borrow.Author.Tests.{lt-ltb}
use Rattle.lists.specs.Lists.{filter, first_or}
use Rattle.lists.proofs.Bools.{test, lt-true}
use Rattle.lists.proofs.Lists.{filter-mem, mem-at, first_le}
use Rattle.lists.proofs.Filters.{filter-few}
use Rattle.policy.specs.declared.Policy.{Policy}
use Rattle.forest.specs.Forest.{forest}
use Rattle.forest.specs.Laws.{ForestLaws}
use Rattle.automaton.specs.Automaton.{Built, leaves, first_leaf, built, state_at, number}
use Rattle.automaton.specs.Stages.{first_over}
use Rattle.automaton.proofs.EdgeRuns.{Good}
use Rattle.automaton.proofs.Leaves.{leaf-contains, leaf-of, of-leaf, leaves-ascend, first_good}
use Rattle.automaton.proofs.Tables.{Earlier, built-ordered, built-good, number_at}

-- a test that each entry passes where a later one does: those that pass are the first ones
passing : (t : Built → Bool) (d : Built) (l : List Built) → ((i j : ℕ) → i < j → j < length l → t (get_or l j d) ≡ true → t (get_or l i d) ≡ true)
    → (i : ℕ) → i < length l → (t (get_or l i d) ≡ true) ↔ (i < length (filter t l))
passing t d [] h i q = absurd (omega arith)
passing t d (x ∷ l) h i q = go (test (t x)) (passing t d l (λ i j a b. h (suc i) (suc j) (omega arith) (omega arith))) i q
  where
    none : t x ≡ false → (ys : List Built) → filter t l ≡ ys → length ys ≡ 0
    none u [] e = refl
    none u (y ∷ ys) e =
        let r = filter-mem t l y (subst (Memᴰ y) (sym e) (Memᴰ.head refl)) in
        let k = mem-at l d y r.0 in
        absurd (true≢false (sym (h 0 (suc k.0) (omega arith) (omega (arith, k.1)) (ap t k.2 ∙ r.1)) ∙ u))

    go : (t x ≡ true) ⊎ (t x ≡ false) → ((i : ℕ) → i < length l → (t (get_or l i d) ≡ true) ↔ (i < length (filter t l))) → (i : ℕ) → i < length (x ∷ l) → (t (get_or (x ∷ l) i d) ≡ true) ↔ (i < length (filter t (x ∷ l)))
    go (inl u) ih zero q = rw u (λ z. omega arith, λ z. refl)
    go (inl u) ih (suc i) q = rw u (λ z. omega (arith, (ih i (omega arith)).0 z), λ z. (ih i (omega arith)).1 (omega arith))
    go (inr u) ih zero q = rw u (λ z. absurd (true≢false (sym z)), λ z. absurd (omega (arith, none u (filter t l) refl)))
    go (inr u) ih (suc i) q = rw u (λ z. absurd (true≢false (sym (h 0 (suc i) (omega arith) q z) ∙ u)), λ z. absurd (omega (arith, none u (filter t l) refl)))

module _ (p : Policy) where
  state_lt : (v s : ℕ) → s < length (built p) → (ltb (state_at p s).state v ≡ true) ↔ (s < first_over p v)
  unfolding state_at first_over
  state_lt v s h = passing (λ (b : Built). ltb b.state v) (record { state = 0; leaf = 0 }) (built p) (λ i j a b u. lt-ltb (state_at p i).state v (mono i j (lt-true (state_at p j).state v u) (built-ordered p i j a b))) s h
    where
      mono : (i j : ℕ) → (state_at p j).state < v → Earlier (state_at p i) (state_at p j) → (state_at p i).state < v
      mono i j q (inl r) = omega arith
      mono i j q (inr r) = omega (arith, r.0)

  -- the states over policy states below v are the first ones
  pub over_below : (v s : ℕ) → s < length (built p) → s < first_over p v → (state_at p s).state < v
  over_below v s h q = lt-true (state_at p s).state v ((state_lt v s h).1 q)

  pub below-over : (v s : ℕ) → s < length (built p) → (state_at p s).state < v → s < first_over p v
  below-over v s h q = (state_lt v s h).0 (lt-ltb (state_at p s).state v q)

  pub over-le : (v : ℕ) → first_over p v ≤ length (built p)
  unfolding first_over
  over-le v = filter-few (λ (b : Built). ltb b.state v) (built p)

  pub over-mono : (v : ℕ) → first_over p v ≤ first_over p (v + 1)
  over-mono v = go (dec_lt (first_over p (v + 1)) (first_over p v))
    where
      go : Dec (first_over p (v + 1) < first_over p v) → first_over p v ≤ first_over p (v + 1)
      go (yes q) =
          let h : first_over p (v + 1) < length (built p) = omega (arith, over-le v) in
          absurd (omega (arith, below-over (v + 1) (first_over p (v + 1)) h (omega (arith, over_below v (first_over p (v + 1)) h q))))
      go (no q) = omega arith

  -- the states over v are those from the first over v up to the first over v + 1
  pub in-run : (v s : ℕ) → first_over p v ≤ s → s < first_over p (v + 1) → (s < length (built p)) × ((state_at p s).state ≡ v)
  in-run v s a b =
      let h : s < length (built p) = omega (arith, over-le (v + 1)) in
      (h, go (over_below (v + 1) s h b) (dec_lt (state_at p s).state v))
    where
      go : (state_at p s).state < v + 1 → Dec ((state_at p s).state < v) → (state_at p s).state ≡ v
      go q (yes r) = absurd (omega (arith, below-over v s (omega (arith, over-le (v + 1))) r))
      go q (no r) = omega arith

  pub run-has : (v s : ℕ) → s < length (built p) → (state_at p s).state ≡ v → (first_over p v ≤ s) × (s < first_over p (v + 1))
  run-has v s h e = (go (dec_lt s (first_over p v)), below-over (v + 1) s h (omega (arith, e)))
    where
      go : Dec (s < first_over p v) → first_over p v ≤ s
      go (yes q) = absurd (omega (arith, over_below v s h q, e))
      go (no q) = omega arith

  -- in a run leaves ascend
  pub run-ascends : (v i j : ℕ) → first_over p v ≤ i → i < j → j < first_over p (v + 1) → (state_at p i).leaf < (state_at p j).leaf
  run-ascends v i j a b c = go (built-ordered p i j b (in-run v j (omega arith) c).0) (in-run v i a (omega arith)).1 (in-run v j (omega arith) c).1
    where
      go : Earlier (state_at p i) (state_at p j) → (state_at p i).state ≡ v → (state_at p j).state ≡ v → (state_at p i).leaf < (state_at p j).leaf
      go (inl q) x y = absurd (omega arith)
      go (inr q) x y = q.1

  module _ (laws : ForestLaws p (forest p)) (w : ℕ) (hw : w < p.states) where
    -- where w has a leaf, each state over w has one
    pub over-leaf : (z : ℕ) → Memᴰ z (leaves (forest p) p w) → (s : ℕ) → first_over p w ≤ s → s < first_over p (w + 1) → Memᴰ (state_at p s).leaf (leaves (forest p) p w)
    over-leaf z m s a b =
        let r = in-run w s a b in
        go (subst (λ (v : ℕ). Good (forest p) p v (state_at p s).leaf) r.1 (built-good p laws s r.0).1)
      where
        go : Good (forest p) p w (state_at p s).leaf → Memᴰ (state_at p s).leaf (leaves (forest p) p w)
        go (inl g) = of-leaf (forest p) p w (state_at p s).leaf g.0 g.1
        go (inr g) = let y = leaf-of (forest p) p w z m in absurd (true≢false (sym (leaf-contains (forest p) p w z y.1) ∙ g.1 z y.0))

    -- the state (w, z) stands in the run of w
    pub number-over : (z : ℕ) → Good (forest p) p w z → (first_over p w ≤ number p w z) × (number p w z < first_over p (w + 1)) × ((state_at p (number p w z)).leaf ≡ z)
    number-over z g =
        let r = number_at p laws w z hw g in
        let q = run-has w (number p w z) r.0 r.1 in
        (q.0, q.1, r.2)

    -- no leaf of w comes before its first
    first-least : (z : ℕ) → Good (forest p) p w z → first_leaf (forest p) p w ≤ z
    unfolding first_leaf
    first-least z (inl g) = first_le 65535 (leaves (forest p) p w) (leaves-ascend (forest p) p w) z (of-leaf (forest p) p w z g.0 g.1)
    first-least z (inr g) = omega (arith, g.0, no-leaf (leaves (forest p) p w) refl)
      where
        no-leaf : (l : List ℕ) → leaves (forest p) p w ≡ l → first_or 65535 l ≤ 65535
        no-leaf [] e = le_refl 65535
        no-leaf (x ∷ l) e =
            let y = leaf-of (forest p) p w x (subst (Memᴰ x) (sym e) (Memᴰ.head refl)) in
            absurd (true≢false (sym (leaf-contains (forest p) p w x y.1) ∙ g.1 x y.0))

    -- the first state over w has its first leaf
    pub first-number : number p w (first_leaf (forest p) p w) ≡ first_over p w
    first-number = go (dec_lt r k)
      where
        r : ℕ
        r = first_over p w

        k : ℕ
        k = number p w (first_leaf (forest p) p w)

        at : (r ≤ k) × (k < first_over p (w + 1)) × ((state_at p k).leaf ≡ first_leaf (forest p) p w)
        at = number-over (first_leaf (forest p) p w) (first_good p (forest p) laws w)

        go : Dec (r < k) → k ≡ r
        go (yes q) =
            let o = in-run w r (le_refl r) (omega (arith, at.1)) in
            absurd (omega (arith, at.2, run-ascends w r k (le_refl r) q at.1, first-least (state_at p r).leaf (subst (λ (v : ℕ). Good (forest p) p v (state_at p r).leaf) o.1 (built-good p laws r o.0).1)))
        go (no q) = omega (arith, at.0)
