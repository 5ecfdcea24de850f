-- What the stages after the nodes rest on: the tables that one hands to the next, and what they answer and leave. Assumes nothing.
use Prim.Native.Nat.{ℕ, ◌*◌, ◌≤◌, min}
use native.Mathlib.Omega.{arith}
use native.Mathlib.Nat.{mul_comm, mul-le-mul_right}
use mathlib.Core.Path.{◌≡◌, refl, sym, ap₂, ◌∙◌, subst}
use mathlib.Core.Bool.{Bool, true, false, cond}
use mathlib.Core.List.{List, [], ◌∷◌}
use lib.ListN.{length}
use lib.Seq.{sets}
use Rattle.lists.proofs.Bools.{le-true}
use Rattle.tables.specs.Tables.{padded, zeros, Column, places}
use Rattle.tables.proofs.Columns.{column-padded, column-sets}
use Rattle.policy.specs.declared.Policy.{Policy}
use Rattle.policy.specs.Policies.{legal}
use Rattle.policy.proofs.Laws.{legal-counts}
use Rattle.forest.specs.Forest.{forest}
use Rattle.automaton.specs.Automaton.{built, start, row_targets, row_priorities, state_leaves, built_fit}
use Rattle.automaton.specs.Stages.{node_ends, state_starts}
use Rattle.automaton.proofs.Columns.{length-ends, length-leaves, length-starts}
use Rattle.states.specs.StateTables.{StatesFilled}
use Rattle.std.proofs.Common.{Option, Some, None}
use Rattle.filling.specs.declared.Building.{Building}
use Rattle.filling.specs.Filling.{Sized, building_of, Builds}

abbrev building : ℕ → ℕ → Building
building c a = record { states = c; start = a }

some-none : {n : ℕ} → Some n ≡ None → ⊥
some-none e = cc

-- ---- the ends
pub ends-column : (p : Policy) (ends₀ : List ℕ) {ends : List ℕ} {count : ℕ} → count ≡ length (forest p) → count ≤ length ends₀ → ends ≡ sets ends₀ 0 (node_ends p) → Column (node_ends p) ends
ends-column p ends₀ e h is = subst (Column (node_ends p)) (sym is) (column-sets ends₀ (node_ends p) (omega (arith, length-ends p)))

module _ {p : Policy} {s₀ l₀ t₀ k₀ : List ℕ} (z : Sized p s₀ l₀ t₀ k₀) where
  -- ---- the states written
  module _ {starts₀ s l starts : List ℕ} {answer : Option ℕ} (w : StatesFilled p s₀ l₀ starts₀ answer s l starts) where
    -- where they fit
    module _ {count : ℕ} (f : answer ≡ Some count) where
      all-fit : (b : Bool) → answer ≡ cond b (Some (length (built p))) None → (b ≡ true) × (count ≡ length (built p))
      all-fit true e = (refl, cc)
      all-fit false e = absurd (some-none (sym f ∙ e))

      fits-so : built_fit p s₀ ≡ true
      fits-so = (all-fit (built_fit p s₀) w.answer_is).0

      pub count-is : count ≡ length (built p)
      count-is = (all-fit (built_fit p s₀) w.answer_is).1

      fit : length (built p) ≤ min (length s₀) 65535
      unfolding built_fit places
      fit = le-true (length (built p)) (min (length s₀) 65535) fits-so

      pub built-few : length (built p) ≤ 65535
      built-few = let h = fit in omega arith

      pub leaves-column : Column (state_leaves p) l
      leaves-column =
          let h = fit in
          subst (Column (state_leaves p)) (sym (rw fits-so at w.leaves_are)) (column-padded (length l₀) (state_leaves p) (omega (arith, length-leaves p, z.leaves_long)))

      pub starts-column : legal p ≡ true → length starts₀ ≡ 17 → Column (state_starts p) starts
      starts-column ok e = subst (Column (state_starts p)) (sym w.starts_are) (column-sets starts₀ (state_starts p) (omega (arith, length-starts p, (legal-counts p ok).states_few)))

      pub rows_fit : (p.letters * length (built p) ≤ length t₀) × (p.letters * length (built p) ≤ length k₀)
      rows_fit =
          let g = fit in
          let q : length (built p) ≤ length s₀ = omega arith in
          let h = mul-le-mul_right p.letters q in
          (omega (arith, h, mul_comm p.letters (length (built p)), mul_comm p.letters (length s₀), z.targets_long), omega (arith, h, mul_comm p.letters (length (built p)), mul_comm p.letters (length s₀), z.priorities_long))

      pub built-whole : {t k : List ℕ} {at : ℕ} → t ≡ padded (length t₀) (row_targets p) → k ≡ padded (length k₀) (row_priorities p) → at ≡ start p → Builds p s₀ l₀ t₀ k₀ (Some (record { states = count; start = at })) s l t k
      unfolding building_of
      built-whole et ek ea = record {
        answer_is = rw fits-so (ap₂ (λ (c a : ℕ). Some (building c a)) count-is ea);
        number_is = rw fits-so refl;
        counts_are = rw fits-so (ap₂ (λ (c a : ℕ). c ∷ a ∷ []) count-is ea);
        sources_are = w.sources_are;
        leaves_are = w.leaves_are;
        targets_are = rw fits-so et;
        priorities_are = rw fits-so ek;
      }

    -- where they do not, and the row tables are cleared
    pub built-none : answer ≡ None → {t k : List ℕ} → t ≡ zeros t₀ → k ≡ zeros k₀ → Builds p s₀ l₀ t₀ k₀ None s l t k
    unfolding building_of
    built-none f et ek =
        let fits_not : built_fit p s₀ ≡ false = go (built_fit p s₀) w.answer_is in
        record { answer_is = rw fits_not refl; number_is = rw fits_not refl; counts_are = rw fits_not refl; sources_are = w.sources_are; leaves_are = w.leaves_are; targets_are = rw fits_not et; priorities_are = rw fits_not ek }
      where
        go : (b : Bool) → answer ≡ cond b (Some (length (built p))) None → b ≡ false
        go true e = absurd (some-none (sym e ∙ f))
        go false e = refl
