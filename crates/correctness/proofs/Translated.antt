-- What a call of translating that succeeded has said: the policy is legal, the counts and the start are the defined ones, the source column has the policy's state under each built state,
-- a beginning of the row tables is rows, and there is one. Assumes nothing.
use Prim.Native.Nat.{ℕ, ◌-◌, ◌*◌, ◌/◌, ◌≤◌, ◌<◌, min}
use native.Mathlib.Omega.{arith}
use native.Mathlib.Nat.{div-lt_iff_lt-mul}
use native.Mathlib.Decide.{dec_le}
use mathlib.Core.Path.{◌≡◌, refl, sym, ap, ◌∙◌, subst}
use mathlib.Core.Bool.{Bool, true, false, cond}
use mathlib.Core.List.{List, [], ◌∷◌, ◌++◌}
use lib.Arith.{digits_lt}
use lib.ListN.{length, get_or, take, replicate, length-map, length-take, get_or-map}
use lib.Seq.{get_or-take, take-append_seam}
use Rattle.lists.proofs.Bools.{both, le-true}
use Rattle.tables.specs.Tables.{padded, places}
use Rattle.tables.proofs.Tables.{get_or-padded}
use Rattle.policy.specs.declared.Policy.{Policy}
use Rattle.policy.specs.Policies.{legal}
use Rattle.policy.proofs.Laws.{legal-counts}
use Rattle.forest.specs.Forest.{forest}
use Rattle.automaton.specs.Automaton.{Built, built, state_at, start, state_sources, row_targets, row_priorities, built_fit}
use Rattle.automaton.proofs.RowTables.{targets_long, priorities_long, row-target, row-priority}
use Rattle.builder.specs.Tables.{Tables, lengths_fit, nodes_fit, states_fit, filled, translated, refused, counts_of, translation_of, tables_after, number_of}
use Rattle.running.specs.declared.Run.{Run}
use Rattle.running.specs.Running.{row_of, row_states}
use Rattle.correctness.specs.Calls.{Translating, TablesHold}
use Rattle.correctness.specs.Demand3.{state_count, under, Beginning}
use Rattle.correctness.proofs.BuiltRows.{Rows, StandsOver}
use Rattle.correctness.proofs.DefinedRows.{rows_of}
use Rattle.correctness.proofs.Joint.{start-stands}

-- the policy was translated: what each of the three contracts comes to where 0 is returned
pub record Success (t : Translating) : Type 0 where
  pub number_is : number_of (translation_of t.policy t.entry) ≡ 0
  pub counts_are : t.counts ≡ counts_of (translation_of t.policy t.entry)
  pub tables_are : TablesHold t

-- ---- the answer
-- translating refuses with 7 to 10, so the number is 0 only where all four questions are answered yes
record Yes (a b c d : Bool) : Type 0 where
  first : a ≡ true
  second : b ≡ true
  third : c ≡ true
  fourth : d ≡ true

all_yes : (a b c d : Bool) (n s f : ℕ) → number_of (cond a (cond b (cond c (cond d (translated n s f) (refused 10)) (refused 9)) (refused 8)) (refused 7)) ≡ 0 → Yes a b c d
all_yes true true true true n s f e = record { first = refl; second = refl; third = refl; fourth = refl }
all_yes true true true false n s f e = absurd (omega (arith, e))
all_yes true true false d n s f e = absurd (omega (arith, e))
all_yes true false c d n s f e = absurd (omega (arith, e))
all_yes false b c d n s f e = absurd (omega (arith, e))

module _ (t : Translating) (done : Success t) where
  abbrev p : Policy
  p = t.policy

  answered : Yes (legal p) (lengths_fit p t.entry) (nodes_fit p t.entry) (states_fit p t.entry)
  unfolding translation_of
  answered = all_yes (legal p) (lengths_fit p t.entry) (nodes_fit p t.entry) (states_fit p t.entry) (length (forest p)) (length (built p)) (start p) done.number_is

  pub success-legal : legal p ≡ true
  success-legal = answered.first

  pub success-counts : t.counts ≡ length (forest p) ∷ length (built p) ∷ start p ∷ []
  unfolding translation_of
  success-counts = done.counts_are ∙ rw (answered.first, answered.second, answered.third, answered.fourth) refl

  states_are : state_count t ≡ length (built p)
  states_are = ap (λ (l : List ℕ). get_or l 1 0) success-counts

  -- ---- the tables at exit
  after_filled : tables_after p t.entry ≡ filled p t.entry
  unfolding tables_after
  after_filled =
      let y = answered in
      rw (both (legal p) (lengths_fit p t.entry) y.first y.second, both (nodes_fit p t.entry) (states_fit p t.entry) y.third y.fourth) refl

  targets-padded : t.exit.targets ≡ padded (length t.entry.targets) (row_targets p)
  unfolding filled
  targets-padded = done.tables_are.targets_are ∙ ap (λ (x : Tables). x.targets) after_filled

  priorities-padded : t.exit.priorities ≡ padded (length t.entry.priorities) (row_priorities p)
  unfolding filled
  priorities-padded = done.tables_are.priorities_are ∙ ap (λ (x : Tables). x.priorities) after_filled

  -- the policy's state under a built state
  source-after : (s : ℕ) → s < length (built p) → under t s ≡ (state_at p s).state
  unfolding filled state_sources state_at
  source-after s h =
      ap (λ (l : List ℕ). get_or l s 0) (done.tables_are.sources_are ∙ ap (λ (x : Tables). x.sources) after_filled)
      ∙ get_or-padded (length t.entry.sources) (state_sources p) s (subst (λ (n : ℕ). s < n) (sym (length-map (built p) (λ (b : Built). b.state))) h)
      ∙ get_or-map (λ (b : Built). b.state) (built p) s (record { state = 0; leaf = 0 })

  -- a run in a built state, and the policy's state under it
  pub stands-over : (r : Run) → r.state < state_count t → StandsOver p r (under t r.state)
  stands-over r h = let l = subst (λ (n : ℕ). r.state < n) states_are h in record { is-built = l; over = sym (source-after r.state l) }

  pub over-stands : (r : Run) (v : ℕ) → StandsOver p r v → (r.state < state_count t) × (under t r.state ≡ v)
  over-stands r v h = (subst (λ (n : ℕ). r.state < n) (sym states_are) h.is-built, source-after r.state h.is-built ∙ h.over)

  -- the start answered is a built state over the initial state
  pub success-start : (get_or t.counts 2 0 < state_count t) × (under t (get_or t.counts 2 0) ≡ p.initial)
  success-start =
      over-stands (record { state = get_or t.counts 2 0 }) p.initial
      (subst (λ (s : ℕ). StandsOver p (record { state = s }) p.initial) (sym (ap (λ (l : List ℕ). get_or l 2 0) success-counts)) (start-stands p success-legal))

  -- ---- a beginning of the row tables
  take-padded : (n m : ℕ) (l : List ℕ) → length l ≡ m → l ≡ take m (padded n l)
  unfolding padded
  take-padded n m l e = sym (take-append_seam l (replicate (n - length l) 0)) ∙ ap (λ (k : ℕ). take k (l ++ replicate (n - length l) 0)) e

  few : length (built p) ≤ 65535
  unfolding states_fit built_fit places
  few = omega (arith, le-true (length (built p)) (min (length t.entry.sources) 65535) answered.fourth)

  targets-exact : row_targets p ≡ take (length (built p) * p.letters) t.exit.targets
  targets-exact = take-padded (length t.entry.targets) (length (built p) * p.letters) (row_targets p) (targets_long p) ∙ ap (take (length (built p) * p.letters)) (sym targets-padded)

  priorities-exact : row_priorities p ≡ take (length (built p) * p.letters) t.exit.priorities
  priorities-exact =
      take-padded (length t.entry.priorities) (length (built p) * p.letters) (row_priorities p) (priorities_long p) ∙ ap (take (length (built p) * p.letters)) (sym priorities-padded)

  -- there is one: exactly the rows of the built states
  pub exact-beginning : Beginning t (length (built p) * p.letters)
  exact-beginning = record {
    holds_rows = omega (arith, ap (λ (n : ℕ). n * p.letters) states_are, targets_long p, ap length targets-exact);
    passes = rw (← targets-exact, ← priorities-exact) (rows_of p success-legal few).passes;
  }

  module _ (size : ℕ) (b : Beginning t size) where
    long : length (built p) * p.letters ≤ length (take size t.exit.targets)
    long = subst (λ (n : ℕ). n * p.letters ≤ length (take size t.exit.targets)) states_are b.holds_rows

    in_size : (i : ℕ) → i < length (built p) * p.letters → i < size
    in_size i h = omega (arith, long, length-take size t.exit.targets)

    -- a place among the rows, in a beginning of a padded column
    place : (table column : List ℕ) (n i : ℕ) → table ≡ padded n column → length column ≡ length (built p) * p.letters
        → i < length (built p) * p.letters → get_or (take size table) i 0 ≡ get_or column i 0
    place table column n i f g h =
        get_or-take size table i 0 (in_size i h) ∙ ap (λ (x : List ℕ). get_or x i 0) f ∙ get_or-padded n column i (subst (λ (m : ℕ). i < m) (sym g) h)

    enough : Dec (length (built p) ≤ length (take size t.exit.targets) / p.letters) → length (built p) ≤ length (take size t.exit.targets) / p.letters
    enough (yes h) = h
    enough (no h) =
        let few : length (take size t.exit.targets) / p.letters < length (built p) = omega arith in
        absurd (omega (arith, long, (div-lt_iff_lt-mul (legal-counts p success-legal).letters_some).0 few))

    pub rows-after : Rows p (take size t.exit.targets) (take size t.exit.priorities)
    unfolding row_states
    rows-after = record {
      passes = b.passes;
      enough = enough (dec_le (length (built p)) (length (take size t.exit.targets) / p.letters));
      targets_are = λ s a h l.
          place t.exit.targets (row_targets p) (length t.entry.targets) (row_of p.letters s a) targets-padded (targets_long p) (digits_lt h l) ∙ row-target p s a h l;
      priorities_are = λ s a h l.
          place t.exit.priorities (row_priorities p) (length t.entry.priorities) (row_of p.letters s a) priorities-padded (priorities_long p) (digits_lt h l) ∙ row-priority p s a h l;
    }
