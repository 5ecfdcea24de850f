-- What translating answers and leaves in the seven tables, question by question. Assumes nothing.
use Prim.Native.Nat.{ℕ, ◌*◌}
use Rattle.std.specs.Prelude.{Result}
use mathlib.Core.Path.{◌≡◌, refl, sym, ap, ◌∙◌, subst}
use mathlib.Core.Bool.{Bool, true, false, ◌&&◌, cond}
use mathlib.Core.List.{List, [], ◌∷◌}
use lib.Dec.{eqb}
use lib.ListN.{length}
use Rattle.lists.specs.Questions.{ask}
use Rattle.lists.proofs.Bools.{eqb≡, and_l, and_r}
use Rattle.tables.specs.Tables.{padded, zeros}
use Rattle.policy.specs.declared.Policy.{Policy}
use Rattle.policy.specs.Policies.{legal}
use Rattle.forest.specs.Forest.{forest, forest_fits}
use Rattle.decomposition.specs.NodeTables.{node_tables, filled_of}
use Rattle.forest.specs.Forest.{node_masks, node_parents, node_priorities_of}
use Rattle.refusals.specs.declared.Refusal.{Refusal}
use Rattle.builder.specs.declared.Counts.{Counts}
use Rattle.automaton.specs.Automaton.{built, start, built_fit}
use Rattle.builder.specs.Tables.{Tables, translated, refused, number_of, counts_of, sizes_fit, lengths_fit, nodes_fit, states_fit, filled, cleared, translation_of, refusal_of, counts_after, tables_after, Hold, tables, Translates}
use Rattle.std.proofs.Common.{Option}
use Rattle.filling.specs.declared.Building.{Building}
use Rattle.filling.specs.Filling.{Sized, Builds}
use Rattle.builder.proofs.StageLaws.{nodes-filled, nodes-cleared}

-- tables that are left hold what they held
pub hold-same : (t : Tables) → Hold t t.masks t.parents t.node_priorities t.sources t.leaves t.targets t.priorities
hold-same t = record { masks_are = refl; parents_are = refl; node_priorities_are = refl; sources_are = refl; leaves_are = refl; targets_are = refl; priorities_are = refl }

-- what translating promises of a policy it promises of an equal one
pub same-policy : {p q : Policy} {entry exit : Tables} {answer : Result Counts Refusal} → p ≡ q → Translates p entry answer exit → Translates q entry answer exit
same-policy {p} {q} {entry} {exit} {answer} e t = subst (λ (x : Policy). Translates x entry answer exit) e t

-- the first "no" decides
abbrev decided : Bool → Bool → Bool → Bool → Result Counts Refusal → Result Counts Refusal
decided a b c d x = cond a (cond b (cond c (cond d x (refused 10)) (refused 9)) (refused 8)) (refused 7)

abbrev left : Bool → Bool → Bool → Bool → Tables → Tables → Tables → Tables
left a b c d x y z = cond (a && b) (cond (c && d) x y) z

module _ (a b c d : Bool) (x : Result Counts Refusal) (u v w : Tables) where
  no-first : a ≡ false → (refused 7 ≡ decided a b c d x) × (w ≡ left a b c d u v w)
  no-first e = rw e (refl, refl)

  no_second : a ≡ true → b ≡ false → (refused 8 ≡ decided a b c d x) × (w ≡ left a b c d u v w)
  no_second e f = rw (e, f) (refl, refl)

  no_third : a ≡ true → b ≡ true → c ≡ false → (refused 9 ≡ decided a b c d x) × (v ≡ left a b c d u v w)
  no_third e f g = rw (e, f, g) (refl, refl)

  no-fourth : a ≡ true → b ≡ true → c ≡ true → d ≡ false → (refused 10 ≡ decided a b c d x) × (v ≡ left a b c d u v w)
  no-fourth e f g h = rw (e, f, g, h) (refl, refl)

  all-four : a ≡ true → b ≡ true → c ≡ true → d ≡ true → (x ≡ decided a b c d x) × (u ≡ left a b c d u v w)
  all-four e f g h = rw (e, f, g, h) (refl, refl)

three : (n c a n' c' a' : ℕ) → n ≡ n' → c ≡ c' → a ≡ a' → translated n c a ≡ translated n' c' a'
three n c a n' c' a' e f g = rw (e, f, g) refl

-- ---- the number and the values of an answer
module _ (n c x : ℕ) where
  number-decided : (a b f g : Bool) → number_of (decided a b f g (translated n c x)) ≡ ask a 7 (ask b 8 (ask f 9 (ask g 10 0)))
  number-decided false b f g = refl
  number-decided true false f g = refl
  number-decided true true false g = refl
  number-decided true true true false = refl
  number-decided true true true true = refl

  counts-decided : (a b f g : Bool) → counts_of (decided a b f g (translated n c x)) ≡ cond (eqb (ask a 7 (ask b 8 (ask f 9 (ask g 10 0)))) 0) (n ∷ c ∷ x ∷ []) (0 ∷ 0 ∷ 0 ∷ [])
  counts-decided false b f g = refl
  counts-decided true false f g = refl
  counts-decided true true false g = refl
  counts-decided true true true false = refl
  counts-decided true true true true = refl

module _ (p : Policy) (t : Tables) where
  pub number-of : number_of (translation_of p t) ≡ refusal_of p t
  unfolding translation_of refusal_of
  number-of = number-decided (length (forest p)) (length (built p)) (start p) (legal p) (lengths_fit p t) (nodes_fit p t) (states_fit p t)

  pub counts-of : counts_of (translation_of p t) ≡ counts_after p t
  unfolding translation_of refusal_of counts_after
  counts-of = counts-decided (length (forest p)) (length (built p)) (start p) (legal p) (lengths_fit p t) (nodes_fit p t) (states_fit p t)

module _ (p : Policy) (m₀ q₀ r₀ s₀ l₀ t₀ k₀ : List ℕ) where
  abbrev pub entry : Tables
  entry = tables m₀ q₀ r₀ s₀ l₀ t₀ k₀

  pub fit-lengths : lengths_fit p entry ≡ true → (length q₀ ≡ length m₀) × (length r₀ ≡ length m₀) × Sized p s₀ l₀ t₀ k₀
  unfolding lengths_fit sizes_fit
  fit-lengths h = (
    sym (eqb≡ (length m₀) (length q₀) (and_l a b h2)),
    sym (eqb≡ (length m₀) (length r₀) (and_r a b h2)),
    record {
      leaves_long = sym (eqb≡ (length s₀) (length l₀) (and_r (a && b) c h3));
      targets_long = eqb≡ (length t₀) (p.letters * length s₀) (and_r (a && b && c) d h4);
      priorities_long = eqb≡ (length k₀) (p.letters * length s₀) (and_r (a && b && c && d) (eqb (length k₀) (p.letters * length s₀)) h);
    },
  )
    where
      a : Bool
      a = eqb (length m₀) (length q₀)

      b : Bool
      b = eqb (length m₀) (length r₀)

      c : Bool
      c = eqb (length s₀) (length l₀)

      d : Bool
      d = eqb (length t₀) (p.letters * length s₀)

      h4 : a && b && c && d ≡ true
      h4 = and_l (a && b && c && d) (eqb (length k₀) (p.letters * length s₀)) h

      h3 : a && b && c ≡ true
      h3 = and_l (a && b && c) d h4

      h2 : a && b ≡ true
      h2 = and_l (a && b) c h3

  -- the answer and the tables settle the rest
  all-is : {x : Result Counts Refusal} {m q r s l w k : List ℕ} → x ≡ translation_of p entry → Hold (tables_after p entry) m q r s l w k → Translates p entry x (tables m q r s l w k)
  all-is e h = record { answer_is = e; number_is = ap number_of e ∙ number-of p entry; counts_are = ap counts_of e ∙ counts-of p entry; tables_are = h }

  abbrev done : Result Counts Refusal
  done = translated (length (forest p)) (length (built p)) (start p)

  same : Hold entry m₀ q₀ r₀ s₀ l₀ t₀ k₀
  same = hold-same entry

  -- 7 and 8 leave the tables as they were
  pub refused-seven : legal p ≡ false → Translates p entry (refused 7) entry
  unfolding translation_of tables_after
  refused-seven e =
      let n = no-first (legal p) (lengths_fit p entry) (nodes_fit p entry) (states_fit p entry) done (filled p entry) (cleared p entry) entry e in
      all-is n.0 (subst (λ (x : Tables). Hold x m₀ q₀ r₀ s₀ l₀ t₀ k₀) n.1 same)

  pub refused-eight : legal p ≡ true → lengths_fit p entry ≡ false → Translates p entry (refused 8) entry
  unfolding translation_of tables_after
  refused-eight t e =
      let n = no_second (legal p) (lengths_fit p entry) (nodes_fit p entry) (states_fit p entry) done (filled p entry) (cleared p entry) entry t e in
      all-is n.0 (subst (λ (x : Tables). Hold x m₀ q₀ r₀ s₀ l₀ t₀ k₀) n.1 same)

  module _ (t : legal p ≡ true) (h : lengths_fit p entry ≡ true) (m q r s l w k : List ℕ) where
    held-filled : {y : Option Building} → (m ≡ padded (length m₀) (node_masks p)) × (q ≡ padded (length q₀) (node_parents p)) × (r ≡ padded (length r₀) (node_priorities_of p)) → built_fit p s₀ ≡ true → Builds p s₀ l₀ t₀ k₀ y s l w k
        → Hold (filled p entry) m q r s l w k
    unfolding filled
    held-filled n f b = record {
      masks_are = n.0;
      parents_are = n.1;
      node_priorities_are = n.2;
      sources_are = rw f at b.sources_are;
      leaves_are = rw f at b.leaves_are;
      targets_are = rw f at b.targets_are;
      priorities_are = rw f at b.priorities_are;
    }

    held-cleared : (m ≡ zeros m₀) × (q ≡ zeros q₀) × (r ≡ zeros r₀) → (s ≡ zeros s₀) × (l ≡ zeros l₀) × (w ≡ zeros t₀) × (k ≡ zeros k₀) → Hold (cleared p entry) m q r s l w k
    unfolding cleared
    held-cleared n b = record { masks_are = n.0; parents_are = n.1; node_priorities_are = n.2; sources_are = b.0; leaves_are = b.1; targets_are = b.2; priorities_are = b.3 }

    built-zero : {y : Option Building} → built_fit p s₀ ≡ false → Builds p s₀ l₀ t₀ k₀ y s l w k → (s ≡ zeros s₀) × (l ≡ zeros l₀) × (w ≡ zeros t₀) × (k ≡ zeros k₀)
    built-zero g b = (rw g at b.sources_are, rw g at b.leaves_are, rw g at b.targets_are, rw g at b.priorities_are)

    -- 9 and 10 clear them
    pub refused-nine : forest_fits p m₀ ≡ false → node_tables m q r ≡ filled_of p (node_tables m₀ q₀ r₀) → (s ≡ zeros s₀) × (l ≡ zeros l₀) × (w ≡ zeros t₀) × (k ≡ zeros k₀)
        → Translates p entry (refused 9) (tables m q r s l w k)
    unfolding translation_of tables_after nodes_fit
    refused-nine f e b =
        let n = no_third (legal p) (lengths_fit p entry) (nodes_fit p entry) (states_fit p entry) done (filled p entry) (cleared p entry) entry t h f in
        all-is n.0 (subst (λ (x : Tables). Hold x m q r s l w k) n.1 (held-cleared (nodes-cleared p m₀ q₀ r₀ m q r e f) b))

    pub refused-ten : {y : Option Building} → forest_fits p m₀ ≡ true → built_fit p s₀ ≡ false → (m ≡ zeros m₀) × (q ≡ zeros q₀) × (r ≡ zeros r₀) → Builds p s₀ l₀ t₀ k₀ y s l w k
        → Translates p entry (refused 10) (tables m q r s l w k)
    unfolding translation_of tables_after nodes_fit states_fit built_fit
    refused-ten f g z b =
        let n = no-fourth (legal p) (lengths_fit p entry) (nodes_fit p entry) (states_fit p entry) done (filled p entry) (cleared p entry) entry t h f g in
        all-is n.0 (subst (λ (x : Tables). Hold x m q r s l w k) n.1 (held-cleared z (built-zero g b)))

    -- both counts and the start
    pub all-translated : {y : Option Building} {n c a : ℕ} → forest_fits p m₀ ≡ true → n ≡ length (forest p) → built_fit p s₀ ≡ true → c ≡ length (built p) → a ≡ start p
        → node_tables m q r ≡ filled_of p (node_tables m₀ q₀ r₀) → Builds p s₀ l₀ t₀ k₀ y s l w k → Translates p entry (translated n c a) (tables m q r s l w k)
    unfolding translation_of tables_after nodes_fit states_fit built_fit
    all-translated {y} {n} {c} {a} f en g ec ea e b =
        let all = all-four (legal p) (lengths_fit p entry) (nodes_fit p entry) (states_fit p entry) done (filled p entry) (cleared p entry) entry t h f g in
        all-is (three n c a (length (forest p)) (length (built p)) (start p) en ec ea ∙ all.0) (subst (λ (x : Tables). Hold x m q r s l w k) all.1 (held-filled (nodes-filled p m₀ q₀ r₀ m q r e f) g b))
