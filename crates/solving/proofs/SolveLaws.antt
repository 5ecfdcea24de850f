-- What solving answers and leaves in the nine tables, question by question. Assumes nothing.
use Prim.Native.Nat.{ℕ, ◌*◌, ◌≤◌, min}
use native.Mathlib.Omega.{arith}
use native.Mathlib.Nat.{mul_comm, mul-le-mul_right}
use mathlib.Core.Path.{◌≡◌, refl, sym, ap, ◌∙◌, subst}
use mathlib.Core.Logic.{◌⊎◌, inl, inr, ◌≢◌}
use mathlib.Core.Bool.{Bool, true, false, ◌&&◌, ◌||◌, cond, true≢false}
use mathlib.Core.List.{List, [], ◌∷◌}
use lib.Dec.{eqb}
use lib.ListN.{length}
use Rattle.lists.specs.Questions.{ask}
use Rattle.lists.proofs.Bools.{test, both, and-absent, eqb≡, and_l, and_r, le-true}
use Rattle.tables.specs.Tables.{zeros, places, Column}
use Rattle.tables.proofs.Tables.{length-zeros, zeros-same}
use Rattle.tables.proofs.Columns.{column-padded}
use Rattle.policy.specs.declared.Policy.{Policy}
use Rattle.policy.specs.Policies.{legal}
use Rattle.forest.specs.Forest.{forest}
use Rattle.automaton.specs.Automaton.{built, start, state_sources, row_targets, row_priorities, built_fit}
use Rattle.automaton.proofs.Columns.{length-sources}
use Rattle.automaton.proofs.RowTables.{targets_long, priorities_long}
use Rattle.filling.specs.Filling.{Sized}
use Rattle.refusals.specs.declared.Refusal.{Refusal}
use Rattle.builder.specs.declared.Counts.{Counts}
use Rattle.std.specs.Prelude.{Result, Ok, Err, is_ok, is_err}
use Rattle.builder.specs.Tables.{Tables, Hold, lengths_fit, nodes_fit, states_fit, filled, cleared, translated, refused, translation_of, tables_after, number_of, counts_of, Translates}
use Rattle.builder.proofs.TranslateLaws.{fit-lengths, hold-same}
use Rattle.solving.specs.Solving.{owners_fit, owners_legal, solving_fits, admitted, solvable, solving_of, refusal_of, counts_after, seven_after, winners_after, LettersAfter, Solves}
use Rattle.solving.specs.Stages.{are_players, owners_refusal, refusal_after, answer_after, Ready, Holds, Decided, Decides}
use Rattle.solving.proofs.OwnersLaws.{owners-refusal-is}

-- what solving promises of a policy it promises of an equal one
pub same-solves : {p q : Policy} {owners winners letters winners_exit letters_exit : List ℕ} {entry exit : Tables} {answer : Result Counts Refusal} → p ≡ q
    → Solves p owners entry winners letters answer exit winners_exit letters_exit → Solves q owners entry winners letters answer exit winners_exit letters_exit
same-solves {p} {q} {owners} {winners} {letters} {winners_exit} {letters_exit} {entry} {exit} {answer} e s =
    subst (λ (x : Policy). Solves x owners entry winners letters answer exit winners_exit letters_exit) e s

-- ---- the answer
-- the first "no" decides
abbrev decided : Bool → Bool → Bool → Bool → Bool → Bool → Result Counts Refusal → Result Counts Refusal
decided a b c d e f x = cond a (cond b (cond c (cond d (cond e (cond f x (refused 17)) (refused 16)) (refused 10)) (refused 9)) (refused 8)) (refused 7)

module _ (n c x : ℕ) where
  number-decided : (a b f g h i : Bool) → number_of (decided a b f g h i (translated n c x)) ≡ ask a 7 (ask b 8 (ask f 9 (ask g 10 (ask h 16 (ask i 17 0)))))
  number-decided false b f g h i = refl
  number-decided true false f g h i = refl
  number-decided true true false g h i = refl
  number-decided true true true false h i = refl
  number-decided true true true true false i = refl
  number-decided true true true true true false = refl
  number-decided true true true true true true = refl

  counts-decided : (a b f g h i : Bool)
      → counts_of (decided a b f g h i (translated n c x)) ≡ cond (eqb (ask a 7 (ask b 8 (ask f 9 (ask g 10 (ask h 16 (ask i 17 0)))))) 0) (n ∷ c ∷ x ∷ []) (0 ∷ 0 ∷ 0 ∷ [])
  counts-decided false b f g h i = refl
  counts-decided true false f g h i = refl
  counts-decided true true false g h i = refl
  counts-decided true true true false h i = refl
  counts-decided true true true true false i = refl
  counts-decided true true true true true false = refl
  counts-decided true true true true true true = refl

module _ (a b c d e f : Bool) (x : Result Counts Refusal) where
  no-first : a ≡ false → (refused 7 ≡ decided a b c d e f x) × (a && b ≡ false)
  no-first q = rw q (refl, refl)

  no_second : a ≡ true → b ≡ false → (refused 8 ≡ decided a b c d e f x) × (a && b ≡ false)
  no_second q r = rw (q, r) (refl, refl)

  module _ (first : a ≡ true) (second : b ≡ true) where
    no_third : c ≡ false → (refused 9 ≡ decided a b c d e f x) × (c && d && e && f ≡ false)
    no_third q = rw (first, second, q) (refl, refl)

    no-fourth : c ≡ true → d ≡ false → (refused 10 ≡ decided a b c d e f x) × (c && d && e && f ≡ false)
    no-fourth q r = rw (first, second, q, r) (refl, refl)

    module _ (third : c ≡ true) (fourth : d ≡ true) where
      no-fifth : e ≡ false → (refused 16 ≡ decided a b c d e f x) × (c && d && e && f ≡ false)
      no-fifth q = rw (first, second, third, fourth, q) (refl, refl)

      no-sixth : e ≡ true → f ≡ false → (refused 17 ≡ decided a b c d e f x) × (c && d && e && f ≡ false)
      no-sixth q r = rw (first, second, third, fourth, q, r) (refl, refl)

      all-six : e ≡ true → f ≡ true → (x ≡ decided a b c d e f x) × (c && d && e && f ≡ true)
      all-six q r = rw (first, second, third, fourth, q, r) (refl, refl)

-- 8 asks three tests; where the last two are answered yes, the first decides
last-two : (a b c : Bool) → b && c ≡ true → a && b && c ≡ a
last-two true true true e = refl
last-two true true false e = e
last-two true false c e = e
last-two false b c e = refl

not_last : (a b c : Bool) → b && c ≡ false → a && b && c ≡ false
not_last true true c e = e
not_last true false c e = refl
not_last false b c e = refl

-- ---- tables that hold
abbrev Held : Tables → Tables → Type 0
Held t u = Hold t u.masks u.parents u.node_priorities u.sources u.leaves u.targets u.priorities

held_on : {t u v : Tables} → Held t u → Held u v → Held t v
held_on a b = record {
  masks_are = b.masks_are ∙ a.masks_are;
  parents_are = b.parents_are ∙ a.parents_are;
  node_priorities_are = b.node_priorities_are ∙ a.node_priorities_are;
  sources_are = b.sources_are ∙ a.sources_are;
  leaves_are = b.leaves_are ∙ a.leaves_are;
  targets_are = b.targets_are ∙ a.targets_are;
  priorities_are = b.priorities_are ∙ a.priorities_are;
}

-- tables of the same lengths are the same once they are cleared
pub record SameLengths (t u : Tables) : Type 0 where
  pub masks_long : length u.masks ≡ length t.masks
  pub parents_long : length u.parents ≡ length t.parents
  pub node_priorities_long : length u.node_priorities ≡ length t.node_priorities
  pub sources_long : length u.sources ≡ length t.sources
  pub leaves_long : length u.leaves ≡ length t.leaves
  pub targets_long : length u.targets ≡ length t.targets
  pub priorities_long : length u.priorities ≡ length t.priorities

cleared-same : (p : Policy) (t u : Tables) → SameLengths t u → Held (cleared p t) (cleared p u)
unfolding cleared
cleared-same p t u s = record {
  masks_are = zeros-same u.masks t.masks s.masks_long;
  parents_are = zeros-same u.parents t.parents s.parents_long;
  node_priorities_are = zeros-same u.node_priorities t.node_priorities s.node_priorities_long;
  sources_are = zeros-same u.sources t.sources s.sources_long;
  leaves_are = zeros-same u.leaves t.leaves s.leaves_long;
  targets_are = zeros-same u.targets t.targets s.targets_long;
  priorities_are = zeros-same u.priorities t.priorities s.priorities_long;
}

module _ (p : Policy) (owners : List ℕ) (t : Tables) (winners letters : List ℕ) where
  pub number-of : number_of (solving_of p owners t winners letters) ≡ refusal_of p owners t winners letters
  unfolding solving_of refusal_of
  number-of = number-decided (length (forest p)) (length (built p)) (start p) (legal p) (solving_fits p owners t winners letters) (nodes_fit p t) (states_fit p t) (owners_fit p owners) (owners_legal p owners)

  pub counts-of : counts_of (solving_of p owners t winners letters) ≡ counts_after p owners t winners letters
  unfolding solving_of refusal_of counts_after
  counts-of = counts-decided (length (forest p)) (length (built p)) (start p) (legal p) (solving_fits p owners t winners letters) (nodes_fit p t) (states_fit p t) (owners_fit p owners) (owners_legal p owners)

  module _ {x : Result Counts Refusal} {exit : Tables} {w l : List ℕ} (is : x ≡ solving_of p owners t winners letters) where
    -- the answer and the tables settle the rest
    settled : Held (seven_after p owners t winners letters) exit → w ≡ winners_after p owners t winners letters → LettersAfter p owners t winners letters l → Solves p owners t winners letters x exit w l
    settled h e f = record { answer_is = is; number_is = ap number_of is ∙ number-of; counts_are = ap counts_of is ∙ counts-of; tables_are = h; winners_are = e; letters_are = f }

    all_left : admitted p owners t winners letters ≡ false → Held t exit → w ≡ winners → l ≡ letters → Solves p owners t winners letters x exit w l
    unfolding seven_after winners_after
    all_left f h e g = settled (rw f h) (rw f e) (record {
      long = ap length g;
      unchanged = λ _. g;
      cleared_all = λ a _. absurd (true≢false (sym a ∙ f));
      chosen = λ a _. absurd (true≢false (sym a ∙ f));
    })

    all-clear : admitted p owners t winners letters ≡ true → solvable p owners t winners letters ≡ false → Held (cleared p t) exit → w ≡ zeros winners → l ≡ zeros letters → Solves p owners t winners letters x exit w l
    unfolding seven_after winners_after
    all-clear a f h e g = settled (rw (a, f) h) (rw (a, f) e) (record {
      long = ap length g ∙ length-zeros letters;
      unchanged = λ b. absurd (true≢false (sym a ∙ b));
      cleared_all = λ _ _. g;
      chosen = λ _ b. absurd (true≢false (sym b ∙ f));
    })

    all-solved : admitted p owners t winners letters ≡ true → solvable p owners t winners letters ≡ true → Held (filled p t) exit → Decided p owners winners letters w l → Solves p owners t winners letters x exit w l
    unfolding seven_after winners_after
    all-solved a b h d = settled (rw (a, b) h) (rw (a, b) d.winners_are) (record {
      long = d.letters_long;
      unchanged = λ f. absurd (true≢false (sym a ∙ f));
      cleared_all = λ _ f. absurd (true≢false (sym b ∙ f));
      chosen = λ _ _. d.chosen;
    })

  abbrev done : Result Counts Refusal
  done = translated (length (forest p)) (length (built p)) (start p)

  -- the two new tables are as long as the state tables
  abbrev longs : Bool
  longs = eqb (length winners) (length t.sources) && eqb (length letters) (length t.sources)

  -- ---- 7, and 8 for the two new tables: all nine are left
  pub refused-seven : legal p ≡ false → Solves p owners t winners letters (refused 7) t winners letters
  unfolding solving_of admitted
  refused-seven f =
      let n = no-first (legal p) (solving_fits p owners t winners letters) (nodes_fit p t) (states_fit p t) (owners_fit p owners) (owners_legal p owners) done f in
      all_left n.0 n.1 (hold-same t) refl refl

  unfit : legal p ≡ true → solving_fits p owners t winners letters ≡ false → (refused 8 ≡ solving_of p owners t winners letters) × (admitted p owners t winners letters ≡ false)
  unfolding solving_of admitted
  unfit q f = no_second (legal p) (solving_fits p owners t winners letters) (nodes_fit p t) (states_fit p t) (owners_fit p owners) (owners_legal p owners) done q f

  pub refused-eight : legal p ≡ true → longs ≡ false → Solves p owners t winners letters (refused 8) t winners letters
  unfolding solving_fits
  refused-eight q f =
      let n = unfit q (not_last (lengths_fit p t) (eqb (length winners) (length t.sources)) (eqb (length letters) (length t.sources)) f) in
      all_left n.0 n.1 (hold-same t) refl refl

  module _ (lawful : legal p ≡ true) (long : longs ≡ true) where
    fits-are : solving_fits p owners t winners letters ≡ lengths_fit p t
    unfolding solving_fits
    fits-are = last-two (lengths_fit p t) (eqb (length winners) (length t.sources)) (eqb (length letters) (length t.sources)) long

    module _ (fit : lengths_fit p t ≡ true) where
      is-admitted : admitted p owners t winners letters ≡ true
      unfolding admitted
      is-admitted = both (legal p) (solving_fits p owners t winners letters) lawful (fits-are ∙ fit)

      no-nodes : nodes_fit p t ≡ false → (refused 9 ≡ solving_of p owners t winners letters) × (solvable p owners t winners letters ≡ false)
      unfolding solving_of solvable
      no-nodes = no_third (legal p) (solving_fits p owners t winners letters) (nodes_fit p t) (states_fit p t) (owners_fit p owners) (owners_legal p owners) done lawful (fits-are ∙ fit)

      no-states : nodes_fit p t ≡ true → states_fit p t ≡ false → (refused 10 ≡ solving_of p owners t winners letters) × (solvable p owners t winners letters ≡ false)
      unfolding solving_of solvable
      no-states = no-fourth (legal p) (solving_fits p owners t winners letters) (nodes_fit p t) (states_fit p t) (owners_fit p owners) (owners_legal p owners) done lawful (fits-are ∙ fit)

      module _ (nodes : nodes_fit p t ≡ true) (states : states_fit p t ≡ true) where
        no-owners : owners_fit p owners ≡ false → (refused 16 ≡ solving_of p owners t winners letters) × (solvable p owners t winners letters ≡ false)
        unfolding solving_of solvable
        no-owners = no-fifth (legal p) (solving_fits p owners t winners letters) (nodes_fit p t) (states_fit p t) (owners_fit p owners) (owners_legal p owners) done lawful (fits-are ∙ fit) nodes states

        no-players : owners_fit p owners ≡ true → owners_legal p owners ≡ false → (refused 17 ≡ solving_of p owners t winners letters) × (solvable p owners t winners letters ≡ false)
        unfolding solving_of solvable
        no-players = no-sixth (legal p) (solving_fits p owners t winners letters) (nodes_fit p t) (states_fit p t) (owners_fit p owners) (owners_legal p owners) done lawful (fits-are ∙ fit) nodes states

        is-solvable : owners_fit p owners ≡ true → owners_legal p owners ≡ true → (done ≡ solving_of p owners t winners letters) × (solvable p owners t winners letters ≡ true)
        unfolding solving_of solvable
        is-solvable = all-six (legal p) (solving_fits p owners t winners letters) (nodes_fit p t) (states_fit p t) (owners_fit p owners) (owners_legal p owners) done lawful (fits-are ∙ fit) nodes states

    -- ---- after a translation
    module _ {x : Result Counts Refusal} (after : Tables) (r : Translates p t x after) where
      -- translating asked 8, 9 and 10
      data Asked : Type 0 where
        eight : lengths_fit p t ≡ false → x ≡ refused 8 → Held t after → Asked
        nine : lengths_fit p t ≡ true → nodes_fit p t ≡ false → x ≡ refused 9 → Held (cleared p t) after → Asked
        ten : lengths_fit p t ≡ true → nodes_fit p t ≡ true → states_fit p t ≡ false → x ≡ refused 10 → Held (cleared p t) after → Asked
        passed : lengths_fit p t ≡ true → nodes_fit p t ≡ true → states_fit p t ≡ true → x ≡ done → Held (filled p t) after → Asked

      asked : Asked
      unfolding translation_of tables_after
      asked = go (test (lengths_fit p t)) (test (nodes_fit p t)) (test (states_fit p t))
        where
          answer_is : x ≡ translation_of p t
          answer_is = r.answer_is

          tables_are : Held (tables_after p t) after
          tables_are = r.tables_are

          go : (lengths_fit p t ≡ true) ⊎ (lengths_fit p t ≡ false) → (nodes_fit p t ≡ true) ⊎ (nodes_fit p t ≡ false) → (states_fit p t ≡ true) ⊎ (states_fit p t ≡ false) → Asked
          go (inr f) c d = eight f (answer_is ∙ rw (lawful, f) refl) (rw (and-absent (legal p) (lengths_fit p t) f) at tables_are)
          go (inl b) (inr f) d = nine b f (answer_is ∙ rw (lawful, b, f) refl) (rw (lawful, b, f) at tables_are)
          go (inl b) (inl c) (inr f) = ten b c f (answer_is ∙ rw (lawful, b, c, f) refl) (rw (lawful, b, c, f) at tables_are)
          go (inl b) (inl c) (inl d) = passed b c d (answer_is ∙ rw (lawful, b, c, d) refl) (rw (lawful, b, c, d) at tables_are)

      -- the state tables and the row tables begin with the built states and their rows
      holds-built : lengths_fit p t ≡ true → states_fit p t ≡ true → Held (filled p t) after → Holds p after.sources after.targets after.priorities
      unfolding filled states_fit built_fit places
      holds-built fit states held = record {
        few = omega (arith, room);
        sources_are = subst (Column (state_sources p)) (sym held.sources_are) (column-padded (length t.sources) (state_sources p) (omega (arith, length-sources p, room)));
        targets_are = subst (Column (row_targets p)) (sym held.targets_are) (column-padded (length t.targets) (row_targets p) (omega (arith, targets_long p, sized.targets_long, rows-room)));
        priorities_are = subst (Column (row_priorities p)) (sym held.priorities_are) (column-padded (length t.priorities) (row_priorities p) (omega (arith, priorities_long p, sized.priorities_long, rows-room)));
      }
        where
          room : length (built p) ≤ min (length t.sources) 65535
          room = le-true (length (built p)) (min (length t.sources) 65535) states

          rows-room : length (built p) * p.letters ≤ p.letters * length t.sources
          rows-room =
              let h : length (built p) ≤ length t.sources = omega (arith, room) in
              omega (arith, mul-le-mul_right p.letters h, mul_comm p.letters (length t.sources))

          sized : Sized p t.sources t.leaves t.targets t.priorities
          sized = (fit-lengths p t.masks t.parents t.node_priorities t.sources t.leaves t.targets t.priorities fit).2

      -- so there is what deciding the built states asks for
      ready : Ready p after.sources after.targets after.priorities x
      ready = go asked
        where
          go : Asked → Ready p after.sources after.targets after.priorities x
          go (eight b e h) = subst (Ready p after.sources after.targets after.priorities) (sym e) (λ z. omega arith)
          go (nine b c e h) = subst (Ready p after.sources after.targets after.priorities) (sym e) (λ z. omega arith)
          go (ten b c d e h) = subst (Ready p after.sources after.targets after.priorities) (sym e) (λ z. omega arith)
          go (passed b c d e h) = subst (Ready p after.sources after.targets after.priorities) (sym e) (refl, holds-built b d h)

      pub is-ready : SameLengths t after → Ready p after.sources after.targets after.priorities x × (length winners ≡ length after.sources) × (length letters ≡ length after.sources)
      is-ready same = (ready, winners_long ∙ sym same.sources_long, letters_long ∙ sym same.sources_long)
        where
          winners_long : length winners ≡ length t.sources
          winners_long = eqb≡ (length winners) (length t.sources) (and_l (eqb (length winners) (length t.sources)) (eqb (length letters) (length t.sources)) long)

          letters_long : length letters ≡ length t.sources
          letters_long = eqb≡ (length letters) (length t.sources) (and_r (eqb (length winners) (length t.sources)) (eqb (length letters) (length t.sources)) long)

      -- ---- and after deciding them
      module _ {decision : Result Counts Refusal} {w l : List ℕ} (decides : Decides p owners x winners letters decision w l) where
        answer-from : {y : Result Counts Refusal} → x ≡ y → decision ≡ answer_after y p.states owners
        answer-from e = decides.answer_is ∙ ap (λ (z : Result Counts Refusal). answer_after z p.states owners) e

        still-refused : (n : ℕ) → x ≡ refused n → decision ≡ refused n
        unfolding answer_after
        still-refused n e = answer-from e

        owned-is : x ≡ done → (n : ℕ) → owners_refusal p.states owners ≡ n → decision ≡ cond (eqb n 0) done (refused n)
        unfolding answer_after
        owned-is e n k = answer-from e ∙ rw k refl

        sixteen : owners_fit p owners ≡ false → owners_refusal p.states owners ≡ 16
        sixteen f = owners-refusal-is p owners ∙ rw f refl

        seventeen : owners_fit p owners ≡ true → owners_legal p owners ≡ false → owners_refusal p.states owners ≡ 17
        seventeen f g = owners-refusal-is p owners ∙ rw (f, g) refl

        neither : owners_fit p owners ≡ true → owners_legal p owners ≡ true → owners_refusal p.states owners ≡ 0
        neither f g = owners-refusal-is p owners ∙ rw (f, g) refl

        -- translating refused, or there was nothing to refuse
        pub answered : is_err x || is_ok decision ≡ true → Solves p owners t winners letters decision after w l
        answered either = go asked
          where
            owned : lengths_fit p t ≡ true → nodes_fit p t ≡ true → states_fit p t ≡ true → x ≡ done → Held (filled p t) after → (owners_fit p owners ≡ true) ⊎ (owners_fit p owners ≡ false) → (owners_legal p owners ≡ true) ⊎ (owners_legal p owners ≡ false)
                → Solves p owners t winners letters decision after w l
            owned b c d e h (inr f) g = let n = owned-is e 16 (sixteen f) in absurd (true≢false (sym either ∙ rw (e, n) refl))
            owned b c d e h (inl f) (inr g) = let n = owned-is e 17 (seventeen f g) in absurd (true≢false (sym either ∙ rw (e, n) refl))
            owned b c d e h (inl f) (inl g) =
                let u = is-solvable b c d f g in
                let n = owned-is e 0 (neither f g) in
                all-solved (n ∙ u.0) (is-admitted b) u.1 h (decides.decided (ap number_of n))

            go : Asked → Solves p owners t winners letters decision after w l
            go (eight b e h) =
                let u = unfit lawful (fits-are ∙ b) in
                let n = still-refused 8 e in
                let k = decides.left_both (ap number_of n) in
                all_left (n ∙ u.0) u.1 h k.0 k.1
            go (nine b c e h) =
                let u = no-nodes b c in
                let n = still-refused 9 e in
                let i = ap number_of n in
                let k = decides.cleared_both (λ z. omega arith) (λ z. omega arith) in
                all-clear (n ∙ u.0) (is-admitted b) u.1 h k.0 k.1
            go (ten b c d e h) =
                let u = no-states b c d in
                let n = still-refused 10 e in
                let i = ap number_of n in
                let k = decides.cleared_both (λ z. omega arith) (λ z. omega arith) in
                all-clear (n ∙ u.0) (is-admitted b) u.1 h k.0 k.1
            go (passed b c d e h) = owned b c d e h (test (owners_fit p owners)) (test (owners_legal p owners))

        -- the owners were refused
        pub refused-owners : is_err x || is_ok decision ≡ false → SameLengths t after → {exit : Tables} → Held (cleared p after) exit → Solves p owners t winners letters decision exit w l
        refused-owners neither-one same {exit} clear = go asked
          where
            refused-before : (n : ℕ) → x ≡ refused n → ⊥
            refused-before n e = true≢false (rw e at neither-one)

            all : lengths_fit p t ≡ true → (k : ℕ) → decision ≡ refused k → number_of decision ≢ 0 → number_of decision ≢ 8 → (refused k ≡ solving_of p owners t winners letters) × (solvable p owners t winners letters ≡ false) → Solves p owners t winners letters decision exit w l
            all b k n y z u = let both = decides.cleared_both y z in all-clear (n ∙ u.0) (is-admitted b) u.1 (held_on (cleared-same p t after same) clear) both.0 both.1

            owned : lengths_fit p t ≡ true → nodes_fit p t ≡ true → states_fit p t ≡ true → x ≡ done → (owners_fit p owners ≡ true) ⊎ (owners_fit p owners ≡ false) → (owners_legal p owners ≡ true) ⊎ (owners_legal p owners ≡ false)
                → Solves p owners t winners letters decision exit w l
            owned b c d e (inr f) g = let n = owned-is e 16 (sixteen f) in let i = ap number_of n in all b 16 n (λ z. omega arith) (λ z. omega arith) (no-owners b c d f)
            owned b c d e (inl f) (inr g) = let n = owned-is e 17 (seventeen f g) in let i = ap number_of n in all b 17 n (λ z. omega arith) (λ z. omega arith) (no-players b c d f g)
            owned b c d e (inl f) (inl g) = let n = owned-is e 0 (neither f g) in absurd (true≢false (rw (e, n) at neither-one))

            go : Asked → Solves p owners t winners letters decision exit w l
            go (eight b e h) = absurd (refused-before 8 e)
            go (nine b c e h) = absurd (refused-before 9 e)
            go (ten b c d e h) = absurd (refused-before 10 e)
            go (passed b c d e h) = owned b c d e (test (owners_fit p owners)) (test (owners_legal p owners))

-- all seven are cleared, table by table
pub held-cleared : (p : Policy) (t : Tables) {m q r s l u k : List ℕ} → m ≡ zeros t.masks → q ≡ zeros t.parents → r ≡ zeros t.node_priorities
    → (s ≡ zeros t.sources) × (l ≡ zeros t.leaves) × (u ≡ zeros t.targets) × (k ≡ zeros t.priorities) → Hold (cleared p t) m q r s l u k
unfolding cleared
held-cleared p t a b c d = record { masks_are = a; parents_are = b; node_priorities_are = c; sources_are = d.0; leaves_are = d.1; targets_are = d.2; priorities_are = d.3 }

-- ---- deciding the built states: after 8, after another refusal, and with none
owned-number : (a b : Bool) (counts : Counts) → number_of (cond (eqb (ask a 16 (ask b 17 0)) 0) (Ok counts) (refused (ask a 16 (ask b 17 0)))) ≡ ask a 16 (ask b 17 0)
owned-number false b counts = refl
owned-number true false counts = refl
owned-number true true counts = refl

number-after : (x : Result Counts Refusal) (states : ℕ) (owners : List ℕ) → number_of (answer_after x states owners) ≡ refusal_after x states owners
unfolding answer_after refusal_after owners_refusal
number-after (Ok counts) states owners = owned-number (eqb (length owners) states) (are_players owners) counts
number-after (Err e) states owners = refl

module _ (p : Policy) (owners : List ℕ) (x : Result Counts Refusal) (winners letters : List ℕ) {decision : Result Counts Refusal} (is : decision ≡ answer_after x p.states owners) where
  number-is : number_of decision ≡ refusal_after x p.states owners
  number-is = ap number_of is ∙ number-after x p.states owners

  pub decides-eight : number_of decision ≡ 8 → Decides p owners x winners letters decision winners letters
  decides-eight e = record { answer_is = is; number_is = number-is; left_both = λ _. (refl, refl); cleared_both = λ _ z. absurd (z e); decided = λ z. absurd (omega arith) }

  pub decides-refused : number_of decision ≢ 8 → number_of decision ≢ 0 → {w l : List ℕ} → w ≡ zeros winners → l ≡ zeros letters → Decides p owners x winners letters decision w l
  decides-refused y z e f = record { answer_is = is; number_is = number-is; left_both = λ k. absurd (y k); cleared_both = λ _ _. (e, f); decided = λ k. absurd (z k) }

  pub decides-all : number_of decision ≡ 0 → {w l : List ℕ} → Decided p owners winners letters w l → Decides p owners x winners letters decision w l
  decides-all e d = record { answer_is = is; number_is = number-is; left_both = λ k. absurd (omega arith); cleared_both = λ z _. absurd (z e); decided = λ _. d }
