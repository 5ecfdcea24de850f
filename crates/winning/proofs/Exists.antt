-- Letters that keep the promise, for every policy, all owners and all tables. Assumes nothing.
use Prim.Native.Nat.{ℕ, ◌+◌, ◌-◌, ◌≤◌, ◌<◌, min}
use native.Mathlib.Omega.{arith}
use mathlib.Core.Path.{◌≡◌, refl, sym, ap, ◌∙◌, subst}
use mathlib.Core.Logic.{◌⊎◌, inl, inr, ◌≢◌}
use mathlib.Core.Bool.{Bool, true, false, ◌&&◌, cond, true≢false}
use mathlib.Core.List.{List, map, ◌++◌}
use lib.Dec.{eqb, leb}
use lib.ListN.{length, get_or, replicate, length-map, length-append, length-replicate}
use lib.Seq.{get_or-append-add}
use Rattle.lists.specs.Lists.{below}
use Rattle.lists.proofs.Bools.{test, and_l, and_r, eqb≡, le-true}
use Rattle.lists.proofs.Lists.{get_or-map-below, length-below, replicate-at}
use Rattle.tables.specs.Tables.{padded, zeros, places}
use Rattle.tables.proofs.Tables.{get_or-padded, length-zeros}
use Rattle.policy.specs.declared.Policy.{Policy}
use Rattle.policy.specs.Policies.{legal}
use Rattle.automaton.specs.Automaton.{built, built_fit}
use Rattle.builder.specs.Tables.{Tables, lengths_fit, nodes_fit, states_fit}
use Rattle.games.proofs.Sets.{is, is_true, true-is}
use Rattle.games.proofs.Plays.{solved-with}
use Rattle.supervision.specs.Supervision.{player_of, game_of}
use Rattle.supervision.proofs.Rows.{total}
use Rattle.solving.specs.Solving.{winner_of, Chosen, owners_fit, owners_legal, solving_fits, admitted, solvable, LettersAfter}
use Rattle.solving.proofs.Winners.{winner-has-letters}

module _ (p : Policy) (owners : List ℕ) (lawful : legal p ≡ true) (size : ℕ) (fits : length (built p) ≤ size) where
  abbrev winner : ℕ → Bool
  winner s = player_of (winner_of p owners s)

  abbrev choice : ℕ → ℕ
  choice = (winner-has-letters p lawful owners).0

  -- a letter at each state that its owner wins, 255 at the others
  letter_for : ℕ → ℕ
  letter_for s = cond (is (winner s) ((game_of p owners).owner s)) (choice s) 255

  column : List ℕ
  column = map letter_for (below (length (built p)))

  column-long : length column ≡ length (built p)
  unfolding column
  column-long = length-map (below (length (built p))) letter_for ∙ length-below (length (built p))

  pub letters_table : List ℕ
  letters_table = padded size column

  pub table-long : length letters_table ≡ size
  unfolding letters_table padded
  table-long = simp (length-append, length-replicate) (omega (arith, column-long))

  table_at : (s : ℕ) → s < length (built p) → get_or letters_table s 0 ≡ letter_for s
  unfolding letters_table column
  table_at s h = get_or-padded size column s (subst (λ (n : ℕ). s < n) (sym column-long) h) ∙ get_or-map-below letter_for (length (built p)) s 0 h

  own-letter : (s : ℕ) → (game_of p owners).owner s ≡ winner s → letter_for s ≡ choice s
  unfolding letter_for
  own-letter s o = rw (true-is (winner s) ((game_of p owners).owner s) o) refl

  no_letter : (s : ℕ) → (game_of p owners).owner s ≢ winner s → letter_for s ≡ 255
  unfolding letter_for
  no_letter s o = go (test (is (winner s) ((game_of p owners).owner s)))
    where
      go : (is (winner s) ((game_of p owners).owner s) ≡ true) ⊎ (is (winner s) ((game_of p owners).owner s) ≡ false) → letter_for s ≡ 255
      go (inl t) = absurd (o (is_true (winner s) ((game_of p owners).owner s) t))
      go (inr f) = rw f refl

  past : (s : ℕ) → length (built p) ≤ s → get_or letters_table s 0 ≡ 0
  unfolding letters_table padded
  past s h =
      let e : s ≡ length column + (s - length column) = omega (arith, column-long) in
      ap (λ (n : ℕ). get_or (column ++ replicate (size - length column) 0) n 0) e ∙ get_or-append-add column (replicate (size - length column) 0) (s - length column) 0 ∙ replicate-at (size - length column) (s - length column) 0

  pub table-chosen : Chosen p owners letters_table
  table-chosen = record {
    solved = solved-with (game_of p owners) 10 (total p lawful owners) winner winner choice (λ s. get_or letters_table s 0) (winner-has-letters p lawful owners).1 (λ s h. refl) (λ s h o. table_at s h ∙ own-letter s o);
    none = λ s h o. table_at s h ∙ no_letter s o;
    past = past;
  }

-- ---- in every case
module _ (p : Policy) (owners : List ℕ) (t : Tables) (winners letters : List ℕ) where
  fitting : admitted p owners t winners letters ≡ true → solvable p owners t winners letters ≡ true → (legal p ≡ true) × (length (built p) ≤ length letters)
  unfolding admitted solving_fits solvable states_fit built_fit places
  fitting a b =
      let fits = and_r (legal p) (lengths_fit p t && eqb (length winners) (length t.sources) && eqb (length letters) (length t.sources)) a in
      let long = eqb≡ (length letters) (length t.sources) (and_r (lengths_fit p t && eqb (length winners) (length t.sources)) (eqb (length letters) (length t.sources)) fits) in
      let sized = and_l (nodes_fit p t && leb (length (built p)) (min (length t.sources) 65535)) (owners_fit p owners) (and_l (nodes_fit p t && leb (length (built p)) (min (length t.sources) 65535) && owners_fit p owners) (owners_legal p owners) b) in (
        and_l (legal p) (lengths_fit p t && eqb (length winners) (length t.sources) && eqb (length letters) (length t.sources)) a,
        omega (arith, long, le-true (length (built p)) (min (length t.sources) 65535) (and_r (nodes_fit p t) (leb (length (built p)) (min (length t.sources) 65535)) sized)),
      )

  pub letters-exist : (exit : List ℕ) × LettersAfter p owners t winners letters exit
  letters-exist = go (test (admitted p owners t winners letters)) (test (solvable p owners t winners letters))
    where
      go : (admitted p owners t winners letters ≡ true) ⊎ (admitted p owners t winners letters ≡ false) → (solvable p owners t winners letters ≡ true) ⊎ (solvable p owners t winners letters ≡ false)
          → (exit : List ℕ) × LettersAfter p owners t winners letters exit
      go (inr a) b = (letters, record { long = refl; unchanged = λ e. refl; cleared_all = λ e. absurd (true≢false (sym e ∙ a)); chosen = λ e. absurd (true≢false (sym e ∙ a)) })
      go (inl a) (inr b) = (
        zeros letters,
        record {
          long = length-zeros letters;
          unchanged = λ e. absurd (true≢false (sym a ∙ e));
          cleared_all = λ e f. refl;
          chosen = λ e f. absurd (true≢false (sym f ∙ b));
        },
      )
      go (inl a) (inl b) =
          let h = fitting a b in (
            letters_table p owners h.0 (length letters) h.1,
            record {
              long = table-long p owners h.0 (length letters) h.1;
              unchanged = λ e. absurd (true≢false (sym a ∙ e));
              cleared_all = λ e f. absurd (true≢false (sym b ∙ f));
              chosen = λ e f. table-chosen p owners h.0 (length letters) h.1;
            },
          )
