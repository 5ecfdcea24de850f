-- The solver's answer on tables that hold the built automaton is what solving promises of the two tables. Assumes nothing.
use Prim.Native.Nat.{ℕ, ◌+◌, ◌*◌, ◌≤◌, ◌<◌}
use native.Mathlib.Omega.{arith}
use mathlib.Core.Path.{◌≡◌, refl, sym, ap, ◌∙◌, subst}
use mathlib.Core.Bool.{true}
use mathlib.Core.List.{List}
use lib.Arith.{digits_lt}
use lib.Dec.{eqb}
use lib.ListN.{length, get_or}
use Rattle.lists.proofs.Bools.{eqb≡}
use Rattle.lists.proofs.Lists.{length-map-below, get_or-map-below, replicate-at}
use Rattle.tables.specs.Tables.{padded, zeros, Column}
use Rattle.tables.proofs.Tables.{length-zeros, zeros-same}
use Rattle.tables.proofs.Stores.{sets-padded}
use Rattle.tables.proofs.Columns.{sets-ext}
use Rattle.policy.specs.declared.Policy.{Policy}
use Rattle.policy.specs.Policies.{legal}
use Rattle.policy.proofs.Laws.{legal-counts}
use Rattle.forest.proofs.Forest.{forest-laws}
use Rattle.automaton.specs.Automaton.{built, row_target, row_priority}
use Rattle.automaton.proofs.Tables.{built-good}
use Rattle.automaton.proofs.Columns.{sources_long, source-at}
use Rattle.automaton.proofs.RowTables as row-tables
use Rattle.games.specs.Games.{Game, Total, Solved}
use Rattle.games.proofs.Agree.{solved-agree}
use Rattle.games.proofs.Plays.{solved-with}
use Rattle.attracting.specs.Attracting.{Rows, table_game}
use Rattle.solver.specs.Answers.{Answers}
use Rattle.supervision.specs.Supervision.{player_of, game_of}
use Rattle.supervision.proofs.Rows.{total}
use Rattle.solving.specs.Solving.{winner_of, state_winners, Chosen, owners_fit}
use Rattle.solving.specs.Stages.{Holds, Decided}
use Rattle.solving.proofs.Winners.{winner-player, winner_few, same_byte}

module _ (p : Policy) (lawful : legal p ≡ true) (owners sources targets priorities : List ℕ) (holds : Holds p sources targets priorities) where
  -- ---- the rows in the tables
  target-at : (s a : ℕ) → s < length (built p) → a < p.letters → get_or targets (s * p.letters + a) 0 ≡ row_target p s a
  target-at s a h l = holds.targets_are.each (s * p.letters + a) (subst (λ (n : ℕ). s * p.letters + a < n) (sym (row-tables.targets_long p)) (digits_lt h l)) ∙ row-tables.row-target p s a h l

  priority-at : (s a : ℕ) → s < length (built p) → a < p.letters → get_or priorities (s * p.letters + a) 0 ≡ row_priority p s a
  priority-at s a h l = holds.priorities_are.each (s * p.letters + a) (subst (λ (n : ℕ). s * p.letters + a < n) (sym (row-tables.priorities_long p)) (digits_lt h l)) ∙ row-tables.row-priority p s a h l

  levels-few : (s a : ℕ) → s < length (built p) → a < p.letters → get_or priorities (s * p.letters + a) 0 < 10
  levels-few s a h l = subst (λ (k : ℕ). k < 10) (sym (priority-at s a h l)) ((total p lawful owners).priorities s a h l)

  targets_few : (s a : ℕ) → s < length (built p) → a < p.letters → get_or targets (s * p.letters + a) 0 < length (built p)
  targets_few s a h l = subst (λ (k : ℕ). k < length (built p)) (sym (target-at s a h l)) ((total p lawful owners).targets s a h l)

  -- what the solver asks of the tables
  rows-held : owners_fit p owners ≡ true → Rows owners sources targets priorities p.letters (length (built p))
  unfolding owners_fit
  rows-held fit = record {
    letters_few = (legal-counts p lawful).letters_few;
    states_few = holds.few;
    sources_long = sources_long p holds.sources_are;
    sources_few = λ s h. omega (arith, source-at p s h holds.sources_are, (built-good p (forest-laws p lawful) s h).0, eqb≡ (length owners) p.states fit);
    targets_long = omega (arith, holds.targets_are.long, row-tables.targets_long p);
    priorities_long = omega (arith, holds.priorities_are.long, row-tables.priorities_long p);
    targets_few = targets_few;
  }

  pub solver-asks : {states : ℕ} → states ≡ length (built p) → owners_fit p owners ≡ true
      → Rows owners sources targets priorities p.letters states × ((0 < p.letters) × ((s a : ℕ) → s < states → a < p.letters → get_or priorities (s * p.letters + a) 0 < 10))
  solver-asks e fit =
      subst (λ (n : ℕ). Rows owners sources targets priorities p.letters n × ((0 < p.letters) × ((s a : ℕ) → s < n → a < p.letters → get_or priorities (s * p.letters + a) 0 < 10))) (sym e)
      (rows-held fit, ((legal-counts p lawful).letters_some, levels-few))

  -- ---- the game of the tables is the supervisor's
  abbrev tabled : Game
  tabled = table_game owners sources targets priorities p.letters (length (built p))

  owner-same : (s : ℕ) → s < length (built p) → tabled.owner s ≡ (game_of p owners).owner s
  unfolding player_of
  owner-same s h = ap (λ (v : ℕ). eqb (get_or owners v 0) 1) (source-at p s h holds.sources_are)

  tabled-total : Total tabled 10
  tabled-total = record { some = (legal-counts p lawful).letters_some; targets = targets_few; priorities = levels-few }

  module _ (w₀ l₀ w₁ l₁ w l : List ℕ) (winners-zero : w₁ ≡ zeros w₀) (letters-zero : l₁ ≡ zeros l₀) (winners_long : length w₀ ≡ length sources)
      (x : Answers owners sources targets priorities p.letters (length (built p)) w₁ l₁ w l) where
    solved-found : Solved (game_of p owners) (λ s. eqb (get_or w s 0) 1) (λ s. get_or l s 0)
    solved-found = solved-agree tabled (game_of p owners) 10 tabled-total refl refl owner-same target-at priority-at (λ s. eqb (get_or w s 0) 1) (λ s. get_or l s 0) x.solved

    found-player : (s : ℕ) → s < length (built p) → player_of (winner_of p owners s) ≡ eqb (get_or w s 0) 1
    found-player s h = winner-player p lawful owners (λ s. eqb (get_or w s 0) 1) (λ s. get_or l s 0) solved-found s h

    found-winner : (s : ℕ) → s < length (built p) → get_or w s 0 ≡ winner_of p owners s
    unfolding player_of
    found-winner s h = sym (same_byte (winner_of p owners s) (get_or w s 0) (winner_few p owners s) (x.winner_few s h) (found-player s h))

    -- ---- the winners, and 0 past them
    length-winners : length (state_winners p owners) ≡ length (built p)
    unfolding state_winners
    length-winners = length-map-below (winner_of p owners) (length (built p))

    long : length (built p) ≤ length w₀
    long = omega (arith, winners_long, sources_long p holds.sources_are)

    length-cleared : length w₁ ≡ length w₀
    length-cleared = ap length winners-zero ∙ length-zeros w₀

    winners-column : Column (state_winners p owners) w
    unfolding state_winners
    winners-column = record {
      long = omega (arith, long, length-winners, x.winners_long, length-cleared);
      each = λ s h.
          let k : s < length (built p) = subst (λ (n : ℕ). s < n) length-winners h in
          found-winner s k ∙ sym (get_or-map-below (winner_of p owners) (length (built p)) s 0 k);
    }

    winners-padded : w ≡ padded (length w₀) (state_winners p owners)
    winners-padded =
        let h : length (state_winners p owners) ≤ length w₁ = omega (arith, long, length-winners, length-cleared) in
        sets-ext w₁ (state_winners p owners) h w winners-column x.winners_long (λ s q. x.winners_past s (omega (arith, length-winners)))
        ∙ sets-padded w₁ (state_winners p owners) (winners-zero ∙ zeros-same w₀ w₁ (sym length-cleared)) h
        ∙ ap (λ (n : ℕ). padded n (state_winners p owners)) length-cleared

    -- ---- the letters
    zero-past : (s : ℕ) → get_or l₁ s 0 ≡ 0
    unfolding zeros
    zero-past s = ap (λ (t : List ℕ). get_or t s 0) letters-zero ∙ replicate-at (length l₀) s 0

    chosen-letters : Chosen p owners l
    chosen-letters = record {
      solved = solved-with (game_of p owners) 10 (total p lawful owners) (λ s. eqb (get_or w s 0) 1) (λ s. player_of (winner_of p owners s)) (λ s. get_or l s 0) (λ s. get_or l s 0) solved-found found-player (λ s h o. refl);
      none = λ s h o. x.no_letter s h (λ e. o (sym (owner-same s h) ∙ e ∙ sym (found-player s h)));
      past = λ s h. x.letters_past s h ∙ zero-past s;
    }

    decided-of : Decided p owners w₀ l₀ w l
    decided-of = record { winners_are = winners-padded; letters_long = x.letters_long ∙ ap length letters-zero ∙ length-zeros l₀; chosen = chosen-letters }

  -- the solver's answer on the two tables, once they are cleared
  pub answers-decide : (w₀ l₀ : List ℕ) {states : ℕ} {w₁ l₁ w l : List ℕ} → states ≡ length (built p) → length w₀ ≡ length sources → w₁ ≡ zeros w₀ → l₁ ≡ zeros l₀
      → Answers owners sources targets priorities p.letters states w₁ l₁ w l → Decided p owners w₀ l₀ w l
  answers-decide w₀ l₀ {states} {w₁} {l₁} {w} {l} e long z y x =
      decided-of w₀ l₀ w₁ l₁ w l z y long (subst (λ (n : ℕ). Answers owners sources targets priorities p.letters n w₁ l₁ w l) e x)
