-- After a call of solving that succeeded: what each of the three contracts comes to, and what follows from it. Assumes nothing.
use Prim.Native.Nat.{ℕ, zero, suc, ◌≤◌, ◌<◌, min}
use native.Mathlib.Omega.{arith}
use mathlib.Core.Path.{◌≡◌, refl, sym, ap, ap₂, ◌∙◌, subst, fun_ext}
use mathlib.Core.Bool.{Bool, true, false, ◌&&◌, cond}
use mathlib.Core.List.{List, map}
use lib.Dec.{eqb, ltb}
use lib.ListN.{length, get_or, take, length-map}
use Rattle.lists.specs.Lists.{below}
use Rattle.lists.proofs.Bools.{and_l, both, eqb≡, le-true, lt-true}
use Rattle.lists.proofs.Lists.{all-each, get_or-mem, get_or-map-below, length-below}
use Rattle.tables.specs.Tables.{padded, places}
use Rattle.tables.proofs.Tables.{get_or-padded}
use Rattle.policy.specs.declared.Policy.{Policy}
use Rattle.policy.specs.Policies.{legal}
use Rattle.forest.specs.Forest.{forest}
use Rattle.forest.proofs.Forest.{forest-laws}
use Rattle.automaton.specs.Automaton.{built, state_at, start, row_target, row_priority, built_fit}
use Rattle.automaton.proofs.Tables.{built-good}
use Rattle.builder.specs.Tables.{Tables, Hold, lengths_fit, nodes_fit, states_fit, filled, translated, refused, counts_of, number_of, translation_of, tables_after}
use Rattle.running.specs.declared.Run.{Run}
use Rattle.running.specs.declared.Met.{Met}
use Rattle.std.specs.Prelude.{Result, Ok}
use Rattle.refusals.specs.declared.Refusal.{Refusal}
use Rattle.running.specs.Running.{row_of, run_after, priority_of, reading_of, number_of as run_number_of}
use Rattle.running.proofs.Steps.{refusal-none, reading-moved}
use Rattle.correctness.specs.Calls.{Translating, Running}
use Rattle.correctness.specs.Demand3.{under, Beginning}
use Rattle.correctness.proofs.Translated.{Success, success-counts, stands-over, rows-after}
use Rattle.correctness.proofs.Agreement.{Answered, read_by}
use Rattle.games.specs.Games.{Follows, met, Won}
use Rattle.supervision.specs.Supervision.{player_of, game_of}
use Rattle.supervision.proofs.Rows.{row-leads}
use Rattle.solving.specs.Solving.{winner_of, state_winners, Chosen, owners_fit, owners_legal, solving_fits, admitted, solvable, solving_of, seven_after, winners_after}
use Rattle.solving.proofs.Winners.{same_byte, winner_few}
use Rattle.winning.specs.Calls.{Solving, TablesHold, WinnersHold, LettersHold}
use Rattle.winning.specs.Solved.{states, winner_at, owner_at, Winners, Play, Wins}
use Rattle.winning.proofs.OneWinner.{one_winner}

-- the game was solved
pub record Done (s : Solving) : Type 0 where
  pub number_is : number_of (solving_of s.translating.policy s.owners s.translating.entry s.winners_entry s.letters_entry) ≡ 0
  pub counts_are : s.translating.counts ≡ counts_of (solving_of s.translating.policy s.owners s.translating.entry s.winners_entry s.letters_entry)
  pub tables_are : TablesHold s
  pub winners_are : WinnersHold s
  pub letters_are : LettersHold s

-- ---- the answer
-- solving refuses with 7 to 10, 16 and 17, so the number is 0 only where all six questions are answered yes
record Yes (a b c d e f : Bool) : Type 0 where
  first : a ≡ true
  second : b ≡ true
  third : c ≡ true
  fourth : d ≡ true
  fifth : e ≡ true
  sixth : f ≡ true

all_yes : (a b c d e f : Bool) (n s l : ℕ)
    → number_of (cond a (cond b (cond c (cond d (cond e (cond f (translated n s l) (refused 17)) (refused 16)) (refused 10)) (refused 9)) (refused 8)) (refused 7)) ≡ 0 → Yes a b c d e f
all_yes true true true true true true n s l z = record { first = refl; second = refl; third = refl; fourth = refl; fifth = refl; sixth = refl }
all_yes true true true true true false n s l z = absurd (omega (arith, z))
all_yes true true true true false f n s l z = absurd (omega (arith, z))
all_yes true true true false e f n s l z = absurd (omega (arith, z))
all_yes true true false d e f n s l z = absurd (omega (arith, z))
all_yes true false c d e f n s l z = absurd (omega (arith, z))
all_yes false b c d e f n s l z = absurd (omega (arith, z))

module _ (s : Solving) (done : Done s) where
  abbrev t : Translating
  t = s.translating

  abbrev p : Policy
  p = t.policy

  yes-all : Yes (legal p) (solving_fits p s.owners t.entry s.winners_entry s.letters_entry) (nodes_fit p t.entry) (states_fit p t.entry) (owners_fit p s.owners) (owners_legal p s.owners)
  unfolding solving_of
  yes-all =
      all_yes (legal p) (solving_fits p s.owners t.entry s.winners_entry s.letters_entry) (nodes_fit p t.entry) (states_fit p t.entry) (owners_fit p s.owners) (owners_legal p s.owners)
      (length (forest p)) (length (built p)) (start p) done.number_is

  pub done-legal : legal p ≡ true
  done-legal = yes-all.first

  lengths-fit : lengths_fit p t.entry ≡ true
  unfolding solving_fits
  lengths-fit =
      let long = eqb (length s.winners_entry) (length t.entry.sources) in
      and_l (lengths_fit p t.entry) long (and_l (lengths_fit p t.entry && long) (eqb (length s.letters_entry) (length t.entry.sources)) yes-all.second)

  admitted-yes : admitted p s.owners t.entry s.winners_entry s.letters_entry ≡ true
  unfolding admitted
  admitted-yes = both (legal p) (solving_fits p s.owners t.entry s.winners_entry s.letters_entry) yes-all.first yes-all.second

  solvable-yes : solvable p s.owners t.entry s.winners_entry s.letters_entry ≡ true
  unfolding solvable
  solvable-yes = rw (yes-all.third, yes-all.fourth, yes-all.fifth, yes-all.sixth) refl

  -- ---- the translation succeeded too
  translated-is : translation_of p t.entry ≡ translated (length (forest p)) (length (built p)) (start p)
  unfolding translation_of
  translated-is = rw (yes-all.first, lengths-fit, yes-all.third, yes-all.fourth) refl

  solved-is : solving_of p s.owners t.entry s.winners_entry s.letters_entry ≡ translated (length (forest p)) (length (built p)) (start p)
  unfolding solving_of
  solved-is = rw (yes-all.first, yes-all.second, yes-all.third, yes-all.fourth, yes-all.fifth, yes-all.sixth) refl

  after-translating : tables_after p t.entry ≡ filled p t.entry
  unfolding tables_after
  after-translating = rw (yes-all.first, lengths-fit, yes-all.third, yes-all.fourth) refl

  after-solving : seven_after p s.owners t.entry s.winners_entry s.letters_entry ≡ filled p t.entry
  unfolding seven_after
  after-solving = rw (admitted-yes, solvable-yes) refl

  pub done-success : Success t
  done-success = record {
    number_is = ap number_of translated-is;
    counts_are = done.counts_are ∙ ap counts_of (solved-is ∙ sym translated-is);
    tables_are = subst (λ (u : Tables). Hold u t.exit.masks t.exit.parents t.exit.node_priorities t.exit.sources t.exit.leaves t.exit.targets t.exit.priorities) (after-solving ∙ sym after-translating) done.tables_are;
  }

  -- ---- states, winners and owners
  pub states_are : states s ≡ length (built p)
  states_are = ap (λ (l : List ℕ). get_or l 1 0) (success-counts t done-success)

  pub is_state : (n : ℕ) → n < states s → n < length (built p)
  is_state n h = subst (λ (k : ℕ). n < k) states_are h

  pub few : length (built p) ≤ 65535
  unfolding states_fit built_fit places
  few = omega (arith, le-true (length (built p)) (min (length t.entry.sources) 65535) yes-all.fourth)

  under-is : (n : ℕ) → n < states s → (state_at p n).state ≡ under t n
  under-is n h = (stands-over t done-success (record { state = n }) h).over

  winners-padded : s.winners ≡ padded (length s.winners_entry) (state_winners p s.owners)
  unfolding winners_after
  winners-padded = done.winners_are ∙ rw (admitted-yes, solvable-yes) refl

  pub winner-at : (n : ℕ) → n < states s → winner_at s n ≡ winner_of p s.owners n
  unfolding state_winners
  winner-at n h =
      ap (λ (l : List ℕ). get_or l n 0) winners-padded
      ∙ get_or-padded (length s.winners_entry) (map (winner_of p s.owners) (below (length (built p)))) n
      (subst (λ (k : ℕ). n < k) (sym (length-map (below (length (built p))) (winner_of p s.owners) ∙ length-below (length (built p)))) (is_state n h))
      ∙ get_or-map-below (winner_of p s.owners) (length (built p)) n 0 (is_state n h)

  pub chosen : Chosen p s.owners s.letters
  chosen = done.letters_are.chosen admitted-yes solvable-yes

  pub owner-is : (n : ℕ) → n < states s → get_or s.owners (state_at p n).state 0 ≡ owner_at s n
  owner-is n h = ap (λ (v : ℕ). get_or s.owners v 0) (under-is n h)

  pub owner-few : (n : ℕ) → n < states s → owner_at s n ≤ 1
  unfolding owners_fit owners_legal
  owner-few n h =
      let v = (built-good p (forest-laws p done-legal) n (is_state n h)).0 in
      let l = eqb≡ (length s.owners) p.states yes-all.fifth in
      let m = all-each (λ (x : ℕ). ltb x 2) s.owners yes-all.sixth (get_or s.owners (state_at p n).state 0) (get_or-mem s.owners (state_at p n).state 0 (omega (arith, v, l))) in
      omega (arith, lt-true (get_or s.owners (state_at p n).state 0) 2 m, owner-is n h)

  -- ---- the winners
  pub done-winners : Winners s
  done-winners = record {
    few = λ n h. omega (arith, winner-at n h, winner_few p s.owners n);
    one_winner = λ n m h k e.
        winner-at n h ∙ one_winner p done-legal few s.owners n m (is_state n h) (is_state m k) (under-is n h ∙ e ∙ sym (under-is m k)) ∙ sym (winner-at m k);
  }

  -- ---- one letter from a built state, over a beginning of the rows
  pub reads-row : (size : ℕ) → Beginning t size → (n a : ℕ) → n < length (built p) → a < p.letters
      → reading_of p.letters (take size t.exit.targets) (take size t.exit.priorities) (record { state = n }) a ≡ Ok (record { run = record { state = row_target p n a }; priority = row_priority p n a })
  reads-row size b n a h l =
      let rows = rows-after t done-success size b in
      let targets = take size t.exit.targets in
      let priorities = take size t.exit.priorities in
      let r : Run = record { state = n } in
      let moved : ℕ → ℕ → Result Met Refusal = λ m k. Ok (record { run = record { state = m }; priority = k }) in
      let target : get_or targets (row_of p.letters n a) 0 ≡ row_target p n a = rows.targets_are n a h l in
      reading-moved p.letters targets priorities r a (refusal-none p.letters targets priorities r a rows.passes (omega (arith, rows.enough)) l (omega (arith, rows.enough, target, (row-leads p done-legal n a h l).0)))
      ∙ ap₂ moved target (rows.priorities_are n a h l)

  -- ---- a play
  module _ (calls : ℕ → Running) (answered : (i : ℕ) → Answered (calls i)) (play : Play s calls) where
    abbrev at : ℕ → ℕ
    at i = (calls i).state

    abbrev letter : ℕ → ℕ
    letter i = (calls i).letter

    reading-is : (i : ℕ) → at i < length (built p) → read_by (calls i) ≡ Ok (record { run = record { state = row_target p (at i) (letter i) }; priority = row_priority p (at i) (letter i) })
    reading-is i h = rw (play.letters_are i, play.targets_are i, play.priorities_are i) (reads-row play.size play.beginning (at i) (letter i) h (play.reads i))

    -- one letter from a built state
    record Moves (i : ℕ) : Type 0 where
      is-read : (calls i).number ≡ 0
      leads : (calls (suc i)).state ≡ row_target p (at i) (letter i)
      meets : (calls i).priority ≡ row_priority p (at i) (letter i)

    moves : (i : ℕ) → at i < length (built p) → Moves i
    moves i h =
        let e = reading-is i h in
        record { is-read = (answered i).number_is ∙ ap run_number_of e; leads = play.goes_on i ∙ (answered i).next_is ∙ ap (λ (q : Result Met Refusal). (run_after (record { state = at i }) q).state) e; meets = (answered i).priority_is ∙ ap priority_of e }

    is-built : (i : ℕ) → at i < length (built p)
    is-built zero = is_state (at 0) play.begins
    is-built (suc i) = subst (λ (n : ℕ). n < length (built p)) (sym (moves i (is-built i)).leads) (row-leads p done-legal (at i) (letter i) (is-built i) (play.reads i)).0

    in-states : (i : ℕ) → at i < states s
    in-states i = subst (λ (k : ℕ). at i < k) (sym states_are) (is-built i)

    abbrev winner : ℕ → Bool
    winner n = player_of (winner_of p s.owners n)

    -- the owner of a state is the winner, as bytes and as players
    owner-wins : (i : ℕ) → (game_of p s.owners).owner (at i) ≡ winner (at 0) → owner_at s (at i) ≡ winner_at s (at 0)
    owner-wins i e =
        same_byte (owner_at s (at i)) (winner_at s (at 0)) (owner-few (at i) (in-states i)) (done-winners.few (at 0) play.begins)
        (ap player_of (sym (owner-is (at i) (in-states i))) ∙ e ∙ ap player_of (sym (winner-at (at 0) play.begins)))

    wins-owner : (i : ℕ) → owner_at s (at i) ≡ winner_at s (at 0) → (game_of p s.owners).owner (at i) ≡ winner (at 0)
    wins-owner i e = ap player_of (owner-is (at i) (in-states i) ∙ e ∙ winner-at (at 0) play.begins)

    follows : Follows (game_of p s.owners) (winner (at 0)) (λ n. get_or s.letters n 0) at letter
    follows = record { legal = play.reads; goes = λ i. (moves i (is-built i)).leads; chosen = λ i e. play.follows i (owner-wins i e) }

    -- the play stays among the winner's states
    stays : (i : ℕ) → winner (at i) ≡ winner (at 0)
    stays zero = refl
    stays (suc i) =
        ap winner (moves i (is-built i)).leads
        ∙ chosen.solved.stays (at i) (letter i) (is-built i) (play.reads i) (λ o. play.follows i (owner-wins i (o ∙ stays i)))
        ∙ stays i

    winner-stays : (i : ℕ) → winner_at s (at i) ≡ winner_at s (at 0)
    winner-stays i =
        same_byte (winner_at s (at i)) (winner_at s (at 0)) (done-winners.few (at i) (in-states i)) (done-winners.few (at 0) play.begins)
        (ap player_of (winner-at (at i) (in-states i)) ∙ stays i ∙ ap player_of (sym (winner-at (at 0) play.begins)))

    met-is : (i : ℕ) → met (game_of p s.owners) at letter i ≡ (calls i).priority
    met-is i = sym (moves i (is-built i)).meets

    pub done-wins : Wins s calls
    done-wins = record {
      read_all = λ i. (moves i (is-built i)).is-read;
      stays = λ i. (in-states i, winner-stays i);
      has_letter = λ i e. chosen.solved.letters (at i) (is-built i) (wins-owner i e ∙ sym (stays i));
      won = subst (λ (n : ℕ). Won (λ i. (calls i).priority) (player_of (winner_at s (at 0))) n) (sym states_are)
          (subst (λ (j : Bool). Won (λ i. (calls i).priority) j (length (built p))) (ap player_of (sym (winner-at (at 0) play.begins)))
          (subst (λ (f : ℕ → ℕ). Won f (winner (at 0)) (length (built p))) (fun_ext met-is) (chosen.solved.wins at letter (is-built 0) follows)));
    }

-- ---- two calls
pub one_answer : (s u : Solving) → Done s → Done u → s.translating.policy ≡ u.translating.policy → s.owners ≡ u.owners → (n : ℕ) → n < states s → winner_at s n ≡ winner_at u n
one_answer s u d e same owned n h = winner-at s d n h ∙ ap₂ (λ (p : Policy) (o : List ℕ). winner_of p o n) same owned ∙ sym (winner-at u e n (subst (λ (k : ℕ). n < k) counts h))
  where
    counts : states s ≡ states u
    counts = states_are s d ∙ ap (λ (p : Policy). length (built p)) same ∙ sym (states_are u e)
