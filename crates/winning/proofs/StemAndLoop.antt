-- On a stem and a loop the play comes back: so a priority that recurs in the game's sense recurs in demand 3's, the least one is there in both senses, and it decides who wins the play.
-- Assumes nothing.
use Prim.Native.Nat.{ℕ, zero, suc, ◌+◌, ◌-◌, ◌*◌, ◌/◌, ◌≤◌, ◌<◌}
use native.Mathlib.Omega.{arith}
use native.Mathlib.Decide.{dec_lt}
use native.Mathlib.Nat.{suc-mul, add-mul, le-mul_of_pos_right, mod-lt, div-add-mod', le-div_iff_mul-le, lt-div-mul-add, le_antisymm}
use mathlib.Core.Path.{◌≡◌, refl, sym, ap, ◌∙◌, subst}
use mathlib.Core.Logic.{◌↔◌}
use mathlib.Core.Bool.{Bool, true, not, not-not, false≢true}
use mathlib.Core.List.Memᴰ
use mathlib.Core.List.{List, [], ◌∷◌, Memᴰ}
use lib.Dec.{ltb}
use lib.ListN.{length, get_or}
use borrow.Author.Tests.{lt-ltb, le-ltb}
use Rattle.lists.specs.Lists.{any}
use Rattle.lists.proofs.Bools.{lt-true}
use Rattle.lists.proofs.Lists.{some-any, all-each, get_or-mem}
use Rattle.recurrence.proofs.Pigeon.{pigeon}
use Rattle.policy.specs.declared.Policy.{Policy}
use Rattle.policy.specs.Policies.{legal}
use Rattle.forest.specs.Forest.{even}
use Rattle.automaton.specs.Automaton.{built, state_at, row_target, row_priority, row_targets, row_priorities}
use Rattle.running.specs.declared.Run.{Run}
use Rattle.running.specs.Running.{policy_step, policy_meets, row_step, row_meets}
use Rattle.running.proofs.Steps.{row-moves}
use Rattle.judging.specs.Judging.{non_empty, in_range}
use Rattle.correctness.specs.Demand3.{letter_at, InRound, Recurs, policy_state, colours_met}
use Rattle.correctness.proofs.BuiltRows.{policy_run, built_run, RecurringColour, RecurringPriority}
use Rattle.automaton.proofs.RowTables.{row-target, row-priority}
use Rattle.correctness.proofs.DefinedRows.{rows_of}
use Rattle.correctness.proofs.Joint.{stands_after}
use Rattle.correctness.proofs.Period.{Settled, settled}
use Rattle.correctness.proofs.Sequences.{round_start, recurs-along}
use Rattle.games.specs.Games.{serves, Follows, Least, Won, Solved, Recurs as RecursInPlay}
use Rattle.supervision.specs.Supervision.{player_of, game_of}
use Rattle.supervision.proofs.Rows.{row-leads, total}
use Rattle.solving.specs.Solving.{winner_of}
use Rattle.winning.specs.Winning.{LoopPlay, priorities_met, LeastRecurring, OneLeast, ServesWinner}
use Rattle.solving.proofs.Winners.{winner-player}
use Rattle.winning.proofs.Periods.{Periodic, periodic-later, comes_back, loop-back}
use Rattle.winning.proofs.Recurring.{serves-odd, least-only, lowest-least, lowest-won}

-- ---- letters
loop-long : {A : Type 0} (loop : List A) → non_empty loop ≡ true → 0 < length loop
loop-long [] e = absurd (false≢true e)
loop-long (x ∷ xs) e = omega arith

get_or-range : (letters : ℕ) (w : List ℕ) → in_range letters w ≡ true → (i : ℕ) → i < length w → get_or w i 0 < letters
unfolding in_range
get_or-range letters w e i h = lt-true (get_or w i 0) letters (all-each (λ a. ltb a letters) w e (get_or w i 0) (get_or-mem w i 0 h))

letter-range : (letters : ℕ) (stem loop : List ℕ) → in_range letters stem ≡ true → in_range letters loop ≡ true → 0 < length loop → (i : ℕ) → letter_at stem loop i < letters
unfolding letter_at
letter-range letters stem loop a b some i = go (dec_lt i (length stem))
  where
    go : Dec (i < length stem) → letter_at stem loop i < letters
    go (yes h) = rw (lt-ltb i (length stem) h) (get_or-range letters stem a i h)
    go (no h) = rw (le-ltb i (length stem) (omega arith)) (get_or-range letters loop b _ (mod-lt (i - length stem) some))

-- ---- a list of numbers: after every number of rounds, or after every number of letters
module _ (stem loop : List ℕ) (some : 0 < length loop) (f : ℕ → ℕ) (k : ℕ) where
  pub rounds-or-letters : Recurs stem loop (λ i. f i ∷ []) k ↔ RecursInPlay f k
  rounds-or-letters = (to, from)
    where
      to : Recurs stem loop (λ i. f i ∷ []) k → RecursInPlay f k
      to h n = let q = h n in (q.2, omega (arith, q.1, q.3.from, le-mul_of_pos_right q.0 some), sym (Memᴰ.eq_of_singleton q.4))

      from : RecursInPlay f k → Recurs stem loop (λ i. f i ∷ []) k
      from h n = go (h (length stem + n * length loop))
        where
          go : (m : ℕ) × (length stem + n * length loop ≤ m) × (f m ≡ k) → (r : ℕ) × (n ≤ r) × (i : ℕ) × InRound stem loop r i × Memᴰ k (f i ∷ [])
          go t =
              let d = t.0 - length stem in
              let r = d / length loop in (
                r,
                (le-div_iff_mul-le some).1 (omega (arith, t.1)),
                t.0,
                record { from = omega (arith, t.1, div-add-mod' d (length loop)); until = omega (arith, t.1, lt-div-mul-add {a = d} some, suc-mul r (length loop)) },
                Memᴰ.head (sym t.2),
              )

module _ (p : Policy) (ok : legal p ≡ true) (few : length (built p) ≤ 65535) where
  -- ---- the built rows, one letter
  abbrev step : Run → ℕ → Run
  step = row_step p.letters (row_targets p) (row_priorities p)

  abbrev meets : Run → ℕ → List ℕ
  meets = row_meets p.letters (row_targets p) (row_priorities p)

  abbrev at : ℕ → Run
  at s = record { state = s }

  one-step : (s a : ℕ) → s < length (built p) → a < p.letters → (step (at s) a ≡ at (row_target p s a)) × (meets (at s) a ≡ row_priority p s a ∷ [])
  one-step s a h l =
      let rows = rows_of p ok few in
      let t = row-target p s a h l in
      let among = (row-leads p ok s a h l).0 in
      let r = row-moves p.letters (row_targets p) (row_priorities p) (at s) a rows.passes (omega (arith, rows.enough)) (lt-ltb a p.letters l) (omega (arith, t, rows.enough)) in
      (r.0 ∙ ap at t, r.1 ∙ ap (λ (k : ℕ). k ∷ []) (row-priority p s a h l))

  module _ (stem loop : List ℕ) (state letter : ℕ → ℕ) (play : LoopPlay p stem loop state letter) where
    abbrev v : ℕ
    v = (state_at p (state 0)).state

    abbrev f : ℕ → ℕ
    f i = row_priority p (state i) (letter i)

    some : 0 < length loop
    some = loop-long loop play.loop_some

    letter-lt : (i : ℕ) → letter i < p.letters
    letter-lt i = subst (λ (a : ℕ). a < p.letters) (sym (play.reads i)) (letter-range p.letters stem loop play.stem_range play.loop_range some i)

    is-built : (i : ℕ) → state i < length (built p)
    is-built zero = play.begins
    is-built (suc i) = subst (λ (s : ℕ). s < length (built p)) (sym (play.goes i)) (row-leads p ok (state i) (letter i) (is-built i) (letter-lt i)).0

    -- ---- what recurs, by demand 3
    next-run : (i : ℕ) → at (state (suc i)) ≡ step (at (state i)) (letter_at stem loop i)
    next-run i = ap at (play.goes i) ∙ sym (one-step (state i) (letter i) (is-built i) (letter-lt i)).0 ∙ ap (step (at (state i))) (play.reads i)

    met-is : (i : ℕ) → priorities_met p stem loop state letter i ≡ meets (at (state i)) (letter_at stem loop i)
    met-is i = sym (one-step (state i) (letter i) (is-built i) (letter-lt i)).1 ∙ ap (meets (at (state i))) (play.reads i)

    priorities-recur : (k : ℕ) → Recurs stem loop (priorities_met p stem loop state letter) k ↔ RecurringPriority p (row_targets p) (row_priorities p) stem loop (at (state 0)) k
    priorities-recur k =
        let e = recurs-along step meets stem loop (λ i. at (state i)) next-run k in (
          λ h. e.0 (λ n. let q = h n in (q.0, q.1, q.2, q.3, subst (Memᴰ k) (met-is q.2) q.4)),
          λ h n. let q = e.1 h n in (q.0, q.1, q.2, q.3, subst (Memᴰ k) (sym (met-is q.2)) q.4),
        )

    colours_recur : (c : ℕ) → Recurs stem loop (colours_met stem loop p v) c ↔ RecurringColour p stem loop v c
    unfolding policy_state colours_met
    colours_recur c = recurs-along (policy_step p) (policy_meets p) stem loop (policy_state stem loop p v) (λ i. refl) c

    some-letter : any (λ a. ltb a p.letters) loop ≡ true
    some-letter =
        some-any (λ a. ltb a p.letters) loop (get_or loop 0 0) (get_or-mem loop 0 0 some) (lt-ltb (get_or loop 0 0) p.letters (get_or-range p.letters loop play.loop_range 0 some))

    decided : Settled p (row_targets p) (row_priorities p) loop (built_run p (row_targets p) (row_priorities p) stem (at (state 0))) (policy_run p stem v)
    decided =
        let rows = rows_of p ok few in
        settled p ok (row_targets p) (row_priorities p) rows loop some-letter (built_run p (row_targets p) (row_priorities p) stem (at (state 0))) (policy_run p stem v)
        (stands_after p ok (row_targets p) (row_priorities p) rows stem (at (state 0)) v (record { is-built = play.begins; over = refl }))

    -- ---- the play comes back
    module _ (i j : ℕ) (lt : i < j) (same : state (round_start stem loop i) ≡ state (round_start stem loop j)) where
      abbrev begun : ℕ
      begun = round_start stem loop i

      abbrev period : ℕ
      period = (j - i) * length loop

      letters-back : Periodic (letter_at stem loop) begun period
      letters-back = periodic-later (letter_at stem loop) (length stem) (length loop) (loop-back stem loop some) (i * length loop) (j - i) (omega arith)

      states-back : Periodic state begun period
      states-back =
          comes_back state (λ n s. row_target p s (letter_at stem loop n)) (λ n. play.goes n ∙ ap (row_target p (state n)) (play.reads n)) begun period letters-back.some
          (λ n s. ap (row_target p s) (letters-back.back n)) (ap state ends ∙ sym same)
        where
          ends : begun + period ≡ round_start stem loop j
          ends = let e : i + (j - i) ≡ j = omega arith in omega (arith, add-mul i (j - i) (length loop), ap (λ (n : ℕ). n * length loop) e)

      priorities-back : Periodic f begun period
      priorities-back = record { some = letters-back.some; back = back }
        where
          letter-back : (n : ℕ) → letter (begun + (period + n)) ≡ letter (begun + n)
          letter-back n = play.reads (begun + (period + n)) ∙ letters-back.back n ∙ sym (play.reads (begun + n))

          back : (n : ℕ) → f (begun + (period + n)) ≡ f (begun + n)
          back n = ap (λ (s : ℕ). row_priority p s (letter (begun + (period + n)))) (states-back.back n) ∙ ap (row_priority p (state (begun + n))) (letter-back n)

    play-back : (from : ℕ) × (period : ℕ) × Periodic f from period
    play-back =
        let t = pigeon (length (built p)) (λ r. state (round_start stem loop r)) (λ r h. is-built (round_start stem loop r)) in
        (round_start stem loop t.0, (t.1 - t.0) * length loop, priorities-back t.0 t.1 t.2 t.4)

    -- ---- the least priority
    abbrev k : ℕ
    k = decided.least

    in-rounds : LeastRecurring p stem loop state letter k
    in-rounds = record {
      recurs = (priorities-recur k).1 decided.least_recurs;
      lowest = λ l h. decided.least_lowest l ((priorities-recur l).0 h);
    }

    in_letters : RecursInPlay f k
    in_letters = (rounds-or-letters stem loop some f k).0 in-rounds.recurs

    lowest-in-letters : (l : ℕ) → RecursInPlay f l → k ≤ l
    lowest-in-letters l h = in-rounds.lowest l ((rounds-or-letters stem loop some f l).1 h)

    is-least : Least f k
    is-least = lowest-least f play-back.0 play-back.1 play-back.2 k in_letters lowest-in-letters

    is-won : Won f (serves k) (play-back.0 + play-back.1)
    is-won = lowest-won f play-back.0 play-back.1 play-back.2 k in_letters lowest-in-letters 10 (λ n. (total p ok []).priorities (state n) (letter n) (is-built n) (letter-lt n))

    pub one_least : (owners : List ℕ) → OneLeast p stem loop state letter owners
    one_least owners = record {
      least = k;
      in_the_game = λ l. (λ h. least-only f l k h is-least, λ e. subst (Least f) (sym e) is-least);
      in_demand3 = λ l. (
        λ h. le_antisymm (h.lowest k in-rounds.recurs) (in-rounds.lowest l h.recurs),
        λ e. subst (LeastRecurring p stem loop state letter) (sym e) in-rounds,
      );
      won = λ j. (λ w. w.1.least k is-least, λ e. (play-back.0 + play-back.1, subst (λ (j : Bool). Won f j (play-back.0 + play-back.1)) e is-won));
      colours = decided.colours;
      colours_recur = λ c. (λ h. (colours_recur c).1 ((decided.colours_recur c).0 h), λ h. (decided.colours_recur c).1 ((colours_recur c).0 h));
      verdict = decided.verdict;
    }

-- ---- the winner who follows letters that win is served
pub serves_winner : (p : Policy) → legal p ≡ true → (owners : List ℕ) (stem loop : List ℕ) (state letter : ℕ → ℕ) → LoopPlay p stem loop state letter
    → (w : ℕ → Bool) (c : ℕ → ℕ) → Solved (game_of p owners) w c → Follows (game_of p owners) (w (state 0)) c state letter
    → (l : OneLeast p stem loop state letter owners) → ServesWinner p stem loop state letter owners l
serves_winner p ok owners stem loop state letter play w c solved follows l = record { served = served; parity = parity; family = sym l.verdict ∙ parity }
  where
    served : serves l.least ≡ player_of (winner_of p owners (state 0))
    served = (solved.wins state letter play.begins follows).least l.least ((l.in_the_game l.least).1 refl) ∙ sym (winner-player p ok owners w c solved (state 0) play.begins)

    parity : even l.least ≡ not (player_of (winner_of p owners (state 0)))
    parity = sym (not-not (even l.least)) ∙ ap not (sym (serves-odd l.least) ∙ served)
