-- What the definitions of judging mean: the recurring colours are the colours that recur, the least recurring priority is the least that recurs, and question
-- 13 is answered no exactly if the run ever reads a row whose target is no state. Assumes nothing.
use Prim.Native.Nat.{ℕ, ◌≤◌, ◌<◌}
use native.Mathlib.Omega.{arith}
use mathlib.Core.Path.{◌≡◌, refl, sym, ap, ◌∙◌, subst}
use mathlib.Core.Logic.{◌⊎◌, inl, inr, ◌↔◌}
use mathlib.Core.Bool.{Bool, true, false, cond, true≢false, false≢true}
use mathlib.Core.List.{List, [], ◌∷◌, ◌++◌, Memᴰ}
use lib.Dec.{eqb, ltb}
use lib.ListN.{get_or}
use Rattle.std.specs.Prelude.{Result, Ok, Err}
use Rattle.refusals.specs.declared.Refusal.{Refusal}
use Rattle.refusals.specs.declared.Refusal.TheVariants.{NoSuchTarget}
use Rattle.refusals.specs.Refusals.{number, refusal}
use Rattle.refusals.proofs.Numbers.{refusal-number}
use Rattle.lists.specs.Lists.{all}
use Rattle.lists.proofs.Bools.{test, and_l, or_cases, eqb≡, lt-true, lt-false}
use Rattle.masks.specs.Masks.{has}
use Rattle.recurrence.specs.Iterates.{iter, rounds}
use Rattle.recurrence.specs.Runs.{times, after, met, window}
use Rattle.recurrence.proofs.Recurs.{RecursInRun}
use Rattle.recurrence.proofs.Periods.{rounds-mem, mem-rounds}
use Rattle.recurrence.proofs.Runs.{met-append, after-keeps, after_any, met-times, recurring-window, numbered-recurring}
use Rattle.recurrence.proofs.Repeats.{iter-any, iter-keeps, met-first}
use Rattle.masks.proofs.SetOf.{set-has}
use Rattle.policy.specs.declared.Policy.{Policy}
use Rattle.policy.specs.Policies.{legal}
use Rattle.running.specs.declared.Run.{Run}
use Rattle.running.specs.declared.Met.{Met}
use Rattle.running.specs.Running.{policy_step, policy_meets, row_of, row_states, shaped, target_at, priority_at, refusal_of, reading_of, row_step, row_meets}
use Rattle.running.proofs.Steps.{policy-within, refusal-13, refusal-none, refusal-outside, number-refusal, reading-moved, reading-refused, row-moves, row_within}
use Rattle.judging.specs.Judging.{non_empty, in_range, least_of, recurring_colours, no_state, dangling_meets, ever_dangling, least_recurring}
use Rattle.judging.specs.ReadsDangling.{ReadsDangling}
use Rattle.judging.proofs.Laws.{least-le, least-mem, member-some, non_empty-append}

-- ---- the recurring colours
pub recurring-colours : (p : Policy) → legal p ≡ true → (v : ℕ) → v < p.states → (stem loop : List ℕ) (c : ℕ)
    → (has (recurring_colours p v stem loop) c ≡ true) ↔ RecursInRun (policy_step p) (policy_meets p) stem loop v c
unfolding recurring_colours
recurring-colours p ok v h stem loop c =
    let held = window (policy_step p) (policy_meets p) p.states stem loop v in
    let w = recurring-window (policy_step p) (policy_meets p) p.states (policy-within p ok) stem loop v h c in
    (λ t. w.1 ((set-has held c).0 t), λ q. (set-has held c).1 (w.0 q))

module _ (letters : ℕ) (targets priorities : List ℕ) where
  abbrev step : Run → ℕ → Run
  step = row_step letters targets priorities

  abbrev dangles : Run → ℕ → List ℕ
  dangles = dangling_meets letters targets priorities

  abbrev states : ℕ
  states = row_states letters targets priorities

  -- ---- one letter
  dangling-answer : (r : Run) (a : ℕ) → non_empty (dangles r a) ≡ true → reading_of letters targets priorities r a ≡ Err NoSuchTarget
  unfolding dangling_meets reading_of
  dangling-answer r a t = is (eqb n 0) (some (no_state (reading_of letters targets priorities r a)) t)
    where
      n : ℕ
      n = refusal_of letters targets priorities r a

      some : (b : Bool) → non_empty (cond b (a ∷ []) []) ≡ true → b ≡ true
      some true t = refl
      some false t = absurd (false≢true t)

      is : (b : Bool) → let q = cond {A = Result Met Refusal} b (Ok (record { run = record { state = target_at letters targets priorities r a }; priority = priority_at letters targets priorities r a })) (Err (refusal n)) in no_state q ≡ true → q ≡ Err NoSuchTarget
      is true e = absurd (false≢true e)
      is false e = ap (λ (e : Refusal). Err e) (sym (refusal-number (refusal n)) ∙ ap refusal (eqb≡ (number (refusal n)) 13 e))

  answer-dangling : (r : Run) (a : ℕ) → reading_of letters targets priorities r a ≡ Err NoSuchTarget → Memᴰ a (dangles r a)
  unfolding dangling_meets
  answer-dangling r a e = rw e (mathlib.Core.List.Memᴰ.head refl)

  -- for rows of the right shape, a state and a letter of theirs: the row's target is no state
  pub dangling-target : (r : Run) (a : ℕ) → shaped letters targets priorities ≡ true → r.state < states → a < letters
      → (reading_of letters targets priorities r a ≡ Err NoSuchTarget) ↔ (states ≤ target_at letters targets priorities r a)
  dangling-target r a ok s l = (to (test (ltb t states)), λ h. reading-refused letters targets priorities r a 13 (refusal-13 letters targets priorities r a ok s l h) refl)
    where
      t : ℕ
      t = target_at letters targets priorities r a

      to : (ltb t states ≡ true) ⊎ (ltb t states ≡ false) → reading_of letters targets priorities r a ≡ Err NoSuchTarget → states ≤ t
      to (inl y) e =
          let moved = reading-moved letters targets priorities r a (refusal-none letters targets priorities r a ok s l (lt-true t states y)) in
          absurd (false≢true (ap no_state (sym moved ∙ e)))
      to (inr n) e = lt-false t states n

  -- a letter outside is not answered 13
  pub outside-answer : (r : Run) (a : ℕ) → ltb a letters ≡ false → no_state (reading_of letters targets priorities r a) ≡ false
  outside-answer r a f =
      let q = refusal-outside letters targets priorities r a f in
      ap no_state (reading-refused letters targets priorities r a (refusal_of letters targets priorities r a) refl q.0) ∙ ap (λ (n : ℕ). eqb n 13) (number-refusal letters targets priorities r a q.0) ∙ q.1

  -- ---- a list of letters
  met-dangles : (w : List ℕ) (r : Run) → non_empty (met step dangles w r) ≡ true → ReadsDangling letters targets priorities r w
  unfolding met after
  met-dangles [] r t = absurd (false≢true t)
  met-dangles (a ∷ w) r t = go (or_cases (non_empty (dangles r a)) (non_empty (met step dangles w (step r a))) (sym (non_empty-append (dangles r a) (met step dangles w (step r a))) ∙ t)) (met-dangles w (step r a))
    where
      go : (non_empty (dangles r a) ≡ true) ⊎ (non_empty (met step dangles w (step r a)) ≡ true) → (non_empty (met step dangles w (step r a)) ≡ true → ReadsDangling letters targets priorities (step r a) w)
          → ReadsDangling letters targets priorities r (a ∷ w)
      go (inl q) ih = record { start = []; letter = a; rest = w; letters_are = refl; answered = dangling-answer r a q }
      go (inr q) ih = let s = ih q in record { start = a ∷ s.start; letter = s.letter; rest = s.rest; letters_are = ap (λ (l : List ℕ). a ∷ l) s.letters_are; answered = s.answered }

  dangles-met : (w : List ℕ) (r : Run) → ReadsDangling letters targets priorities r w → (y : ℕ) × Memᴰ y (met step dangles w r)
  unfolding met
  dangles-met w r s =
      let same = after_any step (row_meets letters targets priorities) dangles s.start r in
      let last = after step dangles s.start r in
      let here : Memᴰ s.letter (dangles last s.letter) = answer-dangling last s.letter (subst (λ (x : Run). reading_of letters targets priorities x s.letter ≡ Err NoSuchTarget) same s.answered) in (
        s.letter,
        subst (Memᴰ s.letter) (sym (ap (λ (l : List ℕ). met step dangles l r) s.letters_are ∙ met-append step dangles s.start (s.letter ∷ s.rest) r))
            (mathlib.Core.List.Memᴰ.append_right (met step dangles s.start r) (mathlib.Core.List.Memᴰ.append_left (met step dangles s.rest (step last s.letter)) here)),
      )

  module _ (r : Run) (stem loop : List ℕ) where
    -- the stem's end
    abbrev begun : Run
    begun = after step dangles stem r

    abbrev round : Run → Run
    round = after step dangles loop

    abbrev found : Run → List ℕ
    found = met step dangles loop

    -- all that the stem and k rounds meet
    met_all : (k : ℕ) → met step dangles (stem ++ times k loop) r ≡ met step dangles stem r ++ rounds round found begun 0 k
    unfolding iter
    met_all k = met-append step dangles stem (times k loop) r ∙ ap (λ (l : List ℕ). met step dangles stem r ++ l) (met-times step dangles loop begun 0 k)

    ever-met : ever_dangling letters targets priorities r stem loop ≡ non_empty (met step dangles (stem ++ times states loop) r)
    unfolding ever_dangling
    ever-met = sym (ap non_empty (met_all states) ∙ non_empty-append (met step dangles stem r) (rounds round found begun 0 states))

    module _ (h : r.state < states) where
      -- the run keeps to the states
      begun-lt : {B : Type 0} (m : Run → ℕ → List B) (w : List ℕ) (x : Run) → x.state < states → (after step m w x).state < states
      begun-lt m w x l = after-keeps step m (λ x. x.state < states) (row_within letters targets priorities) w x l

      -- what any round meets, one of the first rounds meets
      met-once : (t y : ℕ) → Memᴰ y (found (iter round t begun)) → ever_dangling letters targets priorities r stem loop ≡ true
      met-once t y m =
          let q = met-first round found begun (λ r. r.state) (λ n. record { state = n }) (λ r. refl) (λ n. refl) states (λ x l. begun-lt dangles loop x l) (begun-lt dangles stem r h) t y m in
          ever-met ∙ ap non_empty (met_all states) ∙ member-some (met step dangles stem r ++ rounds round found begun 0 states) y (mathlib.Core.List.Memᴰ.append_right (met step dangles stem r) q)

      -- question 13: the run ever reads such a row
      pub dangling : (ever_dangling letters targets priorities r stem loop ≡ true) ↔ ((k : ℕ) × ReadsDangling letters targets priorities r (stem ++ times k loop))
      dangling = (λ t. (states, met-dangles (stem ++ times states loop) r (sym ever-met ∙ t)), λ q. from q.0 (dangles-met (stem ++ times q.0 loop) r q.1))
        where
          from : (k : ℕ) → ((y : ℕ) × Memᴰ y (met step dangles (stem ++ times k loop) r)) → ever_dangling letters targets priorities r stem loop ≡ true
          from k q = cases (mathlib.Core.List.Memᴰ.append_cases (met step dangles stem r) (subst (Memᴰ q.0) (met_all k) q.1))
            where
              cases : Memᴰ q.0 (met step dangles stem r) ⊎ Memᴰ q.0 (rounds round found begun 0 k) → ever_dangling letters targets priorities r stem loop ≡ true
              cases (inl m) = ever-met ∙ ap non_empty (met_all states) ∙ member-some (met step dangles stem r ++ rounds round found begun 0 states) q.0 (mathlib.Core.List.Memᴰ.append_left (rounds round found begun 0 states) m)
              cases (inr m) = let w = mem-rounds round found begun 0 k q.0 m in met-once w.0 q.0 w.3

      -- ---- the least recurring priority
      abbrev meets : Run → ℕ → List ℕ
      meets = row_meets letters targets priorities

      -- the end of round t
      abbrev at : ℕ → Run
      at t = iter (after step meets loop) t (after step meets stem r)

      at_same : (t : ℕ) → at t ≡ iter round t begun
      at_same t = iter-any (after step meets loop) round (λ x. after_any step meets dangles loop x) t (after step meets stem r) ∙ ap (iter round t) (after_any step meets dangles stem r)

      -- where no such row is read, a round meets a priority of the table
      round-meets : shaped letters targets priorities ≡ true → in_range letters loop ≡ true → non_empty loop ≡ true → ever_dangling letters targets priorities r stem loop ≡ false
          → (t : ℕ) → (i : ℕ) × Memᴰ (get_or priorities i 0) (met step meets loop (at t))
      unfolding met in_range
      round-meets ok range some none t = go loop refl some range
        where
          go : (l : List ℕ) → loop ≡ l → non_empty l ≡ true → in_range letters l ≡ true → (i : ℕ) × Memᴰ (get_or priorities i 0) (met step meets l (at t))
          go [] e s q = absurd (false≢true s)
          go (a ∷ w) e s q = (
            row_of letters (at t).state a,
            mathlib.Core.List.Memᴰ.append_left (met step meets w (step (at t) a)) (subst (Memᴰ (get_or priorities (row_of letters (at t).state a) 0)) (sym (row-moves letters targets priorities (at t) a ok inside a-letter (target (test (ltb to states)))).1) (mathlib.Core.List.Memᴰ.head refl)),
          )
            where
              to : ℕ
              to = get_or targets (row_of letters (at t).state a) 0

              a-letter : ltb a letters ≡ true
              a-letter = and_l (ltb a letters) (all (λ a. ltb a letters) w) q

              inside : (at t).state < states
              inside = iter-keeps (after step meets loop) (λ x. x.state < states) (λ x l. begun-lt meets loop x l) (after step meets stem r) (begun-lt meets stem r h) t

              met-here : reading_of letters targets priorities (at t) a ≡ Err NoSuchTarget → Memᴰ a (met step dangles (a ∷ w) (iter round t begun))
              met-here k = mathlib.Core.List.Memᴰ.append_left (met step dangles w (step (iter round t begun) a)) (answer-dangling (iter round t begun) a (subst (λ (x : Run). reading_of letters targets priorities x a ≡ Err NoSuchTarget) (at_same t) k))

              target : (ltb to states ≡ true) ⊎ (ltb to states ≡ false) → to < states
              target (inl y) = lt-true to states y
              target (inr n) =
                  let k = (dangling-target (at t) a ok inside (lt-true a letters a-letter)).1 (lt-false to states n) in
                  absurd (true≢false (sym (met-once t a (subst (λ (l : List ℕ). Memᴰ a (met step dangles l (iter round t begun))) (sym e) (met-here k))) ∙ none))

      pub least-recurring : shaped letters targets priorities ≡ true → non_empty loop ≡ true → in_range letters loop ≡ true → ever_dangling letters targets priorities r stem loop ≡ false
          → ((i : ℕ) → get_or priorities i 0 ≤ 255)
          → RecursInRun (row_step letters targets priorities) (row_meets letters targets priorities) stem loop r (least_recurring letters targets priorities r stem loop)
          × ((k : ℕ) → RecursInRun (row_step letters targets priorities) (row_meets letters targets priorities) stem loop r k → least_recurring letters targets priorities r stem loop ≤ k)
      unfolding least_recurring window
      least-recurring ok some range none bytes = ((recurs (least_of held)).1 (least-mem held (get_or priorities one.0 0) in_held (bytes one.0)), λ k q. least-le held k ((recurs k).0 q))
        where
          held : List ℕ
          held = window step meets states stem loop r

          recurs : (k : ℕ) → RecursInRun step meets stem loop r k ↔ Memᴰ k held
          recurs k = numbered-recurring step meets (λ r. r.state) (λ n. record { state = n }) (λ r. refl) (λ n. refl) states (row_within letters targets priorities) stem loop r h k

          one : (i : ℕ) × Memᴰ (get_or priorities i 0) (met step meets loop (at states))
          one = round-meets ok range some none states

          in_held : Memᴰ (get_or priorities one.0 0) held
          in_held = rounds-mem (after step meets loop) (met step meets loop) (after step meets stem r) states states states (get_or priorities one.0 0) (omega arith) (omega arith) one.1
