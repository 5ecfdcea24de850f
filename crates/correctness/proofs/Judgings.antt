-- Judging the policy and judging the built rows come to the same: over any rows of a legal policy the least recurring priority is even exactly if the recurring colours are in the family;
-- and so after a call of translating that succeeded, where no letter is refused, both calls of judging answer. Assumes nothing.
use Prim.Native.Nat.{ℕ, ◌≤◌, ◌<◌}
use native.Mathlib.Omega.{arith}
use mathlib.Core.Path.{◌≡◌, refl, sym, ap, ◌∙◌, subst}
use mathlib.Core.Logic.{◌⊎◌, inl, inr, ◌≢◌, ◌↔◌}
use mathlib.Core.Bool.{Bool, true, false, true≢false, false≢true}
use mathlib.Core.List.{List, [], ◌∷◌, ◌++◌, Memᴰ, nil≢cons}
use lib.Dec.{ltb}
use lib.ListN.{length, take}
use Rattle.lists.specs.Lists.{any, all}
use Rattle.lists.proofs.Bools.{test, and_l, or_left, both, bool-ext}
use Rattle.masks.specs.Masks.{has}
use Rattle.masks.proofs.Bits.{mask-ext}
use Rattle.recurrence.specs.Iterates.{iter}
use Rattle.recurrence.specs.Runs.{after, met, window}
use Rattle.recurrence.proofs.Runs.{numbered-recurring}
use Rattle.recurrence.proofs.Repeats.{iter-keeps}
use Rattle.policy.specs.declared.Policy.{Policy}
use Rattle.policy.specs.Policies.{legal, in_family}
use Rattle.forest.specs.Forest.{forest, even}
use Rattle.automaton.specs.Automaton.{built, state_at}
use Rattle.automaton.proofs.RowPriorities.{priority-after-few}
use Rattle.automaton.proofs.EdgeRuns.{met_run}
use Rattle.running.specs.declared.Run.{Run}
use Rattle.running.specs.declared.Met.{Met}
use Rattle.std.specs.Prelude.{Result, Ok, Err}
use Rattle.refusals.specs.declared.Refusal.{Refusal}
use Rattle.running.specs.Running.{row_states, reading_of, priorities_of, row_step, row_meets}
use Rattle.running.proofs.Steps.{row_within}
use Rattle.judging.specs.declared.Verdict.{Verdict}
use Rattle.judging.specs.Judging.{non_empty, in_range, least_of, recurring_colours, no_state, ever_dangling, least_recurring}
use Rattle.judging.proofs.Laws.{least-le, least-mem}
use Rattle.judging.proofs.Answers.{policy-none, policy-judged, rows_none, rows-least}
use Rattle.judging.proofs.Meaning.{recurring-colours, outside-answer, dangling}
use Rattle.correctness.specs.Calls.{Translating, translate_shows, wulfrenda_translate_shows, wulfrenda_translate_bytes_shows}
use Rattle.correctness.specs.Demand3.{state_count, under, Beginning}
use Rattle.correctness.specs.Judgings.{JudgedAlike, Judgings}
use Rattle.correctness.proofs.BuiltRows.{Rows, StandsOver, policy_run, built_run, RecurringPriority}
use Rattle.correctness.proofs.Joint.{Read, in-good, read, stands_after}
use Rattle.correctness.proofs.Period.{Settled, settled}
use Rattle.correctness.proofs.Translated.{Success, success-legal, stands-over, rows-after}
use Rattle.correctness.proofs.Demand3.{translated, wulfrenda-translated, wulfrenda-translated-bytes}

-- a loop whose letters are all the policy's has one
some-letter : (letters : ℕ) (loop : List ℕ) → non_empty loop ≡ true → in_range letters loop ≡ true → any (λ a. ltb a letters) loop ≡ true
unfolding in_range
some-letter letters [] some range = absurd (false≢true some)
some-letter letters (a ∷ w) some range = or_left (ltb a letters) (any (λ a. ltb a letters) w) (and_l (ltb a letters) (all (λ a. ltb a letters) w) range)

-- ---- a reading that is not answered 13
met-no-dangling : (q : Result Met Refusal) (k : ℕ) (ks : List ℕ) → priorities_of q ++ [] ≡ k ∷ ks → no_state q ≡ false
met-no-dangling (Ok m) k ks e = refl
met-no-dangling (Err e') k ks e = absurd (nil≢cons e)

module _ (p : Policy) (ok : legal p ≡ true) where
  -- ---- a priority that is met is at most 9
  met-few : (es : List ℕ) (l k : ℕ) → Memᴰ k (met_run (forest p) p es l) → k ≤ 9
  unfolding met_run
  met-few [] l k x' = elim x' [ ]
  met-few (e ∷ es) l k (Memᴰ.head q) = subst (λ (x : ℕ). x ≤ 9) (sym q) (priority-after-few p ok e l)
  met-few (e ∷ es) l k (Memᴰ.tail m) = met-few es _ k m

  module _ (targets priorities : List ℕ) (rows : Rows p targets priorities) where
    abbrev step : Run → ℕ → Run
    step = row_step p.letters targets priorities

    abbrev meets : Run → ℕ → List ℕ
    meets = row_meets p.letters targets priorities

    -- ---- from a built state
    abbrev IsBuilt : Run → Type 0
    IsBuilt r = r.state < length (built p)

    keeps : (w : List ℕ) (r : Run) → IsBuilt r → IsBuilt (after step meets w r)
    keeps w r h = (stands_after p ok targets priorities rows w r (state_at p r.state).state (record { is-built = h; over = refl })).is-built

    reading : (w : List ℕ) (r : Run) → IsBuilt r → Read p targets priorities w r (state_at p r.state).state (state_at p r.state).leaf
    reading w r h = read p ok targets priorities rows w r (state_at p r.state).state (state_at p r.state).leaf (record { is-built = h; over = refl; leaf_is = refl })

    recurring-few : (stem loop : List ℕ) (r : Run) → IsBuilt r → (k : ℕ) → RecurringPriority p targets priorities stem loop r k → k ≤ 9
    recurring-few stem loop r h k rec =
        let q = rec 0 in
        let end = iter (after step meets loop) q.0 (after step meets stem r) in
        let i = reading loop end (iter-keeps (after step meets loop) IsBuilt (keeps loop) (after step meets stem r) (keeps stem r h) q.0) in
        met-few i.taken (state_at p end.state).leaf k (subst (Memᴰ k) i.priorities_are q.2)

    -- ---- no letter is answered 13
    no-dangling : (r : Run) (a : ℕ) → IsBuilt r → no_state (reading_of p.letters targets priorities r a) ≡ false
    unfolding met met_run row_meets
    no-dangling r a h = go (test (ltb a p.letters))
      where
        taken : (es : List ℕ) (l : ℕ) → es ≢ [] → met step meets (a ∷ []) r ≡ met_run (forest p) p es l → no_state (reading_of p.letters targets priorities r a) ≡ false
        taken [] l some e = absurd (some refl)
        taken (x ∷ es) l some e = met-no-dangling (reading_of p.letters targets priorities r a) _ _ e

        go : (ltb a p.letters ≡ true) ⊎ (ltb a p.letters ≡ false) → no_state (reading_of p.letters targets priorities r a) ≡ false
        go (inl t) =
            let i = reading (a ∷ []) r h in
            taken i.taken (state_at p r.state).leaf (i.some (or_left (ltb a p.letters) false t)) i.priorities_are
        go (inr f) = outside-answer p.letters targets priorities r a f

    never-dangling : (stem loop : List ℕ) (r : Run) → IsBuilt r → ever_dangling p.letters targets priorities r stem loop ≡ false
    never-dangling stem loop r h = go (test (ever_dangling p.letters targets priorities r stem loop))
      where
        go : (ever_dangling p.letters targets priorities r stem loop ≡ true) ⊎ (ever_dangling p.letters targets priorities r stem loop ≡ false) → ever_dangling p.letters targets priorities r stem loop ≡ false
        go (inl t) =
            let q = ((dangling p.letters targets priorities r stem loop (omega (arith, rows.enough))).0 t).1 in
            absurd (true≢false (sym (ap no_state q.answered) ∙ no-dangling (after step meets q.start r) q.letter (keeps q.start r h)))
        go (inr f) = f

    module _ (stem loop : List ℕ) (some : any (λ a. ltb a p.letters) loop ≡ true) (r : Run) (v : ℕ) (begins : StandsOver p r v) where
      -- the loop, begun where the stem leads
      decided : Settled p targets priorities loop (built_run p targets priorities stem r) (policy_run p stem v)
      decided = settled p ok targets priorities rows loop some (built_run p targets priorities stem r) (policy_run p stem v) (stands_after p ok targets priorities rows stem r v begins)

      v-lt : v < p.states
      v-lt = (in-good p ok r v (state_at p r.state).leaf (record { is-built = begins.is-built; over = begins.over; leaf_is = refl })).0

      -- ---- the computed answers are what recurs
      least_is : least_recurring p.letters targets priorities r stem loop ≡ decided.least
      unfolding least_recurring
      least_is =
          omega (arith, least-le held decided.least least-held, decided.least_lowest (least_of held) ((recurs (least_of held)).1 (least-mem held decided.least least-held low)))
        where
          held : List ℕ
          held = window step meets (row_states p.letters targets priorities) stem loop r

          recurs : (k : ℕ) → RecurringPriority p targets priorities stem loop r k ↔ Memᴰ k held
          recurs k =
              numbered-recurring step meets (λ (r : Run). r.state) (λ (s : ℕ). record { state = s }) (λ r. refl) (λ s. refl) (row_states p.letters targets priorities)
              (row_within p.letters targets priorities) stem loop r (omega (arith, begins.is-built, rows.enough)) k

          least-held : Memᴰ decided.least held
          least-held = (recurs decided.least).0 decided.least_recurs

          low : decided.least ≤ 255
          low = omega (arith, recurring-few stem loop r begins.is-built decided.least decided.least_recurs)

      colours_are : recurring_colours p v stem loop ≡ decided.colours
      colours_are =
          mask-ext (recurring_colours p v stem loop) decided.colours
          (λ c.
          let q = recurring-colours p ok v v-lt stem loop c in
          let d = decided.colours_recur c in
          bool-ext (has (recurring_colours p v stem loop) c) (has decided.colours c) (λ t. d.1 (q.0 t)) (λ t. q.1 (d.0 t)))

      rows_agree : even (least_recurring p.letters targets priorities r stem loop) ≡ in_family p (recurring_colours p v stem loop)
      rows_agree = ap even least_is ∙ decided.verdict ∙ ap (in_family p) (sym colours_are)

-- ---- both calls
abbrev judged : ℕ → Bool → Result Verdict Refusal
judged colours accepted = Ok (record { colours = colours; accepted = accepted })

module _ (t : Translating) (done : Success t) (size : ℕ) (b : Beginning t size) (stem loop : List ℕ) (some : non_empty loop ≡ true) (stem_range : in_range t.policy.letters stem ≡ true)
    (loop_range : in_range t.policy.letters loop ≡ true) (s : ℕ) (h : s < state_count t) where
  abbrev p : Policy
  p = t.policy

  abbrev targets : List ℕ
  targets = take size t.exit.targets

  abbrev priorities : List ℕ
  priorities = take size t.exit.priorities

  abbrev r : Run
  r = record { state = s }

  judged-alike : JudgedAlike t size stem loop s
  judged-alike =
      let ok = success-legal t done in
      let rows = rows-after t done size b in
      let begins = stands-over t done r h in
      let letter = some-letter p.letters loop some loop_range in
      let range = both (in_range p.letters stem) (in_range p.letters loop) stem_range loop_range in
      record {
        least = least_recurring p.letters targets priorities r stem loop;
        colours = recurring_colours p (under t s) stem loop;
        rows_answer = rows-least p.letters targets priorities r stem loop
            (rows_none p.letters targets priorities r stem loop b.passes (omega (arith, begins.is-built, rows.enough)) some range (never-dangling p ok targets priorities rows stem loop r begins.is-built));
        policy_answers = policy-judged p (under t s) stem loop (policy-none p (under t s) stem loop ok (v-lt p ok targets priorities rows stem loop letter r (under t s) begins) some range)
            ∙ ap (judged (recurring_colours p (under t s) stem loop)) (sym (rows_agree p ok targets priorities rows stem loop letter r (under t s) begins));
      }

pub judgings : Judgings
judgings = record {
  of_the_core = λ t returned. judged-alike (translate_shows t.at) (translated t returned);
  of_the_library = λ t returned. judged-alike (wulfrenda_translate_shows t.at) (wulfrenda-translated t returned);
  of_the_library_from_bytes = λ t returned. judged-alike (wulfrenda_translate_bytes_shows t.at) (wulfrenda-translated-bytes t returned);
}
