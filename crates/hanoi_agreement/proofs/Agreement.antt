-- A document that is read and its policy agree on every stem and loop: they go through the same states; a mark recurs exactly if it is in the mark set of a colour that recurs; and so the
-- union of the recurring colours' mark sets, on which the family was decided, is the set of the recurring marks. Assumes nothing.
use Prim.Native.Nat.{ℕ, zero, suc, ◌+◌, ◌*◌, ◌^◌, ◌<◌}
use native.Mathlib.Omega.{arith}
use native.Mathlib.Nat.{le_refl}
use mathlib.Core.Path.{◌≡◌, refl, sym, ap, ◌∙◌, subst}
use mathlib.Core.Logic.{◌⊎◌, inl, inr, ◌↔◌}
use mathlib.Core.Bool.{true, false, false≢true}
use mathlib.Core.List.Memᴰ
use mathlib.Core.List.{List, [], ◌∷◌, Memᴰ}
use lib.Arith.{digits_lt}
use lib.Dec.{ltb}
use lib.ListN.{length, get_or}
use Rattle.lists.specs.Lists.{any}
use Rattle.lists.proofs.Bools.{test, lt-true}
use Rattle.lists.proofs.Numbers.{set-byte}
use Rattle.masks.specs.Masks.{has}
use Rattle.masks.proofs.Bits.{lt-of-bits}
use Rattle.masks.proofs.Members.{some-nonzero}
use Rattle.masks.proofs.SetOf.{set-has}
use Rattle.recurrence.specs.Iterates.{iter}
use Rattle.recurrence.specs.Runs.{after, met, window}
use Rattle.recurrence.proofs.Periods.{rounds-mem}
use Rattle.recurrence.proofs.Runs.{recurring-window}
use Rattle.policy.specs.declared.Policy.{Policy}
use Rattle.policy.specs.Policies.{legal, edge_of, in_family, colour_of}
use Rattle.policy.proofs.Laws.{plain-loud, edge-colour-is, is-edge-colour, edge-coloured}
use Rattle.running.specs.Running.{policy_step, policy_meets}
use Rattle.running.proofs.Steps.{policy-moves, policy-stays, policy-within}
use Rattle.judging.specs.Judging.{recurring_colours}
use Rattle.judging.proofs.Meaning.{recurring-colours}
use Rattle.mark_sets.specs.MarkSets.{union_at}
use Rattle.hanoi.specs.Documents.{Document, marks_of, letters, lawful}
use Rattle.hanoi.specs.Meaning.{holds, mark_set, edges_of, mark_sets, colour_of as edge_colour, policy_of, edge_at, meets}
use Rattle.hanoi.specs.Answers.{answer_of}
use Rattle.correctness.specs.Demand3.{letter_at, Recurs, policy_state, colours_met}
use Rattle.correctness.proofs.Sequences.{recurs-along}
use Rattle.hanoi_agreement.specs.Agreement.{text_state, marks_met, Agreement}
use Rattle.mark_sets.proofs.Unions.{union-has}
use Rattle.hanoi.proofs.Documents.{colour-lt, colour-has, edges-long, edge_in}
use Rattle.hanoi_agreement.proofs.PolicyOf.{letters_are, no-quiet, colour-at, step_same, family-at, named-is}
use Rattle.hanoi_agreement.proofs.Legal.{is_read, read-parts, read-legal}
use Rattle.hanoi_agreement.proofs.Recurring.{recurs-with}

-- ---- one letter
module _ (d : Document) where
  text-moves : (v a : ℕ) → ltb a (letters d) ≡ true → meets d v a ≡ marks_of (edge_at d v a)
  unfolding meets
  text-moves v a t = rw t refl

  text-stays : (v a : ℕ) → ltb a (letters d) ≡ false → meets d v a ≡ []
  unfolding meets
  text-stays v a f = rw f refl

module _ (d : Document) (ok : lawful d ≡ true) where
  abbrev p : Policy
  p = policy_of d

  -- colour c has mark m
  abbrev Has : ℕ → ℕ → Type 0
  Has c m = has (get_or (mark_sets d) c 0) m ≡ true

  module _ (v a : ℕ) (h : v < d.states) where
    -- the colour of the edge that is taken
    abbrev colour : ℕ
    colour = edge_colour d (edge_at d v a)

    module _ (t : ltb a (letters d) ≡ true) where
      within : Memᴰ (edge_at d v a) (edges_of d)
      within = edge_in d ok v a h (lt-true a (letters d) t)

      colour-is : colour_of p (edge_of p v a) ≡ colour
      unfolding edge_of edge_at policy_of
      colour-is = colour-at d (v * letters d + a) (subst (λ (n : ℕ). v * letters d + a < n) (sym (edges-long d ok)) (digits_lt h (lt-true a (letters d) t)))

      met-colour : (c : ℕ) → Memᴰ c (policy_meets p v a) → c ≡ colour
      met-colour c m = edge-colour-is p (edge_of p v a) c (subst (Memᴰ c) (policy-moves p v a (ap (ltb a) (letters_are d) ∙ t)).1 m) ∙ colour-is

      colour-met : Memᴰ colour (policy_meets p v a)
      colour-met = subst (Memᴰ colour) (sym (policy-moves p v a (ap (ltb a) (letters_are d) ∙ t)).1) (is-edge-colour p (edge_of p v a) colour (plain-loud p (no-quiet d) (edge_of p v a)) (sym colour-is))

      -- its marks are the ones met
      has-marks : (m : ℕ) → Has colour m ↔ Memᴰ m (meets d v a)
      unfolding mark_set
      has-marks m =
          let e = ap (λ (s : ℕ). has s m) (colour-has d (edge_at d v a) within) in
          let q = set-has (marks_of (edge_at d v a)) m in
          (λ u. subst (Memᴰ m) (sym (text-moves d v a t)) (q.0 (sym e ∙ u)), λ u. e ∙ q.1 (subst (Memᴰ m) (text-moves d v a t) u))

    -- each mark that is met is one of a colour that is met
    mark-coloured : (m : ℕ) → Memᴰ m (meets d v a) → (c : ℕ) × Memᴰ c (policy_meets p v a) × Has c m
    mark-coloured m u = go (test (ltb a (letters d)))
      where
        go : (ltb a (letters d) ≡ true) ⊎ (ltb a (letters d) ≡ false) → (c : ℕ) × Memᴰ c (policy_meets p v a) × Has c m
        go (inl t) = (colour, colour-met t, (has-marks t m).1 u)
        go (inr f) = absurd (Memᴰ.not-nil (subst (Memᴰ m) (text-stays d v a f) u))

    -- a colour that is met is one of the mark sets, and all of its marks are met
    colour-marked : (c : ℕ) → Memᴰ c (policy_meets p v a) → (c < length (mark_sets d)) × ((m : ℕ) → Has c m → Memᴰ m (meets d v a))
    colour-marked c u = go (test (ltb a (letters d)))
      where
        go : (ltb a (letters d) ≡ true) ⊎ (ltb a (letters d) ≡ false) → (c < length (mark_sets d)) × ((m : ℕ) → Has c m → Memᴰ m (meets d v a))
        go (inl t) =
            let e = met-colour t c u in
            (subst (λ (x : ℕ). x < length (mark_sets d)) (sym e) (colour-lt d (edge_at d v a) (within t)), λ m k. (has-marks t m).0 (subst (λ (x : ℕ). Has x m) e k))
        go (inr f) = absurd (Memᴰ.not-nil (subst (Memᴰ c) (policy-stays p v a (ap (ltb a) (letters_are d) ∙ f)).1 u))

  -- letters of which one is read meet a colour
  some-met : (w : List ℕ) (v : ℕ) → any (λ a. ltb a (letters d)) w ≡ true → (c : ℕ) × Memᴰ c (met (policy_step p) (policy_meets p) w v)
  unfolding met
  some-met [] v e = absurd (false≢true e)
  some-met (a ∷ w) v e = go (test (ltb a (letters d))) (some-met w (policy_step p v a))
    where
      rest : List ℕ
      rest = met (policy_step p) (policy_meets p) w (policy_step p v a)

      go : (ltb a (letters d) ≡ true) ⊎ (ltb a (letters d) ≡ false) → (any (λ a. ltb a (letters d)) w ≡ true → (c : ℕ) × Memᴰ c (met (policy_step p) (policy_meets p) w (policy_step p v a)))
          → (c : ℕ) × Memᴰ c (met (policy_step p) (policy_meets p) (a ∷ w) v)
      go (inl t) ih =
          let c = edge-coloured p (edge_of p v a) (plain-loud p (no-quiet d) (edge_of p v a)) in
          (c.0, Memᴰ.append_left rest (subst (Memᴰ c.0) (sym (policy-moves p v a (ap (ltb a) (letters_are d) ∙ t)).1) c.1))
      go (inr f) ih = let c = ih (rw f at e) in (c.0, Memᴰ.append_right (policy_meets p v a) c.1)

  -- ---- a stem and a loop, from v
  module _ (read : is_read (answer_of d) ≡ true) (v : ℕ) (h : v < d.states) (stem loop : List ℕ) where
    p-legal : legal p ≡ true
    p-legal = read-legal d ok read

    stays : (s a : ℕ) → s < d.states → policy_step p s a < d.states
    unfolding policy_of
    stays s a l = policy-within p p-legal s a l

    abbrev state : ℕ → ℕ
    state = policy_state stem loop p v

    goes : (i : ℕ) → state (suc i) ≡ policy_step p (state i) (letter_at stem loop i)
    unfolding policy_state
    goes i = refl

    state_lt : (i : ℕ) → state i < d.states
    unfolding policy_state
    state_lt zero = h
    state_lt (suc i) = stays (state i) (letter_at stem loop i) (state_lt i)

    same_state : (i : ℕ) → text_state stem loop d v i ≡ state i
    unfolding text_state policy_state
    same_state zero = refl
    same_state (suc i) = step_same d (text_state stem loop d v i) (letter_at stem loop i) ∙ ap (λ (s : ℕ). policy_step p s (letter_at stem loop i)) (same_state i)

    marks_are : (i : ℕ) → marks_met stem loop d v i ≡ meets d (state i) (letter_at stem loop i)
    unfolding marks_met
    marks_are i = ap (λ (s : ℕ). meets d s (letter_at stem loop i)) (same_state i)

    -- ---- what recurs
    abbrev colours : ℕ
    colours = recurring_colours p v stem loop

    colours_recur : (c : ℕ) → (has colours c ≡ true) ↔ Recurs stem loop (colours_met stem loop p v) c
    unfolding colours_met policy_state policy_of
    colours_recur c =
        let q = recurring-colours p p-legal v h stem loop c in
        let e = recurs-along (policy_step p) (policy_meets p) stem loop state goes c in
        (λ t. e.1 (q.0 t), λ r. q.1 (e.0 r))

    -- a colour that recurs is one of the mark sets, and all of its marks recur
    colour-recurs : (c : ℕ) → has colours c ≡ true → (c < length (mark_sets d)) × ((m : ℕ) → Has c m → Recurs stem loop (marks_met stem loop d v) m)
    unfolding colours_met
    colour-recurs c t = (
      let q = (colours_recur c).0 t 0 in (colour-marked (state q.2) (letter_at stem loop q.2) (state_lt q.2) c q.4).0,
      λ m k n.
          let q = (colours_recur c).0 t n in
          let u = (colour-marked (state q.2) (letter_at stem loop q.2) (state_lt q.2) c q.4).1 m k in
          (q.0, q.1, q.2, q.3, subst (Memᴰ m) (sym (marks_are q.2)) u),
    )

    -- a mark that recurs is one of a colour that recurs
    mark-recurs : (m : ℕ) → Recurs stem loop (marks_met stem loop d v) m → (c : ℕ) × (has colours c ≡ true) × Has c m
    unfolding policy_state policy_of
    mark-recurs m r =
        let along = (recurs-along (policy_step p) (meets d) stem loop state goes m).0 (λ n. let q = r n in (q.0, q.1, q.2, q.3, subst (Memᴰ m) (marks_are q.2) q.4)) in
        let c = recurs-with (policy_step p) d.states stays (meets d) (policy_meets p) (λ m c. Has c m) (λ s a l m u. mark-coloured s a l m u) stem loop v h m along in
        (c.0, (recurring-colours p p-legal v h stem loop c.0).1 c.1, c.2)

    -- ---- the sets
    abbrev marks : ℕ
    marks = union_at (mark_sets d) colours (length (mark_sets d))

    marks_recur : (m : ℕ) → (has marks m ≡ true) ↔ Recurs stem loop (marks_met stem loop d v) m
    marks_recur m = (
      λ t. let c = (union-has (mark_sets d) colours (length (mark_sets d)) m).0 t in (colour-recurs c.0 c.2).1 m c.3,
      λ r. let c = mark-recurs m r in (union-has (mark_sets d) colours (length (mark_sets d)) m).1 (c.0, (colour-recurs c.0 c.1).0, c.1, c.2),
    )

    colours-lt : colours < 2 ^ length (mark_sets d)
    colours-lt = lt-of-bits (length (mark_sets d)) colours (λ c t. (colour-recurs c t).0)

    -- a loop with a letter of the text has a recurring colour
    some-colour : any (λ a. ltb a (letters d)) loop ≡ true → (c : ℕ) × (has colours c ≡ true)
    unfolding window policy_of
    some-colour some =
        let n = d.states in
        let round = after (policy_step p) (policy_meets p) loop in
        let begun = after (policy_step p) (policy_meets p) stem v in
        let c = some-met loop (iter round n begun) some in
        let held = rounds-mem round (met (policy_step p) (policy_meets p) loop) begun n n n c.0 (le_refl n) (omega arith) c.1 in
        (c.0, (recurring-colours p p-legal v h stem loop c.0).1 ((recurring-window (policy_step p) (policy_meets p) n stays stem loop v h c.0).1 held))

    verdict : any (λ a. ltb a (letters d)) loop ≡ true → holds marks d.formula ≡ in_family p colours
    verdict some =
        let c = some-colour some in
        let few = set-byte (length (mark_sets d)) colours (read-parts d read).colours_few colours-lt in
        sym (family-at d colours few ∙ named-is d colours (omega (arith, some-nonzero colours c.0 c.1)) colours-lt)

    pub agreement : Agreement d p v stem loop
    agreement = record { same_state = same_state; decided = λ some. record { marks = marks; marks_recur = marks_recur; colours = colours; colours_recur = colours_recur; verdict = verdict some } }

pub agrees : (d : Document) → lawful d ≡ true → is_read (answer_of d) ≡ true → (v : ℕ) → v < d.states → (stem loop : List ℕ) → Agreement d (policy_of d) v stem loop
agrees d ok read v h stem loop = agreement d ok read v h stem loop
