-- What reading one letter does, in the policy's run and in the run over rows. Assumes nothing.
use Prim.Native.Nat.{ℕ, ◌≤◌, ◌<◌}
use mathlib.Core.Path.{◌≡◌, refl, sym, ap, ◌∙◌, subst}
use mathlib.Core.Logic.{◌⊎◌, inl, inr}
use mathlib.Core.Bool.{Bool, true, false, cond, false≢true}
use mathlib.Core.List.{List, [], ◌∷◌}
use lib.Dec.{eqb, ltb}
use borrow.Author.Tests.{lt-ltb, le-ltb}
use Rattle.std.specs.Prelude.{Result, Ok, Err}
use Rattle.refusals.specs.declared.Refusal.{Refusal}
use Rattle.refusals.specs.Refusals.{number, refusal as the_refusal}
use Rattle.lists.specs.Questions.{ask}
use Rattle.lists.proofs.Bools.{test, eqb≡, lt-true}
use Rattle.policy.specs.declared.Policy.{Policy}
use Rattle.policy.specs.Policies.{legal, edge_of, target_of, edge_colours}
use Rattle.policy.proofs.Laws.{legal-target, edge-lt}
use Rattle.running.specs.declared.Run.{Run}
use Rattle.running.specs.declared.Met.{Met}
use Rattle.running.specs.Running.{policy_step, policy_meets, row_states, shaped, target_at, priority_at, refusal_of, reading_of, ReadsLetter, row_step, row_meets, number_of, run_after, priority_of, priorities_of}

module _ (p : Policy) where
  -- a letter of the policy takes the edge
  pub policy-moves : (v a : ℕ) → ltb a p.letters ≡ true → (policy_step p v a ≡ target_of p (edge_of p v a)) × (policy_meets p v a ≡ edge_colours p (edge_of p v a))
  unfolding policy_step policy_meets
  policy-moves v a t = (rw t refl, rw t refl)

  -- any other letter is refused
  pub policy-stays : (v a : ℕ) → ltb a p.letters ≡ false → (policy_step p v a ≡ v) × (policy_meets p v a ≡ [])
  unfolding policy_step policy_meets
  policy-stays v a f = (rw f refl, rw f refl)

  -- a run never leaves the policy's states
  pub policy-within : legal p ≡ true → (v a : ℕ) → v < p.states → policy_step p v a < p.states
  policy-within ok v a h = go (test (ltb a p.letters))
    where
      go : (ltb a p.letters ≡ true) ⊎ (ltb a p.letters ≡ false) → policy_step p v a < p.states
      go (inl t) = subst (λ (w : ℕ). w < p.states) (sym (policy-moves v a t).0) (legal-target p ok (edge_of p v a) (edge-lt p v a h (lt-true a p.letters t)))
      go (inr f) = subst (λ (w : ℕ). w < p.states) (sym (policy-stays v a f).0) h

-- ---- the run over rows
-- 0 if every question is answered yes
asked-all : (x y z w : Bool) → eqb (ask x 8 (ask y 11 (ask z 12 (ask w 13 0)))) 0 ≡ true → (x ≡ true) × (y ≡ true) × (z ≡ true) × (w ≡ true)
asked-all true true true true e = (refl, refl, refl, refl)
asked-all true true true false e = absurd (false≢true e)
asked-all true true false w e = absurd (false≢true e)
asked-all true false z w e = absurd (false≢true e)
asked-all false y z w e = absurd (false≢true e)

-- each other answer is the number of its refusal
asked-number : (x y z w : Bool) → let n = ask x 8 (ask y 11 (ask z 12 (ask w 13 0))) in eqb n 0 ≡ false → number (the_refusal n) ≡ n
asked-number true true true true e = absurd (false≢true (sym e))
asked-number true true true false e = refl
asked-number true true false w e = refl
asked-number true false z w e = refl
asked-number false y z w e = refl

-- an answer's values, by whether the letter was read
module _ (n k : ℕ) (r r' : Run) where
  abbrev given : Bool → Result Met Refusal
  given b = cond b (Ok (record { run = r'; priority = k })) (Err (the_refusal n))

  given-number : (b : Bool) → b ≡ eqb n 0 → (eqb n 0 ≡ false → number (the_refusal n) ≡ n) → number_of (given b) ≡ n
  given-number true e h = sym (eqb≡ n 0 (sym e))
  given-number false e h = h (sym e)

  given-run : (b : Bool) → run_after r (given b) ≡ cond b r' r
  given-run true = refl
  given-run false = refl

  given-priority : (b : Bool) → priority_of (given b) ≡ cond b k 0
  given-priority true = refl
  given-priority false = refl

  given-met : (b : Bool) → priorities_of (given b) ≡ cond b (priority_of (given b) ∷ []) []
  given-met true = refl
  given-met false = refl

module _ (letters : ℕ) (targets priorities : List ℕ) (r : Run) (a : ℕ) where
  abbrev states : ℕ
  states = row_states letters targets priorities

  abbrev target : ℕ
  target = target_at letters targets priorities r a

  abbrev refusal : ℕ
  refusal = refusal_of letters targets priorities r a

  -- ---- the questions, up to the first no
  pub refusal-8 : shaped letters targets priorities ≡ false → refusal ≡ 8
  unfolding refusal_of
  refusal-8 f = rw f refl

  module _ (ok : shaped letters targets priorities ≡ true) where
    pub refusal-11 : states ≤ r.state → refusal ≡ 11
    unfolding refusal_of
    refusal-11 s = rw (ok, le-ltb _ _ s) refl

    module _ (among : r.state < states) where
      pub refusal-12 : letters ≤ a → refusal ≡ 12
      unfolding refusal_of
      refusal-12 l = rw (ok, lt-ltb _ _ among, le-ltb _ _ l) refl

      module _ (letter : a < letters) where
        pub refusal-13 : states ≤ target → refusal ≡ 13
        unfolding refusal_of
        refusal-13 t = rw (ok, lt-ltb _ _ among, lt-ltb _ _ letter, le-ltb _ _ t) refl

        pub refusal-none : target < states → refusal ≡ 0
        unfolding refusal_of
        refusal-none t = rw (ok, lt-ltb _ _ among, lt-ltb _ _ letter, lt-ltb _ _ t) refl

  -- a letter outside is refused whatever the rows are, and not for its row's target
  pub refusal-outside : ltb a letters ≡ false → (eqb refusal 0 ≡ false) × (eqb refusal 13 ≡ false)
  unfolding refusal_of
  refusal-outside f = rw f (go (shaped letters targets priorities) (ltb r.state states))
    where
      go : (x y : Bool) → (eqb (ask x 8 (ask y 11 12)) 0 ≡ false) × (eqb (ask x 8 (ask y 11 12)) 13 ≡ false)
      go true true = (refl, refl)
      go true false = (refl, refl)
      go false y = (refl, refl)

  -- ---- the reading
  abbrev moved : Met
  moved = record { run = record { state = target }; priority = priority_at letters targets priorities r a }

  pub reading-moved : refusal ≡ 0 → reading_of letters targets priorities r a ≡ Ok moved
  unfolding reading_of
  reading-moved e = rw e refl

  pub reading-refused : (n : ℕ) → refusal ≡ n → eqb n 0 ≡ false → reading_of letters targets priorities r a ≡ Err (the_refusal n)
  unfolding reading_of
  reading-refused n e f = rw (e, f) refl

  pub number-refusal : eqb refusal 0 ≡ false → number (the_refusal refusal) ≡ refusal
  unfolding refusal_of
  number-refusal f = asked-number (shaped letters targets priorities) (ltb r.state states) (ltb a letters) (ltb target states) f

  -- what Run::read promises says the answer's number and values
  pub reads-letter : (x : Result Met Refusal) → x ≡ reading_of letters targets priorities r a → ReadsLetter letters targets priorities r a x
  unfolding reading_of
  reads-letter x e =
      let n = refusal_of letters targets priorities r a in
      let k = priority_at letters targets priorities r a in
      let to : Run = record { state = target_at letters targets priorities r a } in
      record {
        answer_is = e;
        number_is = ap number_of e ∙ given-number n k r to (eqb n 0) refl number-refusal;
        run_is = ap (run_after r) e ∙ given-run n k r to (eqb n 0);
        priority_is = ap priority_of e ∙ given-priority n k r to (eqb n 0);
      }

  pub reads-refused : (n : ℕ) → refusal ≡ n → eqb n 0 ≡ false → ReadsLetter letters targets priorities r a (Err (the_refusal n))
  reads-refused n e f = reads-letter (Err (the_refusal n)) (sym (reading-refused n e f))

  pub reads-moved : refusal ≡ 0 → ReadsLetter letters targets priorities r a (Ok moved)
  reads-moved e = reads-letter _ (sym (reading-moved e))

  -- a letter meets the priority given back if the number is 0, and nothing otherwise
  pub reading-meets : (x : Result Met Refusal) → ReadsLetter letters targets priorities r a x → priorities_of x ≡ cond (eqb (number_of x) 0) (priority_of x ∷ []) []
  unfolding reading_of
  reading-meets x h =
      let n = refusal_of letters targets priorities r a in
      let k = priority_at letters targets priorities r a in
      let to : Run = record { state = target_at letters targets priorities r a } in
      rw h.number_is (rw h.answer_is (given-met n k r to (eqb n 0)))

  -- ---- one step
  -- a letter of the policy, in one of the rows' states, with a target among them, moves the run
  pub row-moves : shaped letters targets priorities ≡ true → r.state < states → ltb a letters ≡ true → target < states
      → (row_step letters targets priorities r a ≡ record { state = target }) × (row_meets letters targets priorities r a ≡ priority_at letters targets priorities r a ∷ [])
  unfolding row_step row_meets
  row-moves ok s l t = let e = reading-moved (refusal-none ok s (lt-true a letters l) t) in (ap (run_after r) e, ap priorities_of e)

  -- a letter outside is refused whatever the rows are
  pub row-refuses : ltb a letters ≡ false → (row_step letters targets priorities r a ≡ r) × (row_meets letters targets priorities r a ≡ [])
  unfolding row_step row_meets
  row-refuses f = let e = reading-refused refusal refl (refusal-outside f).0 in (ap (run_after r) e, ap priorities_of e)

  read-target : eqb refusal 0 ≡ true → target < states
  unfolding refusal_of
  read-target e = lt-true target states (asked-all (shaped letters targets priorities) (ltb r.state states) (ltb a letters) (ltb target states) e).3

  -- a run never leaves the rows' states
  pub row_within : r.state < states → (row_step letters targets priorities r a).state < states
  unfolding row_step
  row_within h = go (test (eqb refusal 0))
    where
      go : (eqb refusal 0 ≡ true) ⊎ (eqb refusal 0 ≡ false) → (run_after r (reading_of letters targets priorities r a)).state < states
      go (inl t) = rw (reading-moved (eqb≡ refusal 0 t)) (read-target t)
      go (inr f) = rw (reading-refused refusal refl f) h
