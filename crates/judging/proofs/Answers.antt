-- The answers of judging, by the questions in their order: the number of each refusal, and what the promise says of the answer's values. Assumes nothing.
use Prim.Native.Nat.{ℕ, ◌≤◌, ◌<◌}
use mathlib.Core.Path.{◌≡◌, refl, sym, ap, ◌∙◌}
use mathlib.Core.Bool.{Bool, true, false, not, ◌&&◌, cond, false≢true}
use mathlib.Core.List.{List}
use lib.Dec.{eqb, ltb}
use borrow.Author.Tests.{lt-ltb, le-ltb}
use Rattle.std.specs.Prelude.{Result, Ok, Err}
use Rattle.refusals.specs.declared.Refusal.{Refusal}
use Rattle.refusals.specs.Refusals.{number, refusal}
use Rattle.lists.specs.Questions.{ask}
use Rattle.lists.proofs.Bools.{eqb≡}
use Rattle.policy.specs.declared.Policy.{Policy}
use Rattle.policy.specs.Policies.{legal, in_family}
use Rattle.running.specs.declared.Run.{Run}
use Rattle.running.specs.Running.{row_states, shaped}
use Rattle.judging.specs.declared.Verdict.{Verdict}
use Rattle.judging.specs.Judging.{non_empty, in_range, recurring_colours, policy_refusal_of, policy_verdict, JudgesPolicy, policy_number_of, policy_colours_of, policy_accepted_of, ever_dangling, least_recurring, rows_refusal_of, rows_verdict, JudgesRows, rows_number_of, rows_least_of}

-- ---- judging a policy
-- each answer but 0 is the number of its refusal
policy-number : (x y z w : Bool) → let n = ask x 7 (ask y 11 (ask z 14 (ask w 12 0))) in eqb n 0 ≡ false → number (refusal n) ≡ n
policy-number true true true true e = absurd (false≢true (sym e))
policy-number true true true false e = refl
policy-number true true false w e = refl
policy-number true false z w e = refl
policy-number false y z w e = refl

-- an answer's values, by whether the policy was judged
module _ (n s : ℕ) (accepted : Bool) where
  abbrev judged : Bool → Result Verdict Refusal
  judged b = cond b (Ok (record { colours = s; accepted = accepted })) (Err (refusal n))

  judged-number : (b : Bool) → b ≡ eqb n 0 → (eqb n 0 ≡ false → number (refusal n) ≡ n) → policy_number_of (judged b) ≡ n
  judged-number true e h = sym (eqb≡ n 0 (sym e))
  judged-number false e h = h (sym e)

  judged-colours : (b : Bool) → policy_colours_of (judged b) ≡ cond b s 0
  judged-colours true = refl
  judged-colours false = refl

  judged-accepted : (b : Bool) → policy_accepted_of (judged b) ≡ cond b accepted false
  judged-accepted true = refl
  judged-accepted false = refl

module _ (p : Policy) (v : ℕ) (stem loop : List ℕ) where
  abbrev policy_refusal : ℕ
  policy_refusal = policy_refusal_of p v stem loop

  -- the questions, up to the first no
  pub policy-7 : legal p ≡ false → policy_refusal ≡ 7
  unfolding policy_refusal_of
  policy-7 f = rw f refl

  module _ (ok : legal p ≡ true) where
    pub policy-11 : p.states ≤ v → policy_refusal ≡ 11
    unfolding policy_refusal_of
    policy-11 h = rw (ok, le-ltb _ _ h) refl

    module _ (state : v < p.states) where
      pub policy-14 : non_empty loop ≡ false → policy_refusal ≡ 14
      unfolding policy_refusal_of
      policy-14 f = rw (ok, lt-ltb _ _ state, f) refl

      module _ (some : non_empty loop ≡ true) where
        pub policy-12 : in_range p.letters stem && in_range p.letters loop ≡ false → policy_refusal ≡ 12
        unfolding policy_refusal_of
        policy-12 f = rw (ok, lt-ltb _ _ state, some, f) refl

        pub policy-none : in_range p.letters stem && in_range p.letters loop ≡ true → policy_refusal ≡ 0
        unfolding policy_refusal_of
        policy-none t = rw (ok, lt-ltb _ _ state, some, t) refl

  -- the answer
  pub policy-judged : policy_refusal ≡ 0 → policy_verdict p v stem loop ≡ Ok (record { colours = recurring_colours p v stem loop; accepted = in_family p (recurring_colours p v stem loop) })
  unfolding policy_verdict
  policy-judged e = rw e refl

  policy-refusal-number : eqb policy_refusal 0 ≡ false → number (refusal policy_refusal) ≡ policy_refusal
  unfolding policy_refusal_of
  policy-refusal-number e = policy-number (legal p) (ltb v p.states) (non_empty loop) (in_range p.letters stem && in_range p.letters loop) e

  judges-policy : (x : Result Verdict Refusal) → x ≡ policy_verdict p v stem loop → JudgesPolicy p v stem loop x
  unfolding policy_verdict
  judges-policy x e =
      let n = policy_refusal_of p v stem loop in
      let s = recurring_colours p v stem loop in
      record {
        answer_is = e;
        number_is = ap policy_number_of e ∙ judged-number n s (in_family p s) (eqb n 0) refl policy-refusal-number;
        colours_are = ap policy_colours_of e ∙ judged-colours n s (in_family p s) (eqb n 0);
        accepted_is = ap policy_accepted_of e ∙ judged-accepted n s (in_family p s) (eqb n 0);
      }

  pub judges-policy-refused : (n : ℕ) → policy_refusal ≡ n → eqb n 0 ≡ false → JudgesPolicy p v stem loop (Err (refusal n))
  unfolding policy_verdict
  judges-policy-refused n e f = judges-policy (Err (refusal n)) (rw (e, f) refl)

  pub judges-policy-judged : policy_refusal ≡ 0 → (s : ℕ) → s ≡ recurring_colours p v stem loop → JudgesPolicy p v stem loop (Ok (record { colours = s; accepted = in_family p s }))
  judges-policy-judged e s is = judges-policy _ (ap (λ (s : ℕ). Ok (record { colours = s; accepted = in_family p s })) is ∙ sym (policy-judged e))

-- ---- judging rows
-- each answer but 0 is the number of its refusal
rows-number : (x y z w v : Bool) → let n = ask x 8 (ask y 11 (ask z 14 (ask w 12 (ask v 13 0)))) in eqb n 0 ≡ false → number (refusal n) ≡ n
rows-number true true true true true e = absurd (false≢true (sym e))
rows-number true true true true false e = refl
rows-number true true true false v e = refl
rows-number true true false w v e = refl
rows-number true false z w v e = refl
rows-number false y z w v e = refl

-- an answer's values, by whether the rows were judged
module _ (n k : ℕ) where
  abbrev given : Bool → Result ℕ Refusal
  given b = cond b (Ok k) (Err (refusal n))

  given-number : (b : Bool) → b ≡ eqb n 0 → (eqb n 0 ≡ false → number (refusal n) ≡ n) → rows_number_of (given b) ≡ n
  given-number true e h = sym (eqb≡ n 0 (sym e))
  given-number false e h = h (sym e)

  given-least : (b : Bool) → rows_least_of (given b) ≡ cond b k 0
  given-least true = refl
  given-least false = refl

module _ (letters : ℕ) (targets priorities : List ℕ) (r : Run) (stem loop : List ℕ) where
  abbrev rows_refusal : ℕ
  rows_refusal = rows_refusal_of letters targets priorities r stem loop

  -- the questions, up to the first no
  pub rows-8 : shaped letters targets priorities ≡ false → rows_refusal ≡ 8
  unfolding rows_refusal_of
  rows-8 f = rw f refl

  module _ (ok : shaped letters targets priorities ≡ true) where
    pub rows-11 : row_states letters targets priorities ≤ r.state → rows_refusal ≡ 11
    unfolding rows_refusal_of
    rows-11 h = rw (ok, le-ltb _ _ h) refl

    module _ (state : r.state < row_states letters targets priorities) where
      pub rows-14 : non_empty loop ≡ false → rows_refusal ≡ 14
      unfolding rows_refusal_of
      rows-14 f = rw (ok, lt-ltb _ _ state, f) refl

      module _ (some : non_empty loop ≡ true) where
        pub rows-12 : in_range letters stem && in_range letters loop ≡ false → rows_refusal ≡ 12
        unfolding rows_refusal_of
        rows-12 f = rw (ok, lt-ltb _ _ state, some, f) refl

        module _ (range : in_range letters stem && in_range letters loop ≡ true) where
          pub rows-13 : ever_dangling letters targets priorities r stem loop ≡ true → rows_refusal ≡ 13
          unfolding rows_refusal_of
          rows-13 t = rw (ok, lt-ltb _ _ state, some, range, t) refl

          pub rows_none : ever_dangling letters targets priorities r stem loop ≡ false → rows_refusal ≡ 0
          unfolding rows_refusal_of
          rows_none f = rw (ok, lt-ltb _ _ state, some, range, f) refl

  -- the answer
  pub rows-least : rows_refusal ≡ 0 → rows_verdict letters targets priorities r stem loop ≡ Ok (least_recurring letters targets priorities r stem loop)
  unfolding rows_verdict
  rows-least e = rw e refl

  rows-refusal-number : eqb rows_refusal 0 ≡ false → number (refusal rows_refusal) ≡ rows_refusal
  unfolding rows_refusal_of
  rows-refusal-number e =
      rows-number (shaped letters targets priorities) (ltb r.state (row_states letters targets priorities)) (non_empty loop) (in_range letters stem && in_range letters loop)
      (not (ever_dangling letters targets priorities r stem loop)) e

  judges-rows : (x : Result ℕ Refusal) → x ≡ rows_verdict letters targets priorities r stem loop → JudgesRows letters targets priorities r stem loop x
  unfolding rows_verdict
  judges-rows x e =
      let n = rows_refusal_of letters targets priorities r stem loop in
      let k = least_recurring letters targets priorities r stem loop in
      record {
        answer_is = e;
        number_is = ap rows_number_of e ∙ given-number n k (eqb n 0) refl rows-refusal-number;
        least_is = ap rows_least_of e ∙ given-least n k (eqb n 0);
      }

  pub judges-rows-refused : (n : ℕ) → rows_refusal ≡ n → eqb n 0 ≡ false → JudgesRows letters targets priorities r stem loop (Err (refusal n))
  unfolding rows_verdict
  judges-rows-refused n e f = judges-rows (Err (refusal n)) (rw (e, f) refl)

  pub judges-rows-least : rows_refusal ≡ 0 → (k : ℕ) → k ≡ least_recurring letters targets priorities r stem loop → JudgesRows letters targets priorities r stem loop (Ok k)
  judges-rows-least e k is = judges-rows (Ok k) (ap (λ (k : ℕ). Ok k) is ∙ sym (rows-least e))
