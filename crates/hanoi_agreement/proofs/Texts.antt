-- S-4's sentence, from a text: a text that is read says one document, and agrees with the policy. Assumes nothing.
use Prim.Native.Nat.{ℕ, ◌+◌, ◌-◌, ◌*◌, ◌≤◌}
use native.Mathlib.Omega.{arith}
use mathlib.Core.Path.{◌≡◌, refl, sym, ap, ◌∙◌, subst}
use mathlib.Core.Logic.{◌⊎◌, inl, inr}
use mathlib.Core.Bool.{Bool, true, false, ◌&&◌, cond}
use mathlib.Core.List.{List, map}
use lib.Dec.{leb, lit<}
use lib.ListN.{length, replicate, length-append, length-map, length-replicate}
use Rattle.lists.specs.Questions.{ask}
use Rattle.lists.proofs.Bools.{test}
use Rattle.lists.proofs.Lists.{length-map-below}
use Rattle.std.specs.Prelude.{Ok}
use Rattle.refusals.specs.declared.Refusal.TheVariants.{OutOfRange, NotHanoi, TooManyMarkSets}
use Rattle.policy.specs.declared.Policy.{Policy}
use Rattle.policy.specs.Policies.{legal}
use Rattle.hanoi.specs.Documents.{Document, letters, lawful, target_of, Says}
use Rattle.hanoi.specs.Meaning.{filled, edges_of, mark_sets, colour_of, named, policy_of as policy_of_text}
use Rattle.hanoi.specs.Offers.{Spot, between, in_word, digits, in_name, dead, run}
use Rattle.hanoi.specs.Reader.{At, hoa, v1, states_word, states_number, start_word, start_number, ap_word, ap_number, naming, sets_number, operand, opening, mark, closing, after, body, state_number, edges, target, braces, finished, offers, first}
use Rattle.hanoi.specs.Answers.{Answer, answer_of, refused, number_of, shared_of, policy_read, Answers}
use Rattle.hanoi.specs.Reading.{answer_in, answer_at, hanoi_of}
use Rattle.hanoi.proofs.Documents.{edges-long}
use Rattle.hanoi.proofs.Answering.{taken, said-back}
use Rattle.records.specs.Records.{is_record, policy_of}
use Rattle.records.proofs.Packing.{Sized, policy-record}
use Rattle.correctness.specs.Calls.{Call}
use Rattle.hanoi_agreement.specs.TextCalls.{read_text, read_text_shows, wulfrenda_read_hanoi, wulfrenda_read_hanoi_shows}
use Rattle.hanoi_agreement.specs.Agreement.{Agreement, TextAgrees, TextsAgree}
use Rattle.hanoi_agreement.proofs.PolicyOf.{states_are, letters_are}
use Rattle.hanoi_agreement.proofs.Legal.{is_read, IsRead, read-parts, read-policy, read-legal}
use Rattle.hanoi_agreement.proofs.Agreement.{agrees}

-- ---- where the reader ends: with a document, or with none, and then a default stands
ends-in : (s : At) → ((d : Document) × (s ≡ finished d)) ⊎ ((x : Answer) → answer_in x s ≡ x)
ends-in hoa = inr (λ x. refl)
ends-in v1 = inr (λ x. refl)
ends-in states_word = inr (λ x. refl)
ends-in states_number = inr (λ x. refl)
ends-in (start_word n) = inr (λ x. refl)
ends-in (start_number n) = inr (λ x. refl)
ends-in (ap_word n i) = inr (λ x. refl)
ends-in (ap_number n i) = inr (λ x. refl)
ends-in (naming n i left ns) = inr (λ x. refl)
ends-in (sets_number n i ns) = inr (λ x. refl)
ends-in (operand h hs o) = inr (λ x. refl)
ends-in (opening h hs o b) = inr (λ x. refl)
ends-in (mark h hs o b) = inr (λ x. refl)
ends-in (closing h hs o b m) = inr (λ x. refl)
ends-in (after h hs l) = inr (λ x. refl)
ends-in (body h f) = inr (λ x. refl)
ends-in (state_number h f rs) = inr (λ x. refl)
ends-in (edges h f rs r) = inr (λ x. refl)
ends-in (target h f rs r t) = inr (λ x. refl)
ends-in (braces h f rs r t ms) = inr (λ x. refl)
ends-in (finished d) = inl (d, refl)

ends_at : (p : Spot At) → ((b : Bool) × (d : Document) × (p ≡ between b (finished d))) ⊎ ((x : Answer) → answer_at x p ≡ x)
ends_at (between b s) = go (ends-in s)
  where
    go : ((d : Document) × (s ≡ finished d)) ⊎ ((x : Answer) → answer_in x s ≡ x) → ((c : Bool) × (d : Document) × (between b s ≡ between c (finished d))) ⊎ ((x : Answer) → answer_at x (between b s) ≡ x)
    go (inl e) = inl (b, e.0, ap (between b) e.1)
    go (inr h) = inr h
ends_at (in_word y r a) = inr (λ x. refl)
ends_at (digits s n) = inr (λ x. refl)
ends_at (in_name s q b) = inr (λ x. refl)
ends_at dead = inr (λ x. refl)

-- ---- a text says one document at most
same_end : (b c : Bool) (x y : Document) → between b (finished x) ≡ between c (finished y) → x ≡ y
same_end b c x y e = cc

says-one : (text : List ℕ) (x y : Document) → Says text x → Says text y → x ≡ y
says-one text x y s u = let a = taken text x s in let b = taken text y u in same_end a.0 b.0 x y (sym a.1 ∙ b.1)

-- ---- what a reading gave: an answer that means what the documents say
pub record ReadAs (text : List ℕ) (p : Policy) : Type 0 where
  pub answer : Answer
  pub means : Answers text answer
  pub number_is : number_of answer ≡ 0
  pub policy_is : p ≡ policy_read answer

-- a document's number is 0 only where it is read
zero-read : (d : Document) → number_of (answer_of d) ≡ 0 → is_read (answer_of d) ≡ true
unfolding answer_of
zero-read d h = go (leb d.states 16 && leb (d.states * letters d) 64) (leb (length (mark_sets d)) 8) h
  where
    go : (a b : Bool) → number_of (cond a (cond b (Ok (policy_of_text d)) (refused TooManyMarkSets 0)) (refused OutOfRange 0)) ≡ 0
        → is_read (cond a (cond b (Ok (policy_of_text d)) (refused TooManyMarkSets 0)) (refused OutOfRange 0)) ≡ true
    go true true h = refl
    go true false h = absurd (omega (arith, h))
    go false b h = absurd (omega (arith, h))

-- the policy of a document that is read
policy-sized : (d : Document) → lawful d ≡ true → IsRead d → Sized (policy_of_text d)
unfolding policy_of_text
policy-sized d ok r =
    let few : length (edges_of d) ≤ 64 = subst (λ (n : ℕ). n ≤ 64) (sym (edges-long d ok)) r.edges_few in
    record {
      targets = filled-long (map target_of (edges_of d)) (subst (λ (n : ℕ). n ≤ 64) (sym (length-map (edges_of d) target_of)) few);
      colours = filled-long (map (colour_of d) (edges_of d)) (subst (λ (n : ℕ). n ≤ 64) (sym (length-map (edges_of d) (colour_of d))) few);
      sets = length-map-below (named d) 256;
      quiet_lt = lit< tt;
    }
  where
    filled-long : (l : List ℕ) → length l ≤ 64 → length (filled 64 l) ≡ 64
    filled-long l h = length-append l (replicate (64 - length l) 0) ∙ (ap (λ (n : ℕ). length l + n) (length-replicate (64 - length l) 0) ∙ omega arith)

module _ (text : List ℕ) (p : Policy) (r : ReadAs text p) where
  -- it says a document
  said : (d : Document) × Says text d
  said = go (ends_at (run offers first text))
    where
      -- without a document at the end every answer would be one
      none : ((x : Answer) → answer_at x (run offers first text) ≡ x) → (d : Document) → Says text d → ⊥
      none h d s =
          let e : (x : Answer) → x ≡ answer_of d = λ x. sym (h x) ∙ ap (answer_at x) (taken text d s).1 in
          let z : ◌≡◌ {A = ℕ} 0 1 = ap shared_of (e (refused NotHanoi 0) ∙ sym (e (refused NotHanoi 1))) in
          omega (arith, z)

      go : ((b : Bool) × (d : Document) × (run offers first text ≡ between b (finished d))) ⊎ ((x : Answer) → answer_at x (run offers first text) ≡ x) → (d : Document) × Says text d
      go (inl e) = (e.1, said-back text e.0 e.1 e.2)
      go (inr h) =
          let q = r.means.unsaid (none h) in
          let z : ◌≡◌ {A = ℕ} 0 18 = sym r.number_is ∙ ap number_of q.2 in
          absurd (omega (arith, z))

  text-agrees : TextAgrees text p
  text-agrees =
      let d = said.0 in
      let s = said.1 in
      let is : r.answer ≡ answer_of d = r.means.said d s in
      let read = zero-read d (ap number_of (sym is) ∙ r.number_is) in
      let policy : p ≡ policy_of_text d = r.policy_is ∙ (ap policy_read is ∙ read-policy d read) in
      record {
        document = d;
        says = s;
        only = λ x u. says-one text x d u s;
        legal_is = ap legal policy ∙ read-legal d s.lawful_is read;
        states_are = ap (λ (q : Policy). q.states) policy ∙ states_are d;
        letters_are = ap (λ (q : Policy). q.letters) policy ∙ letters_are d;
        agrees = λ v h stem loop. subst (λ (q : Policy). Agreement d q v stem loop) (sym policy) (agrees d s.lawful_is read v h stem loop);
      }

  -- its arrays have their lengths
  sized : Sized p
  sized =
      let d = said.0 in
      let s = said.1 in
      let is : r.answer ≡ answer_of d = r.means.said d s in
      let read = zero-read d (ap number_of (sym is) ∙ r.number_is) in
      subst Sized (sym (r.policy_is ∙ (ap policy_read is ∙ read-policy d read))) (policy-sized d s.lawful_is (read-parts d read))

-- ---- of the calls
asked : (b : Bool) (n : ℕ) → ask b 7 n ≡ 0 → (b ≡ true) ⊎ (b ≡ false) → (b ≡ true) × (n ≡ 0)
asked b n e (inl t) = (t, rw t at e)
asked b n e (inr f) = let z : ◌≡◌ {A = ℕ} 7 0 = rw f at e in absurd (omega (arith, z))

core-read : (r : Call read_text) → (read_text_shows r.at).number ≡ 0 → ReadAs (read_text_shows r.at).text (read_text_shows r.at).policy
core-read r e = record { answer = r.at.answer; means = r.learnt.1; number_is = e; policy_is = refl }

library-read : (r : Call wulfrenda_read_hanoi) → (wulfrenda_read_hanoi_shows r.at).number ≡ 0 → ReadAs (wulfrenda_read_hanoi_shows r.at).text (wulfrenda_read_hanoi_shows r.at).policy
library-read r e =
    let text = r.at.given.0.now in
    let place = r.at.given.1.0.now in
    let a = hanoi_of text in
    let go : (is_record place ≡ true) ⊎ (is_record place ≡ false) → (is_record place ≡ true) × (number_of a ≡ 0) = asked (is_record place) (number_of a) (sym r.learnt.0 ∙ e) in
    let there = go (test (is_record place)) in
    let b : ReadAs text (policy_read a) = record { answer = a; means = r.learnt.1.1.1; number_is = there.1; policy_is = refl } in
    record {
      answer = a;
      means = r.learnt.1.1.1;
      number_is = there.1;
      policy_is = ap policy_of (r.learnt.1.0 ∙ (rw there.0 refl)) ∙ policy-record (policy_read a) (sized text (policy_read a) b);
    }

pub texts-agree : TextsAgree
texts-agree = record {
  of_the_core = λ r e. text-agrees _ _ (core-read r e);
  of_the_library = λ r e. text-agrees _ _ (library-read r e);
}
