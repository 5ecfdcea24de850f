-- One command at a time: what a refusal, the end command and any other command make of the reading from an offset on.
-- Assumes nothing.
use Prim.Native.Nat.{ℕ, zero, suc, ◌+◌, ◌-◌, ◌≤◌, ◌<◌}
use native.Mathlib.Omega.{arith}
use mathlib.Core.Path.{◌≡◌, refl, sym, ap, ◌∙◌, subst}
use mathlib.Core.Logic.{◌⊎◌, inl, inr}
use mathlib.Core.Bool.{Bool, true, false, cond, true≢false}
use mathlib.Core.List.{List, []}
use lib.Dec.{eqb, lit≤}
use lib.ListN.{length, get_or, set, take, drop, length-drop}
use lib.Seq.{take_all, drop-length}
use borrow.Author.Tests.{eqb-true, eqb-false, eq-eqb, ne_eqb}
use Rattle.std.specs.Prelude.{Result, Ok, Err}
use Rattle.refusals.specs.declared.Refusal.{Refusal}
use Rattle.refusals.specs.Refusals.{refusal}
use Rattle.lists.proofs.Bools.{test}
use Rattle.masks.specs.Masks.{insert}
use Rattle.policy.specs.declared.Policy.{Policy}
use Rattle.policy.specs.Policies.{edge_of, legal_counts}
use Rattle.policy.proofs.Laws.{counts}
use Rattle.policy.specs.declared.Shape as policy-shape
use Rattle.policy.specs.Making.{counted, shape_of, from_parts, zero_policy, with_edge, with_quiet, with_set, with_tables}
use Rattle.reading.specs.declared.Draft.{Draft}
use Rattle.reading.specs.declared.Found.{Found}
use Rattle.reading.specs.declared.Refused.{Refused}
use Rattle.reading.specs.declared.Command.{Command}
use Rattle.reading.specs.declared.Command.TheVariants.{End, Shape, Edge, Accept, Quiet}
use Rattle.reading.specs.Reading.{Bounded, HandsBack, ReadsPolicy, draft_after, answer_at, command_at, empty_draft, in_place, is_end, is_shape, next_offset, number_at, number_of, offset_of, operand_count, part_after, policy_read, reading_of, refusal_of, rest_of, stop_from, stop_most, stop_of, taken_at, within_limits}
use Rattle.reading.proofs.Questions.{Passed, passed, room, number-refusal, taken-none}

module _ (b : List ℕ) where
  -- a command that is not refused ends within the bytes
  pub next-within : (at : ℕ) (d : Draft) → refusal_of b at d ≡ 0 → (at < next_offset b at) × (next_offset b at ≤ length b)
  unfolding next_offset
  next-within at d z =
      let w = passed z in
      (omega arith, omega (arith, room b at (operand_count (get_or b at 0)) w.there refl w.byte))

  -- a bound that is not reached does not matter
  pub enough : (m n at : ℕ) (d : Draft) → length b < m + at → length b < n + at → at ≤ length b → stop_most m b at d ≡ stop_most n b at d
  unfolding stop_most
  enough zero n at d h g k = absurd (omega arith)
  enough (suc m) zero at d h g k = absurd (omega arith)
  enough (suc m) (suc n) at d h g k = go (test (eqb (refusal_of b at d) 0)) (test (is_end (command_at b at))) (enough m n (next_offset b at) (draft_after d (command_at b at)))
    where
      go : (eqb (refusal_of b at d) 0 ≡ true) ⊎ (eqb (refusal_of b at d) 0 ≡ false) → (is_end (command_at b at) ≡ true) ⊎ (is_end (command_at b at) ≡ false)
          → (length b < m + next_offset b at → length b < n + next_offset b at → next_offset b at ≤ length b → stop_most m b (next_offset b at) (draft_after d (command_at b at)) ≡ stop_most n b (next_offset b at) (draft_after d (command_at b at)))
          → stop_most (suc m) b at d ≡ stop_most (suc n) b at d
      go (inr f) e ih = rw f
      go (inl t) (inl e) ih = rw (t, e)
      go (inl t) (inr e) ih =
          let w = next-within at d (eqb-true (refusal_of b at d) 0 t) in
          rw (t, e) (ih (omega arith) (omega arith) w.1)

  more : (at : ℕ) → at ≤ length b → length b + 1 - at ≡ suc (length b - at)
  more at h = omega arith

  -- ---- where it stops, from a command on
  pub stop-refused : (at : ℕ) (d : Draft) → at ≤ length b → (refusal_of b at d ≡ 0 → ⊥) → stop_from b at d ≡ record { at = at; draft = d }
  unfolding stop_from stop_most
  stop-refused at d h n = rw (more at h, ne_eqb (refusal_of b at d) 0 n)

  pub stop-end : (at : ℕ) (d : Draft) → at ≤ length b → refusal_of b at d ≡ 0 → is_end (command_at b at) ≡ true → stop_from b at d ≡ record { at = at; draft = d }
  unfolding stop_from stop_most
  stop-end at d h z t = rw (more at h, eq-eqb (refusal_of b at d) 0 z, t)

  pub stop-on : (at : ℕ) (d : Draft) → at ≤ length b → refusal_of b at d ≡ 0 → is_end (command_at b at) ≡ false → stop_from b at d ≡ stop_from b (next_offset b at) (draft_after d (command_at b at))
  unfolding stop_from stop_most
  stop-on at d h z t =
      let w = next-within at d z in
      rw (more at h, eq-eqb (refusal_of b at d) 0 z, t)
      (enough (length b - at) (length b + 1 - next_offset b at) (next_offset b at) (draft_after d (command_at b at)) (omega arith) (omega arith) w.1)

-- ---- the loop
bounded-zero : Bounded zero_policy
unfolding zero_policy counted
bounded-zero = record { few_edges = lit≤ tt; few_colours = lit≤ tt }

pub bounded-after : (d : Draft) (c : Command) → Bounded d.policy → within_limits d.policy c ≡ true → Bounded (draft_after d c).policy
unfolding draft_after counted with_tables with_edge with_quiet with_set legal_counts within_limits
bounded-after d End h w = h
bounded-after d (Shape states letters colours initial) h w =
    let f = counts (counted states letters colours initial) w in
    record { few_edges = f.edges_few; few_colours = f.colours_few }
bounded-after d (Edge state letter target colour) h w = record { few_edges = h.few_edges; few_colours = h.few_colours }
bounded-after d (Accept s) h w = record { few_edges = h.few_edges; few_colours = h.few_colours }
bounded-after d (Quiet state letter target) h w = record { few_edges = h.few_edges; few_colours = h.few_colours }

-- from `at` with the draft d, reading stops where it does from the beginning
pub record Onway (b : List ℕ) (at : ℕ) (d : Draft) : Type 0 where
  pub within : at ≤ length b
  pub bounded : Bounded d.policy
  pub first : at ≡ 0 → d.policy ≡ zero_policy
  pub is : stop_from b at d ≡ stop_of b

module _ (b : List ℕ) where
  pub onway-start : {p : Policy} → p ≡ counted 0 0 0 0 → Onway b 0 (record { policy = p; given = 0 })
  unfolding stop_of empty_draft zero_policy
  onway-start e = rw e (record { within = omega arith; bounded = bounded-zero; first = λ z. refl; is = refl })

-- a shape that is not refused stands first
first-shape : {b : List ℕ} {at : ℕ} {d : Draft} → Passed b at d → {v a k i : ℕ} → command_at b at ≡ Shape v a k i → at ≡ 0
unfolding in_place is_shape
first-shape {b} {at} {d} w {v} {a} {k} {i} e = go (test (eqb at 0)) (ap (in_place at) (sym e) ∙ w.place)
  where
    go : (eqb at 0 ≡ true) ⊎ (eqb at 0 ≡ false) → in_place at (Shape v a k i) ≡ true → at ≡ 0
    go (inl t) h = eqb-true at 0 t
    go (inr f) h = absurd (true≢false (sym h ∙ rw f))

module _ {b : List ℕ} {at : ℕ} {d : Draft} (o : Onway b at d) where
  -- the draft is empty where a shape is taken
  pub onway-shape : {v a k i : ℕ} → refusal_of b at d ≡ 0 → command_at b at ≡ Shape v a k i → d.policy ≡ zero_policy
  onway-shape z e = o.first (first-shape (passed z) e)

  pub onway-refused : {e : Refusal} → Err e ≡ taken_at b at d → ◌≡◌ {A = Result Found Refused} (Err (record { refusal = e; at = at })) (reading_of b)
  unfolding reading_of answer_at number_at
  onway-refused r =
      let w = taken-none b at d r in
      let s = sym o.is ∙ stop-refused b at d o.within w.0 in
      rw (w.1, s, ne_eqb (refusal_of b at d) 0 w.0)

  module _ (z : refusal_of b at d ≡ 0) {c : Command} (is_c : c ≡ command_at b at) where
    pub onway-end : is_end c ≡ true → ◌≡◌ {A = Result Found Refused} (Ok (record { policy = d.policy; end = at + 1 })) (reading_of b)
    unfolding reading_of answer_at number_at
    onway-end t = let s = sym o.is ∙ stop-end b at d o.within z (rw is_c at t) in rw (s, eq-eqb (refusal_of b at d) 0 z)

    pub onway-on : is_end c ≡ false → {e : Draft} → e ≡ draft_after d c → {n : ℕ} → n ≡ operand_count (get_or b at 0) → Onway b (at + 1 + n) e
    unfolding next_offset
    onway-on t q k =
        let w = passed z in
        rw (q, is_c, k) (record {
          within = (next-within b at d z).1;
          bounded = bounded-after d (command_at b at) o.bounded w.within;
          first = λ h. absurd (omega arith);
          is = sym (stop-on b at d o.within z (rw is_c at t)) ∙ o.is;
        })

-- ---- the draft in place
-- p and given are the draft after c, which is not the end command
pub record Taken (d : Draft) (c : Command) (p : Policy) (given : ℕ) : Type 0 where
  pub goes_on : is_end c ≡ false
  pub is : ◌≡◌ {A = Draft} (record { policy = p; given = given }) (draft_after d c)

module _ {d : Draft} {c : Command} {p : Policy} {given : ℕ} where
  -- the counts are put into a policy that is all zero
  pub taken-shape :
      {v a k i : ℕ} → c ≡ Shape v a k i → d.policy ≡ zero_policy →
      p ≡ from_parts (record { states = v; letters = a; colours = k; initial = i }) d.policy.quiet d.policy.target d.policy.colour d.policy.family → given ≡ 0 → Taken d c p given
  unfolding draft_after is_end zero_policy counted
  taken-shape {v} {a} {k} {i} e z q g =
      let shape : policy-shape.Shape = record { states = v; letters = a; colours = k; initial = i } in
      let made : p ≡ counted v a k i = q ∙ ap (λ (x : Policy). from_parts shape x.quiet x.target x.colour x.family) z in
      rw (e, made, g) (record { goes_on = refl; is = refl })

  pub taken-edge : {v a t k e : ℕ} → c ≡ Edge v a t k → e ≡ edge_of d.policy v a → p ≡ with_edge d.policy e t k → given ≡ insert d.given e → Taken d c p given
  unfolding draft_after is_end
  taken-edge e n q g = rw (e, q, g, n) (record { goes_on = refl; is = refl })

  pub taken-quiet :
      {v a t e m : ℕ} → c ≡ Quiet v a t → e ≡ edge_of d.policy v a → m ≡ insert d.policy.quiet e →
      p ≡ from_parts (shape_of d.policy) m (set d.policy.target e t) (set d.policy.colour e 0) d.policy.family →
      given ≡ insert d.given e → Taken d c p given
  unfolding draft_after is_end with_quiet
  taken-quiet e n k q g = rw (e, q, g, k, n) (record { goes_on = refl; is = refl })

  pub taken-accept : {s i : ℕ} → c ≡ Accept s → i ≡ s → p ≡ with_set d.policy i → given ≡ d.given → Taken d c p given
  unfolding draft_after is_end
  taken-accept e n q g = rw (e, q, g, n) (record { goes_on = refl; is = refl })

module _ (b : List ℕ) where
  abbrev number : ℕ
  number = number_at b (stop_of b)

  -- ---- what holds of the answer, by its number
  pub by-number : (P : Result Found Refused → Type 0) → (number ≡ 0 → P (Ok (record { policy = (stop_of b).draft.policy; end = (stop_of b).at + 1 })))
      → ((number ≡ 0 → ⊥) → P (Err (record { refusal = refusal number; at = (stop_of b).at }))) → P (reading_of b)
  unfolding reading_of answer_at
  by-number P read refused = go (test (eqb number 0))
    where
      go : (eqb number 0 ≡ true) ⊎ (eqb number 0 ≡ false) → P (answer_at b (stop_of b))
      go (inl t) = subst (λ (z : Bool). P (cond z (Ok (record { policy = (stop_of b).draft.policy; end = (stop_of b).at + 1 })) (Err (record { refusal = refusal number; at = (stop_of b).at })))) (sym t) (read (eqb-true number 0 t))
      go (inr f) = subst (λ (z : Bool). P (cond z (Ok (record { policy = (stop_of b).draft.policy; end = (stop_of b).at + 1 })) (Err (record { refusal = refusal number; at = (stop_of b).at })))) (sym f) (refused (eqb-false number 0 f))

  pub reads : (a : Result Found Refused) → a ≡ reading_of b → ReadsPolicy b a
  unfolding number_at
  reads a e = record {
    answer_is = e;
    number_is = ap number_of e ∙ by-number (λ (x : Result Found Refused). number_of x ≡ number) sym (number-refusal b (stop_of b).at (stop_of b).draft);
    offset_is = ap offset_of e
        ∙ by-number (λ (x : Result Found Refused). offset_of x ≡ cond (eqb number 0) ((stop_of b).at + 1) (stop_of b).at) (λ z. rw (eq-eqb number 0 z)) (λ n. rw (ne_eqb number 0 n));
    policy_is = ap policy_read e
        ∙ by-number (λ (x : Result Found Refused). policy_read x ≡ cond (eqb number 0) (stop_of b).draft.policy zero_policy) (λ z. rw (eq-eqb number 0 z)) (λ n. rw (ne_eqb number 0 n));
  }

  -- ---- what follows the end command
  pub end-within : {r : Found} → reading_of b ≡ Ok r → r.end ≤ length b
  unfolding number_at
  end-within e = subst Within e (by-number Within (λ z. omega (arith, (passed z).byte)) (λ n. tt))
    where
      Within : Result Found Refused → Type 0
      Within (Ok r) = r.end ≤ length b
      Within (Err e) = Unit {0}

  hands-back : (part : List ℕ) → part ≡ rest_of b → HandsBack b part
  unfolding rest_of
  hands-back part e = record {
    part_is = e;
    by-number = e ∙ by-number (λ (x : Result Found Refused). part_after b x ≡ cond (eqb number 0) (drop ((stop_of b).at + 1) b) []) (λ z. rw (eq-eqb number 0 z)) (λ n. rw (ne_eqb number 0 n));
  }

  pub rest_read : {r : Found} → reading_of b ≡ Ok r → HandsBack b (take (length b - r.end) (drop r.end b))
  unfolding rest_of
  rest_read {r} e = hands-back _ (take_all (length b - r.end) (drop r.end b) (simp length-drop (omega arith)) ∙ sym (ap (part_after b) e))

  pub rest-refused : {x : Refused} → reading_of b ≡ Err x → HandsBack b (take (length b - length b) (drop (length b) b))
  unfolding rest_of
  rest-refused e = hands-back _ (take_all (length b - length b) (drop (length b) b) (simp length-drop (omega arith)) ∙ drop-length b ∙ sym (ap (part_after b) e))
