-- A policy that was read is legal, and after a refusal it is all zero. The invariant holds of every draft after the shape command.
-- Assumes nothing.
use Prim.Native.Nat.{ℕ, zero, suc, ◌+◌, ◌-◌, ◌^◌, ◌<◌}
use native.Mathlib.Omega.{arith}
use mathlib.Core.Path.{◌≡◌, refl, sym, ap, ◌∙◌, subst}
use mathlib.Core.Logic.{◌⊎◌, inl, inr, ◌≢◌}
use mathlib.Core.Bool.{true, false, ◌&&◌, false≢true}
use mathlib.Core.List.{List}
use lib.Dec.{eqb, ltb}
use lib.ListN.{length}
use borrow.Author.Tests.{ltb-true, eqb-true, eqb-false, not-true}
use Rattle.std.specs.Prelude.{Result, Ok, Err}
use Rattle.refusals.specs.Refusals.{number}
use Rattle.lists.proofs.Bools.{test, and_l, and_r}
use Rattle.policy.specs.declared.Policy.{Policy}
use Rattle.policy.specs.Policies.{legal}
use Rattle.policy.proofs.Making.{Sound, sound-counted, sound-edge, sound-quiet, sound-set, sound-legal, zero-illegal}
use Rattle.reading.specs.declared.Draft.{Draft}
use Rattle.reading.specs.declared.Found.{Found}
use Rattle.reading.specs.declared.Refused.{Refused}
use Rattle.reading.specs.declared.Command.{Command}
use Rattle.reading.specs.declared.Command.TheVariants.{End, Shape, Edge, Accept, Quiet}
use Rattle.reading.specs.Reading.{Stop, draft_after, all_given, command_at, complete_at_end, empty_draft, first_time, in_place, is_end, is_shape, next_offset, number_at, number_of, policy_read, reading_of, refusal_of, stop_from, stop_most, stop_of, within_limits}
use Rattle.reading.proofs.Questions.{number-refusal, passed}
use Rattle.reading.proofs.Commands.{next-within, by-number}

-- ---- each command keeps it
-- every draft after the shape command
abbrev SoundDraft : Draft → Type 0
SoundDraft d = Sound d.policy d.given

-- an edge within the limits
in-limits : (p : Policy) (v a t : ℕ) → ltb v p.states && ltb a p.letters && ltb t p.states ≡ true → (v < p.states) × (a < p.letters) × (t < p.states)
in-limits p v a t w =
    let r = and_l (ltb v p.states && ltb a p.letters) (ltb t p.states) w in
    (ltb-true v p.states (and_l (ltb v p.states) (ltb a p.letters) r), ltb-true a p.letters (and_r (ltb v p.states) (ltb a p.letters) r), ltb-true t p.states (and_r (ltb v p.states && ltb a p.letters) (ltb t p.states) w))

sound-edge-command : (d : Draft) → SoundDraft d → (v a t k : ℕ) → within_limits d.policy (Edge v a t k) ≡ true → first_time d (Edge v a t k) ≡ true → SoundDraft (draft_after d (Edge v a t k))
unfolding draft_after within_limits first_time
sound-edge-command d s v a t k w f =
    let p = d.policy in
    let l = in-limits p v a t (and_l (ltb v p.states && ltb a p.letters && ltb t p.states) (ltb k p.colours) w) in
    sound-edge p d.given s v a t k l.0 l.1 l.2 (ltb-true k p.colours (and_r (ltb v p.states && ltb a p.letters && ltb t p.states) (ltb k p.colours) w)) (not-true _ f)

sound-quiet-command : (d : Draft) → SoundDraft d → (v a t : ℕ) → within_limits d.policy (Quiet v a t) ≡ true → first_time d (Quiet v a t) ≡ true → SoundDraft (draft_after d (Quiet v a t))
unfolding draft_after within_limits first_time
sound-quiet-command d s v a t w f =
    let l = in-limits d.policy v a t w in
    sound-quiet d.policy d.given s v a t l.0 l.1 l.2 (not-true _ f)

sound-accept : (d : Draft) → SoundDraft d → (s : ℕ) → within_limits d.policy (Accept s) ≡ true → SoundDraft (draft_after d (Accept s))
unfolding draft_after within_limits
sound-accept d k s w = sound-set d.policy d.given k s (ltb-true s (2 ^ d.policy.colours) w)

-- ---- along the commands
-- before the shape command there is nothing to keep
abbrev Stage : ℕ → Draft → Type 0
Stage at d = (at ≡ 0) ⊎ SoundDraft d

first-shape : (at : ℕ) (c : Command) → at ≡ 0 → in_place at c ≡ true → is_shape c ≡ true
unfolding in_place
first-shape at c e t = rw e at t

sound-after : (at : ℕ) (d : Draft) (c : Command) → Stage at d → in_place at c ≡ true → within_limits d.policy c ≡ true → first_time d c ≡ true → SoundDraft (draft_after d c)
unfolding draft_after within_limits is_shape
sound-after at d End (inl z) t w f = absurd (false≢true (first-shape at End z t))
sound-after at d End (inr s) t w f = s
sound-after at d (Shape v a k i) s t w f = sound-counted v a k i w
sound-after at d (Edge v a u k) (inl z) t w f = absurd (false≢true (first-shape at (Edge v a u k) z t))
sound-after at d (Edge v a u k) (inr s) t w f = sound-edge-command d s v a u k w f
sound-after at d (Accept x) (inl z) t w f = absurd (false≢true (first-shape at (Accept x) z t))
sound-after at d (Accept x) (inr s) t w f = sound-accept d s x w
sound-after at d (Quiet v a u) (inl z) t w f = absurd (false≢true (first-shape at (Quiet v a u) z t))
sound-after at d (Quiet v a u) (inr s) t w f = sound-quiet-command d s v a u w f

legal-at-end : (at : ℕ) (d : Draft) (c : Command) → Stage at d → in_place at c ≡ true → is_end c ≡ true → complete_at_end d c ≡ true → legal d.policy ≡ true
unfolding is_end is_shape complete_at_end all_given
legal-at-end at d End (inl z) t e g = absurd (false≢true (first-shape at End z t))
legal-at-end at d End (inr s) t e g = sound-legal d.policy d.given s g
legal-at-end at d (Shape v a k i) s t e g = absurd (false≢true e)
legal-at-end at d (Edge v a u k) s t e g = absurd (false≢true e)
legal-at-end at d (Accept x) s t e g = absurd (false≢true e)
legal-at-end at d (Quiet v a u) s t e g = absurd (false≢true e)

abbrev Kept : Result Found Refused → Type 0
Kept (Ok r) = legal r.policy ≡ true
Kept (Err e) = number e.refusal ≢ 0

module _ (b : List ℕ) where
  -- the stop's draft is sound, unless it stops at the first command
  stop-stage : (n at : ℕ) (d : Draft) → Stage at d → Stage (stop_most n b at d).at (stop_most n b at d).draft
  unfolding stop_most
  stop-stage zero at d s = s
  stop-stage (suc n) at d s = go (test (eqb (refusal_of b at d) 0)) (test (is_end (command_at b at))) (stop-stage n (next_offset b at) (draft_after d (command_at b at)))
    where
      later : Stop
      later = stop_most n b (next_offset b at) (draft_after d (command_at b at))

      go : (eqb (refusal_of b at d) 0 ≡ true) ⊎ (eqb (refusal_of b at d) 0 ≡ false) → (is_end (command_at b at) ≡ true) ⊎ (is_end (command_at b at) ≡ false)
          → (Stage (next_offset b at) (draft_after d (command_at b at)) → Stage later.at later.draft) → Stage (stop_most (suc n) b at d).at (stop_most (suc n) b at d).draft
      go (inr f) e ih = rw f s
      go (inl t) (inl e) ih = rw (t, e) s
      go (inl t) (inr e) ih = let w = passed (eqb-true (refusal_of b at d) 0 t) in rw (t, e) (ih (inr (sound-after at d (command_at b at) s w.place w.within w.first)))

  -- where nothing is refused it is the end command
  stop-ends : (n at : ℕ) (d : Draft) → length b < n + at → number_at b (stop_most n b at d) ≡ 0 → is_end (command_at b (stop_most n b at d).at) ≡ true
  unfolding stop_most number_at
  stop-ends zero at d h = λ z. absurd (omega (arith, (passed z).byte))
  stop-ends (suc n) at d h = go (test (eqb (refusal_of b at d) 0)) (test (is_end (command_at b at))) (stop-ends n (next_offset b at) (draft_after d (command_at b at)))
    where
      later : Stop
      later = stop_most n b (next_offset b at) (draft_after d (command_at b at))

      go : (eqb (refusal_of b at d) 0 ≡ true) ⊎ (eqb (refusal_of b at d) 0 ≡ false) → (is_end (command_at b at) ≡ true) ⊎ (is_end (command_at b at) ≡ false)
          → (length b < n + next_offset b at → number_at b later ≡ 0 → is_end (command_at b later.at) ≡ true) → number_at b (stop_most (suc n) b at d) ≡ 0 → is_end (command_at b (stop_most (suc n) b at d).at) ≡ true
      go (inr f) e ih = rw f (λ z. absurd (eqb-false (refusal_of b at d) 0 f z))
      go (inl t) (inl e) ih = rw (t, e) (λ z. e)
      go (inl t) (inr e) ih = let w = next-within b at d (eqb-true (refusal_of b at d) 0 t) in rw (t, e) (ih (omega arith))

  reading-kept : Kept (reading_of b)
  unfolding stop_of stop_from number_at
  reading-kept = by-number b Kept read (λ n z. n (sym (number-refusal b (stop_of b).at (stop_of b).draft n) ∙ z))
    where
      fuel : ℕ
      fuel = length b + 1 - 0

      read : number_at b (stop_of b) ≡ 0 → legal (stop_of b).draft.policy ≡ true
      read z =
          let w = passed z in
          legal-at-end (stop_of b).at (stop_of b).draft (command_at b (stop_of b).at) (stop-stage fuel 0 empty_draft (inl refl)) w.place (stop-ends fuel 0 empty_draft (omega arith) z) w.complete

  -- of an answer at hand
  pub read-legal : {r : Found} → reading_of b ≡ Ok r → legal r.policy ≡ true
  read-legal e = subst Kept e reading-kept

  pub refused-number : {x : Refused} → reading_of b ≡ Err x → number x.refusal ≢ 0
  refused-number e = subst Kept e reading-kept

  pub refused-illegal : {x : Refused} → reading_of b ≡ Err x → legal (policy_read (reading_of b)) ≡ false
  refused-illegal e = ap (λ (a : Result Found Refused). legal (policy_read a)) e ∙ zero-illegal

  -- by the number
  pub number-legal : number_of (reading_of b) ≡ 0 → legal (policy_read (reading_of b)) ≡ true
  number-legal = go (reading_of b) reading-kept
    where
      go : (a : Result Found Refused) → Kept a → number_of a ≡ 0 → legal (policy_read a) ≡ true
      go (Ok r) k e = k
      go (Err x) k e = absurd (k e)

  pub number-illegal : number_of (reading_of b) ≢ 0 → legal (policy_read (reading_of b)) ≡ false
  number-illegal = go (reading_of b)
    where
      go : (a : Result Found Refused) → number_of a ≢ 0 → legal (policy_read a) ≡ false
      go (Ok r) e = absurd (e refl)
      go (Err x) e = zero-illegal
