-- Bytes without a quiet edge and without the empty set are read as in document 01, and the policy has neither. And a quiet edge that is taken is quiet in the policy.
-- Assumes nothing.
use Prim.Native.Nat.{ℕ, zero, suc, ◌+◌, ◌-◌, ◌*◌, ◌^◌, ◌<◌}
use native.Mathlib.Omega.{arith}
use mathlib.Core.Path.{◌≡◌, refl, sym, ap, ◌∙◌, subst}
use mathlib.Core.Logic.{◌≢◌}
use mathlib.Core.Bool.{Bool, true, false, not, ◌&&◌, cond, true≢false}
use mathlib.Core.List.Memᴰ
use mathlib.Core.List.{List, [], ◌∷◌, Memᴰ}
use lib.Dec.{eqb, ltb, leb}
use lib.ListN.{length, get_or}
use lib.Seq.{get_or-set_other}
use borrow.Author.Tests.{lt-ltb, le-leb, leb-true, eqb-true, eq-eqb, ne_eqb, not-true}
use Rattle.std.specs.Prelude.{Result}
use Rattle.lists.proofs.Bools.{and_l, or_left, or_right, bool-ext}
use Rattle.lists.proofs.Lists.{replicate-at}
use Rattle.masks.specs.Masks.{has}
use Rattle.masks.proofs.Bits.{has-insert}
use Rattle.policy.specs.declared.Policy.{Policy}
use Rattle.policy.specs.Policies.{edge_of, in_family, is_quiet}
use Rattle.policy.specs.Making.{counted, zero_policy, with_edge, with_quiet, with_set, with_tables}
use Rattle.reading.specs.declared.Draft.{Draft}
use Rattle.reading.specs.declared.Found.{Found}
use Rattle.reading.specs.declared.Refused.{Refused}
use Rattle.reading.specs.declared.Command.{Command}
use Rattle.reading.specs.declared.Command.TheVariants.{End, Shape, Edge, Accept, Quiet}
use Rattle.reading.specs.Reading.{Stop, answer_at, command_at, command_known, draft_after, empty_draft, in_place, is_end, is_shape, next_offset, number_at, number_of, policy_read, reading_of, refusal_of, stop_from, stop_most, stop_of, within_limits}
use Rattle.reading.specs.Plain.{Plain, PlainAt, offsets_from, offsets_most, offsets_of, plain_answer_at, plain_limits, plain_reading_of, plain_refusal, plain_stop_most}
use Rattle.reading.proofs.Questions.{number-refusal, passed}
use Rattle.reading.proofs.Commands.{by-number}

-- ---- the commands by their codes
pick : (P : Command → Type 0) (x : Bool) {c d : Command} → (x ≡ true → P c) → (x ≡ false → P d) → P (cond x c d)
pick P true f g = f refl
pick P false f g = g refl

module _ (b : List ℕ) (at : ℕ) where
  abbrev code : ℕ
  code = get_or b at 0

  abbrev operand : ℕ → ℕ
  operand i = get_or b (at + i) 0

  -- what holds of each command holds of the one at `at`
  by_code : (P : Command → Type 0) → P (Shape (operand 1) (operand 2) (operand 3) (operand 4)) → P (Edge (operand 1) (operand 2) (operand 3) (operand 4))
      → (code ≡ 3 → P (Accept (operand 1))) → (code ≡ 4 → P (Quiet (operand 1) (operand 2) (operand 3))) → P End → P (command_at b at)
  unfolding command_at
  by_code P shape edge accept quiet end =
      pick P (eqb code 1) (λ t. shape)
      (λ f. pick P (eqb code 2) (λ t. edge) (λ f. pick P (eqb code 3) (λ t. accept (eqb-true code 3 t)) (λ f. pick P (eqb code 4) (λ t. quiet (eqb-true code 4 t)) (λ f. end))))

  -- ---- what a command keeps
  quiet-after : (d : Draft) → code ≢ 4 → d.policy.quiet ≡ 0 → (draft_after d (command_at b at)).policy.quiet ≡ 0
  unfolding draft_after counted with_edge with_set with_tables
  quiet-after d h z = by_code (λ (c : Command). (draft_after d c).policy.quiet ≡ 0) refl z (λ q. z) (λ q. absurd (h q)) z

  family-after : (d : Draft) → (code ≡ 3 → operand 1 ≢ 0) → in_family d.policy 0 ≡ false → in_family (draft_after d (command_at b at)).policy 0 ≡ false
  unfolding draft_after counted with_edge with_quiet with_set with_tables in_family
  family-after d h z =
      by_code (λ (c : Command). in_family (draft_after d c).policy 0 ≡ false)
      (replicate-at 256 0 false) z (λ q. get_or-set_other d.policy.family (operand 1) 0 true false (λ e. h q (sym e)) ∙ z) (λ q. z) z

module _ (b : List ℕ) where
  -- what each command taken keeps holds where reading stops
  stop-keeps : (Q : Draft → Type 0) (n at : ℕ) (d : Draft) → ((o : ℕ) (x : Draft) → Memᴰ o (offsets_most n b at d) → Q x → Q (draft_after x (command_at b o))) → Q d → Q (stop_most n b at d).draft
  unfolding stop_most offsets_most
  stop-keeps Q zero at d = λ h q. q
  stop-keeps Q (suc n) at d = go (eqb (refusal_of b at d) 0 && not (is_end (command_at b at))) (stop-keeps Q n (next_offset b at) (draft_after d (command_at b at)))
    where
      next : Draft
      next = draft_after d (command_at b at)

      offsets : List ℕ
      offsets = offsets_most n b (next_offset b at) next

      go : (x : Bool) → (((o : ℕ) (x : Draft) → Memᴰ o offsets → Q x → Q (draft_after x (command_at b o))) → Q next → Q (stop_most n b (next_offset b at) next).draft)
          → ((o : ℕ) (y : Draft) → Memᴰ o (cond x (at ∷ offsets) []) → Q y → Q (draft_after y (command_at b o))) → Q d → Q (cond x (stop_most n b (next_offset b at) next) (record { at = at; draft = d })).draft
      go true ih h q = ih (λ o y m. h o y (Memᴰ.tail m)) (h at d (Memᴰ.head refl) q)
      go false ih h q = q

  -- ---- the policy read
  -- no command taken is 0x04: no edge is quiet
  pub loud-read : ((at : ℕ) → Memᴰ at (offsets_of b) → get_or b at 0 ≢ 4) → (policy_read (reading_of b)).quiet ≡ 0
  unfolding offsets_of offsets_from stop_of stop_from empty_draft zero_policy counted
  loud-read h = by-number b (λ (a : Result Found Refused). (policy_read a).quiet ≡ 0) (λ z. stop-keeps (λ (d : Draft). d.policy.quiet ≡ 0) (length b + 1 - 0) 0 empty_draft (λ o d m. quiet-after b o d (h o m)) refl) (λ n. refl)

  -- no command taken accepts the empty set: it is not in the family
  pub nonempty-read : ((at : ℕ) → Memᴰ at (offsets_of b) → get_or b at 0 ≡ 3 → get_or b (at + 1) 0 ≢ 0) → in_family (policy_read (reading_of b)) 0 ≡ false
  unfolding offsets_of offsets_from stop_of stop_from empty_draft zero_policy counted in_family
  nonempty-read h =
      by-number b (λ (a : Result Found Refused). in_family (policy_read a) 0 ≡ false)
      (λ z. stop-keeps (λ (d : Draft). in_family d.policy 0 ≡ false) (length b + 1 - 0) 0 empty_draft (λ o d m. family-after b o d (h o m)) (replicate-at 256 0 false)) (λ n. replicate-at 256 0 false)

-- ---- a quiet edge that is taken
-- edge v * l + a is quiet, where l is the number of letters
abbrev QuietFrom : ℕ → ℕ → ℕ → Draft → Type 0
QuietFrom v a l d = (d.policy.letters ≡ l) × (is_quiet d.policy (v * l + a) ≡ true)

quiet-kept : (v a l : ℕ) (d : Draft) (c : Command) → is_shape c ≡ false → QuietFrom v a l d → QuietFrom v a l (draft_after d c)
unfolding is_shape draft_after with_edge with_quiet with_set with_tables is_quiet
quiet-kept v a l d End f q = q
quiet-kept v a l d (Shape w b k i) f q = absurd (true≢false f)
quiet-kept v a l d (Edge w b t k) f q = q
quiet-kept v a l d (Accept s) f q = q
quiet-kept v a l d (Quiet w b t) f q = let e = edge_of d.policy w b in (q.0, has-insert d.policy.quiet e (v * l + a) ∙ or_left (has d.policy.quiet (v * l + a)) (eqb e (v * l + a)) q.1)

quiet-taken : (v a t : ℕ) (d : Draft) → QuietFrom v a d.policy.letters (draft_after d (Quiet v a t))
unfolding draft_after with_quiet is_quiet edge_of
quiet-taken v a t d = let e = edge_of d.policy v a in (refl, has-insert d.policy.quiet e e ∙ or_right (has d.policy.quiet e) (eqb e e) (eq-eqb e e refl))

quiet_edge : (v a l : ℕ) (d : Draft) → QuietFrom v a l d → is_quiet d.policy (edge_of d.policy v a) ≡ true
unfolding edge_of
quiet_edge v a l d q = ap (λ (x : ℕ). is_quiet d.policy (v * x + a)) q.0 ∙ q.1

module _ (b : List ℕ) where
  -- whether a command is taken
  abbrev goes_on : ℕ → Draft → Bool
  goes_on at d = eqb (refusal_of b at d) 0 && not (is_end (command_at b at))

  place : (at : ℕ) (d : Draft) → goes_on at d ≡ true → in_place at (command_at b at) ≡ true
  place at d t = (passed (eqb-true (refusal_of b at d) 0 (and_l (eqb (refusal_of b at d) 0) (not (is_end (command_at b at))) t))).place

  -- a command taken later is not shape
  later-plain : (at : ℕ) (d : Draft) → 0 < at → goes_on at d ≡ true → is_shape (command_at b at) ≡ false
  unfolding in_place
  later-plain at d h t = let q = place at d t in not-true (is_shape (command_at b at)) (rw (ne_eqb at 0 (λ z. absurd (omega arith))) at q)

  later-shapeless : (n at : ℕ) (d : Draft) → 0 < at → (o : ℕ) → Memᴰ o (offsets_most n b at d) → is_shape (command_at b o) ≡ false
  unfolding offsets_most next_offset
  later-shapeless zero at d h o = λ m. absurd (Memᴰ.not-nil m)
  later-shapeless (suc n) at d h o = go (goes_on at d) refl (later-shapeless n (next_offset b at) (draft_after d (command_at b at)) (omega arith) o)
    where
      offsets : List ℕ
      offsets = offsets_most n b (next_offset b at) (draft_after d (command_at b at))

      go : (x : Bool) → goes_on at d ≡ x → (Memᴰ o offsets → is_shape (command_at b o) ≡ false) → Memᴰ o (cond x (at ∷ offsets) []) → is_shape (command_at b o) ≡ false
      go false t ih x5 = elim x5 [ ]
      go true t ih (Memᴰ.head e) = ap (λ (x : ℕ). is_shape (command_at b x)) e ∙ later-plain at d h t
      go true t ih (Memᴰ.tail m) = ih m

  module _ (v a t : ℕ) where
    quiet-stop : (n at : ℕ) (d : Draft) → (o : ℕ) → Memᴰ o (offsets_most n b at d) → command_at b o ≡ Quiet v a t → is_quiet (stop_most n b at d).draft.policy (edge_of (stop_most n b at d).draft.policy v a) ≡ true
    unfolding offsets_most stop_most next_offset
    quiet-stop zero at d o = λ m. absurd (Memᴰ.not-nil m)
    quiet-stop (suc n) at d o = go (goes_on at d) (quiet-stop n (next_offset b at) (draft_after d (command_at b at)) o)
      where
        next : Draft
        next = draft_after d (command_at b at)

        offsets : List ℕ
        offsets = offsets_most n b (next_offset b at) next

        stop : Bool → Stop
        stop x = cond x (stop_most n b (next_offset b at) next) (record { at = at; draft = d })

        head : command_at b at ≡ Quiet v a t → is_quiet (stop true).draft.policy (edge_of (stop true).draft.policy v a) ≡ true
        head q =
            let l = d.policy.letters in
            quiet_edge v a l (stop true).draft
            (stop-keeps b (QuietFrom v a l) n (next_offset b at) next (λ o x m. quiet-kept v a l x (command_at b o) (later-shapeless n (next_offset b at) next (omega arith) o m))
            (subst (λ (c : Command). QuietFrom v a l (draft_after d c)) (sym q) (quiet-taken v a t d)))

        go : (x : Bool) → (Memᴰ o offsets → command_at b o ≡ Quiet v a t → is_quiet (stop true).draft.policy (edge_of (stop true).draft.policy v a) ≡ true)
            → Memᴰ o (cond x (at ∷ offsets) []) → command_at b o ≡ Quiet v a t → is_quiet (stop x).draft.policy (edge_of (stop x).draft.policy v a) ≡ true
        go false ih x4 q = elim x4 [ ]
        go true ih (Memᴰ.head e) q = head (sym (ap (command_at b) e) ∙ q)
        go true ih (Memᴰ.tail m) q = ih m q

  -- a command 0x04 that is taken: the edge of its state and letter is quiet in the policy read
  pub quiet_read : (at : ℕ) → Memᴰ at (offsets_of b) → get_or b at 0 ≡ 4 → number_of (reading_of b) ≡ 0
      → is_quiet (policy_read (reading_of b)) (edge_of (policy_read (reading_of b)) (get_or b (at + 1) 0) (get_or b (at + 2) 0)) ≡ true
  unfolding offsets_of offsets_from stop_of stop_from command_at number_at
  quiet_read at m e =
      by-number b (λ (x : Result Found Refused). number_of x ≡ 0 → is_quiet (policy_read x) (edge_of (policy_read x) (get_or b (at + 1) 0) (get_or b (at + 2) 0)) ≡ true)
      (λ z k. quiet-stop (get_or b (at + 1) 0) (get_or b (at + 2) 0) (get_or b (at + 3) 0) (length b + 1 - 0) 0 empty_draft at m (rw e)) (λ n k. absurd (n (sym (number-refusal b (stop_of b).at (stop_of b).draft n) ∙ k)))

-- ---- the questions
pub plain_known : (code : ℕ) → code ≢ 4 → command_known code ≡ leb code 3
plain_known code h = bool-ext (leb code 4) (leb code 3) (λ t. le-leb code 3 (omega (arith, leb-true code 4 t))) (λ t. le-leb code 4 (omega (arith, leb-true code 3 t)))

pub plain-limits : (p : Policy) (b : List ℕ) (at : ℕ) → get_or b at 0 ≢ 4 → (get_or b at 0 ≡ 3 → get_or b (at + 1) 0 ≢ 0) → within_limits p (command_at b at) ≡ plain_limits p (command_at b at)
unfolding within_limits plain_limits
plain-limits p b at h g =
    by_code b at (λ (c : Command). within_limits p c ≡ plain_limits p c) refl refl
    (λ q. ap (λ (x : Bool). x && ltb (get_or b (at + 1) 0) (2 ^ p.colours)) (sym (lt-ltb 0 (get_or b (at + 1) 0) (omega (arith, g q))))) (λ q. absurd (h q)) refl

-- a command that is not 0x04, and accepts no empty set, is asked document 01's questions
pub plain-questions : (b : List ℕ) (at : ℕ) (d : Draft) → get_or b at 0 ≢ 4 → (get_or b at 0 ≡ 3 → get_or b (at + 1) 0 ≢ 0) → refusal_of b at d ≡ plain_refusal b at d
unfolding refusal_of plain_refusal
plain-questions b at d h g = rw (plain_known (get_or b at 0) h, plain-limits d.policy b at h g)

-- ---- the whole reading
module _ (b : List ℕ) where
  plain_at : (at : ℕ) (d : Draft) → PlainAt b at → refusal_of b at d ≡ plain_refusal b at d
  plain_at at d h = plain-questions b at d h.0 h.1

  plain-stop : (n at : ℕ) (d : Draft) → ((o : ℕ) → Memᴰ o (offsets_most n b at d) → PlainAt b o) → PlainAt b (stop_most n b at d).at → stop_most n b at d ≡ plain_stop_most n b at d
  unfolding stop_most offsets_most plain_stop_most
  plain-stop zero at d = λ h l. refl
  plain-stop (suc n) at d = go (goes_on b at d) refl (plain-stop n (next_offset b at) (draft_after d (command_at b at)))
    where
      next : Draft
      next = draft_after d (command_at b at)

      offsets : List ℕ
      offsets = offsets_most n b (next_offset b at) next

      later : Stop
      later = stop_most n b (next_offset b at) next

      plain_later : Stop
      plain_later = plain_stop_most n b (next_offset b at) next

      here : Stop
      here = record { at = at; draft = d }

      same : PlainAt b at → (x : Bool) → goes_on b at d ≡ x → eqb (plain_refusal b at d) 0 && not (is_end (command_at b at)) ≡ x
      same h x t = ap (λ (k : ℕ). eqb k 0 && not (is_end (command_at b at))) (sym (plain_at at d h)) ∙ t

      go : (x : Bool) → goes_on b at d ≡ x → (((o : ℕ) → Memᴰ o offsets → PlainAt b o) → PlainAt b later.at → later ≡ plain_later)
          → ((o : ℕ) → Memᴰ o (cond x (at ∷ offsets) []) → PlainAt b o) → PlainAt b (cond x later here).at
          → cond x later here ≡ cond (eqb (plain_refusal b at d) 0 && not (is_end (command_at b at))) plain_later here
      go true t ih h l = rw (same (h at (Memᴰ.head refl)) true t) (ih (λ o m. h o (Memᴰ.tail m)) l)
      go false t ih h l = rw (same l false t)

  -- bytes without 0x04 and without an empty set are read as in document 01
  pub plain-reading : Plain b → reading_of b ≡ plain_reading_of b
  unfolding reading_of answer_at number_at stop_of stop_from offsets_of offsets_from plain_reading_of plain_answer_at
  plain-reading h =
      let n : length b + 1 - 0 ≡ length b + 1 = omega arith in
      let number : refusal_of b (stop_of b).at (stop_of b).draft ≡ plain_refusal b (stop_of b).at (stop_of b).draft = plain_at (stop_of b).at (stop_of b).draft h.last in
      let stops : stop_of b ≡ plain_stop_most (length b + 1) b 0 empty_draft = plain-stop (length b + 1 - 0) 0 empty_draft h.taken h.last ∙ ap (λ (k : ℕ). plain_stop_most k b 0 empty_draft) n in
      rw number (ap (plain_answer_at b) stops)

  -- and their policy has no quiet edge, and no empty set in its family
  pub plain-read : Plain b → ((policy_read (reading_of b)).quiet ≡ 0) × (in_family (policy_read (reading_of b)) 0 ≡ false)
  plain-read h = (loud-read b (λ at m. (h.taken at m).0), nonempty-read b (λ at m. (h.taken at m).1))
