-- Demand 3 for a policy that was read from a text: from demand 3 over the calls, and the agreement of the policy and the text. Assumes nothing.
use Prim.Native.Nat.{ℕ, ◌<◌}
use mathlib.Core.Path.{◌≡◌, refl, sym, ap, ◌∙◌, subst}
use mathlib.Core.List.{List}
use lib.Dec.{ltb}
use Rattle.lists.specs.Lists.{any}
use Rattle.lists.proofs.Bools.{bool-ext}
use Rattle.masks.specs.Masks.{has}
use Rattle.masks.proofs.Bits.{mask-ext}
use Rattle.policy.specs.declared.Policy.{Policy}
use Rattle.policy.specs.Policies.{in_family}
use Rattle.hanoi.specs.Documents.{Document, letters}
use Rattle.correctness.specs.Calls.{Function, Places, Call, Translating, Running, translate, translate_shows, read, read_shows, wulfrenda_translate, wulfrenda_translate_shows, wulfrenda_run, wulfrenda_run_shows}
use Rattle.correctness.specs.Demand3.{state_count, under, Holds, Decided as CallsDecided, Agreement as CallsAgreement}
use Rattle.correctness.proofs.Joint.{in-good}
use Rattle.correctness.proofs.Translated.{Success, success-legal, stands-over}
use Rattle.correctness.proofs.Demand3.{translated, wulfrenda-translated, demand3}
use Rattle.hanoi_agreement.specs.TextCalls.{ReadingText, read_text, read_text_shows, wulfrenda_read_hanoi, wulfrenda_read_hanoi_shows}
use Rattle.hanoi_agreement.specs.Agreement.{Decided, Agreement, Reads}
use Rattle.hanoi_agreement.specs.TextDemand3.{TextDecided, TextAgreement, TextHolds, TextDemand3}
use Rattle.hanoi_agreement.proofs.Texts.{texts-agree}

-- ---- both agreements, over one policy
module _ (d : Document) (t : Translating) (stem loop : List ℕ) (calls : ℕ → Running) where
  abbrev v : ℕ
  v = under t (calls 0).state

  -- the recurring colours are one set
  decided-both : CallsDecided stem loop t calls → Decided d t.policy v stem loop → TextDecided stem loop d t calls
  decided-both b x =
      let same : b.colours ≡ x.colours
      = mask-ext b.colours x.colours (λ c. bool-ext (has b.colours c) (has x.colours c) (λ u. (x.colours_recur c).1 ((b.colours_recur c).0 u)) (λ u. (b.colours_recur c).1 ((x.colours_recur c).0 u))) in
      record {
        least = b.least;
        least_recurs = b.least_recurs;
        least_lowest = b.least_lowest;
        marks = x.marks;
        marks_recur = x.marks_recur;
        verdict = b.verdict ∙ ap (in_family t.policy) same ∙ sym x.verdict;
      }

  agree-both : t.policy.letters ≡ letters d → CallsAgreement stem loop t calls → Agreement d t.policy v stem loop → TextAgreement stem loop d t calls
  agree-both e b x = record {
    stands = b.stands;
    over = λ i. b.over i ∙ sym (x.same_state i);
    decided = λ some. decided-both (b.decided (ap (λ (n : ℕ). any (λ a. ltb a n) loop) e ∙ some)) (x.decided some);
  }

-- the policy state under a built state is a state of the policy
under-lt : (t : Translating) → Success t → (s : ℕ) → s < state_count t → under t s < t.policy.states
under-lt t done s h =
    let o = stands-over t done (record { state = s }) h in
    (in-good t.policy (success-legal t done) (record { state = s }) (under t s) _ (record { is-built = o.is-built; over = o.over; leaf_is = refl })).0

-- ---- of a function that reads, one that translates, by what a call of it that succeeded has said, and one that runs
text-holds : (e : Function) (shown : Places e → ReadingText) (f : Function) (shows : Places f → Translating) (g : Function) (shows' : Places g → Running)
    → Reads e shown → ((t : Call f) → (shows t.at).number ≡ 0 → Success (shows t.at)) → Holds f shows g shows' → TextHolds e shown f shows g shows'
text-holds e shown f shows g shows' reads success holds r done t given returned stem loop calls run d says =
    let x = shows t.at in
    let cs : ℕ → Running = λ (i : ℕ). shows' (calls i).at in
    let a = reads r done in
    let v = under x (cs 0).state in
    let same : a.document ≡ d = sym (a.only d says) in
    let lt : v < x.policy.states = under-lt x (success t returned) (cs 0).state run.begins in
    subst (λ (y : Document). TextAgreement stem loop y x cs) same
    (agree-both a.document x stem loop cs (ap (λ (p : Policy). p.letters) given ∙ a.letters_are) (holds t returned stem loop calls run)
    (subst (λ (p : Policy). Agreement a.document p v stem loop) (sym given) (a.agrees v (subst (λ (n : ℕ). v < n) (ap (λ (p : Policy). p.states) given ∙ a.states_are) lt) stem loop)))

pub text-demand3 : TextDemand3
text-demand3 = record {
  of_the_core = text-holds read_text read_text_shows translate translate_shows read read_shows texts-agree.of_the_core translated demand3.of_the_core;
  of_the_library = text-holds wulfrenda_read_hanoi wulfrenda_read_hanoi_shows wulfrenda_translate wulfrenda_translate_shows wulfrenda_run wulfrenda_run_shows texts-agree.of_the_library wulfrenda-translated demand3.of_the_library;
}
