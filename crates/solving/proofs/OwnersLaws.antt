-- The owners: whether each byte is a player, found byte by byte, and what 16 and 17 answer. Assumes nothing.
use Prim.Native.Nat.{ℕ, ◌≤◌, ◌<◌}
use native.Mathlib.Omega.{arith}
use mathlib.Core.Path.{◌≡◌, refl, sym, ap, ◌∙◌}
use mathlib.Core.Logic.{◌⊎◌, inl, inr, ◌≢◌}
use mathlib.Core.Bool.{Bool, true, false, true≢false}
use mathlib.Core.List.{List}
use Rattle.std.specs.Bool.{MatchBool}
use Rattle.std.specs.List.{AllWithin, HoldsAt}
use lib.Dec.{eqb, ltb}
use lib.ListN.{length, get_or}
use borrow.Author.Tests.{lt-ltb, le-ltb, eq-eqb}
use Rattle.lists.specs.Lists.{all}
use Rattle.lists.specs.Questions.{ask}
use Rattle.lists.proofs.Bools.{test, eqb≡}
use Rattle.lists.proofs.Lists.{all-each, each_all, get_or-mem, mem-at}
use Rattle.policy.specs.declared.Policy.{Policy}
use Rattle.automaton.specs.Automaton.{built}
use Rattle.refusals.specs.declared.Refusal.{Refusal}
use Rattle.builder.specs.declared.Counts.{Counts}
use Rattle.refusals.specs.declared.Refusal.TheVariants.{Truncated, UnknownCommand, Misplaced, OutOfRange, Repeated, Incomplete, IllegalPolicy, Lengths, TooManyNodes, TooManyStates, NoSuchState, NoSuchLetter, NoSuchTarget, EmptyLoop, DifferentGraphs, OwnersLength, NoSuchOwner, NotHanoi, TooManyMarkSets}
use Rattle.refusals.specs.Refusals.{number, refusal}
use Rattle.builder.specs.Tables.{number_of}
use Rattle.std.specs.Prelude.{Result, Ok, Err, is_ok}
use Rattle.solving.specs.Solving.{owners_fit, owners_legal}
use Rattle.solving.specs.Stages.{are_players, owners_refusal, owners_answer, answer_after, Ready, Holds}

-- ---- byte by byte
module _ (owners : List ℕ) where
  pub players-not : (i : ℕ) → i < length owners → 2 ≤ get_or owners i 0 → are_players owners ≡ false
  unfolding are_players
  players-not i h g = go (test (all (λ (x : ℕ). ltb x 2) owners))
    where
      go : (all (λ (x : ℕ). ltb x 2) owners ≡ true) ⊎ (all (λ (x : ℕ). ltb x 2) owners ≡ false) → all (λ (x : ℕ). ltb x 2) owners ≡ false
      go (inl t) = absurd (true≢false (sym (all-each (λ (x : ℕ). ltb x 2) owners t (get_or owners i 0) (get_or-mem owners i 0 h)) ∙ le-ltb (get_or owners i 0) 2 g))
      go (inr f) = f

  pub players-all : ((i : ℕ) → i < length owners → get_or owners i 0 < 2) → are_players owners ≡ true
  unfolding are_players
  players-all each = each_all (λ (x : ℕ). ltb x 2) owners (λ x m. let k = mem-at owners 0 x m in ap (λ (y : ℕ). ltb y 2) (sym k.2) ∙ lt-ltb (get_or owners k.0 0) 2 (each k.0 k.1))

-- the answer of a search through the bytes for one that is no player
pub players-searched : (owners : List ℕ) (r : Bool) → MatchBool r (AllWithin (λ x. x ≤ 1) owners 0 (length owners)) ((k : ℕ) × (k < length owners) × HoldsAt (λ x. 1 < x) owners k) → r ≡ are_players owners
players-searched owners true each = sym (players-all owners (λ i h. let e : get_or owners i 0 ≤ 1 = each i 0 (omega arith) h in omega arith))
players-searched owners false (k, h, n) = sym (players-not owners k h (let e : 1 < get_or owners k 0 = n 0 in omega arith))

-- ---- the two questions
module _ (states : ℕ) (owners : List ℕ) where
  pub refused-sixteen : eqb (length owners) states ≡ false → Err (refusal 16) ≡ owners_answer states owners
  unfolding owners_answer owners_refusal
  refused-sixteen f = rw f refl

  pub refused-seventeen : eqb (length owners) states ≡ true → are_players owners ≡ false → Err (refusal 17) ≡ owners_answer states owners
  unfolding owners_answer owners_refusal
  refused-seventeen t f = rw (t, f) refl

  pub refused-neither : eqb (length owners) states ≡ true → are_players owners ≡ true → Ok tt ≡ owners_answer states owners
  unfolding owners_answer owners_refusal
  refused-neither t u = rw (t, u) refl

-- what the number says of the answers
pub owners-refusal-is : (p : Policy) (owners : List ℕ) → owners_refusal p.states owners ≡ ask (owners_fit p owners) 16 (ask (owners_legal p owners) 17 0)
unfolding owners_refusal owners_fit owners_legal are_players
owners-refusal-is p owners = refl

owners-fit : (p : Policy) (owners : List ℕ) → owners_refusal p.states owners ≡ 0 → owners_fit p owners ≡ true
owners-fit p owners zero = go (test (owners_fit p owners))
  where
    go : (owners_fit p owners ≡ true) ⊎ (owners_fit p owners ≡ false) → owners_fit p owners ≡ true
    go (inl e) = e
    go (inr f) = let q : ◌≡◌ {A = ℕ} 0 16 = sym zero ∙ owners-refusal-is p owners ∙ rw f refl in absurd (omega arith)

-- ---- after a translation
states_in : Result Counts Refusal → ℕ
states_in (Ok counts) = counts.states
states_in (Err e) = 0

error_in : Result Unit Refusal → Refusal
error_in (Ok u) = refusal 16
error_in (Err e) = e

-- the owners' refusal is the answer then, and without one the counts are
module _ (states : ℕ) (owners : List ℕ) (counts : Counts) where
  pub owners-refused : {e : Refusal} → owners_answer states owners ≡ Err e → Err e ≡ answer_after (Ok counts) states owners
  unfolding owners_answer answer_after error_in
  owners-refused {e} h = go (test (eqb (owners_refusal states owners) 0))
    where
      go : (eqb (owners_refusal states owners) 0 ≡ true) ⊎ (eqb (owners_refusal states owners) 0 ≡ false) → Err e ≡ answer_after (Ok counts) states owners
      go (inl t) = absurd (true≢false (ap is_ok (rw t at h)))
      go (inr f) = rw f (ap Err (sym (ap error_in (rw f at h))))

  pub owners-passed : {u : Unit} → owners_answer states owners ≡ Ok u → Ok counts ≡ answer_after (Ok counts) states owners
  unfolding owners_answer answer_after
  owners-passed {u} h = go (test (eqb (owners_refusal states owners) 0))
    where
      go : (eqb (owners_refusal states owners) 0 ≡ true) ⊎ (eqb (owners_refusal states owners) 0 ≡ false) → Ok counts ≡ answer_after (Ok counts) states owners
      go (inl t) = rw t refl
      go (inr f) = absurd (true≢false (sym (ap is_ok (rw f at h))))

-- with no refusal the tables hold it, and the owners are one for each state
pub ready-holds : (p : Policy) (owners : List ℕ) {s t k : List ℕ} (answer : Result Counts Refusal) {counts : Counts} → Ready p s t k answer → Ok counts ≡ answer_after answer p.states owners
    → (counts.states ≡ length (built p)) × (owners_fit p owners ≡ true) × Holds p s t k
unfolding answer_after states_in
ready-holds p owners {s} {t} {k} (Ok found) {counts} r is = go (test (eqb (owners_refusal p.states owners) 0))
  where
    go : (eqb (owners_refusal p.states owners) 0 ≡ true) ⊎ (eqb (owners_refusal p.states owners) 0 ≡ false) → (counts.states ≡ length (built p)) × (owners_fit p owners ≡ true) × Holds p s t k
    go (inl e) = let same : Ok counts ≡ Ok found = rw e at is in (ap states_in same ∙ r.0, owners-fit p owners (eqb≡ (owners_refusal p.states owners) 0 e), r.1)
    go (inr f) = absurd (true≢false (ap is_ok (rw f at is)))
ready-holds p owners (Err e) r is = absurd (true≢false (ap is_ok is))

-- ---- the number of a refusal
number-positive : (e : Refusal) → number e ≢ 0
number-positive Truncated z = absurd (omega arith)
number-positive UnknownCommand z = absurd (omega arith)
number-positive Misplaced z = absurd (omega arith)
number-positive OutOfRange z = absurd (omega arith)
number-positive Repeated z = absurd (omega arith)
number-positive Incomplete z = absurd (omega arith)
number-positive IllegalPolicy z = absurd (omega arith)
number-positive Lengths z = absurd (omega arith)
number-positive TooManyNodes z = absurd (omega arith)
number-positive TooManyStates z = absurd (omega arith)
number-positive NoSuchState z = absurd (omega arith)
number-positive NoSuchLetter z = absurd (omega arith)
number-positive NoSuchTarget z = absurd (omega arith)
number-positive EmptyLoop z = absurd (omega arith)
number-positive DifferentGraphs z = absurd (omega arith)
number-positive OwnersLength z = absurd (omega arith)
number-positive NoSuchOwner z = absurd (omega arith)
number-positive NotHanoi z = absurd (omega arith)
number-positive TooManyMarkSets z = absurd (omega arith)

pub number-some : {r : Result Counts Refusal} {e : Refusal} → r ≡ Err e → number_of r ≢ 0
number-some {r} {e} is z = number-positive e (sym (ap number_of is) ∙ z)

pub not-eight : {m n : ℕ} → m ≡ n → eqb n 8 ≡ false → m ≢ 8
not-eight {m} {n} is f z = true≢false (sym (eq-eqb n 8 (sym is ∙ z)) ∙ f)
