-- Demand 3 (document 01, "The two runs"): one claim about the whole list of letters, a stem and then a loop without end, over the calls of translating and of running. Of the calls nothing
-- is known but what their contracts promise (Calls.antt).
use Rattle.std.specs.Prelude.{ℕ, zero, suc, ◌+◌, ◌-◌, ◌*◌, ◌%◌, ◌≤◌, ◌<◌, ◌≡◌, ◌↔◌, true, cond, eqb, ltb, length, get_or, take}
use mathlib.Core.List.{List, [], ◌∷◌, Memᴰ}
use Rattle.lists.specs.Lists.{any}
use Rattle.masks.specs.Masks.{has}
use Rattle.policy.specs.declared.Policy.{Policy}
use Rattle.policy.specs.Policies.{in_family}
use Rattle.forest.specs.Forest.{even}
use Rattle.running.specs.Running.{policy_step, policy_meets, shaped}
use Rattle.correctness.specs.Calls.{Function, Places, Call, Translating, Running, translate, translate_shows, read, read_shows, wulfrenda_translate, wulfrenda_translate_shows, wulfrenda_translate_bytes, wulfrenda_translate_bytes_shows, wulfrenda_run, wulfrenda_run_shows}

-- ---- after a call of translating
module _ (t : Translating) where
  -- how many built states there are
  abbrev pub state_count : ℕ
  state_count = get_or t.counts 1 0

  -- the policy's state under built state s
  abbrev pub under : ℕ → ℕ
  under s = get_or t.exit.sources s 0

  -- a beginning of both row tables, any that holds every row of the built states and passes running's 8
  pub record Beginning (size : ℕ) : Type 0 where
    pub holds_rows : state_count * t.policy.letters ≤ length (take size t.exit.targets)
    pub passes : shaped t.policy.letters (take size t.exit.targets) (take size t.exit.priorities) ≡ true

-- calls of running: a letter that is read meets the priority given back, a refused one meets none
abbrev pub priorities_met : (ℕ → Running) → ℕ → List ℕ
priorities_met calls i = cond (eqb (calls i).number 0) ((calls i).priority ∷ []) []

module _ (stem loop : List ℕ) where
  -- ---- the letters: the stem, then the loop again and again
  unfoldable pub letter_at : ℕ → ℕ
  letter_at i = cond (ltb i (length stem)) (get_or stem i 0) (get_or loop ((i - length stem) % length loop) 0)

  -- letter i is read in round r; a round is one reading of the loop
  pub record InRound (r i : ℕ) : Type 0 where
    pub from : length stem + r * length loop ≤ i
    pub until : i < length stem + suc r * length loop

  -- where letter i meets the members of `met i`, y recurs: after every number of rounds some later round meets it
  abbrev pub Recurs : (ℕ → List ℕ) → ℕ → Type 0
  Recurs met y = (n : ℕ) → (r : ℕ) × (n ≤ r) × (i : ℕ) × InRound r i × Memᴰ y (met i)

  -- ---- the policy's run, begun in v: its state before letter i, and the colour that letter i meets, none where it is refused
  module _ (p : Policy) (v : ℕ) where
    unfoldable pub policy_state : ℕ → ℕ
    policy_state zero = v
    policy_state (suc i) = policy_step p (policy_state i) (letter_at i)

    unfoldable pub colours_met : ℕ → List ℕ
    colours_met i = policy_meets p (policy_state i) (letter_at i)

  -- ---- the built automaton's run: after a call of translating the calls of running, one for each letter
  module _ (t : Translating) (calls : ℕ → Running) where
    -- all are lent the policy's number of letters and the same beginning of both row tables
    pub record BuiltRun : Type 0 where
      pub size : ℕ
      pub beginning : Beginning t size
      pub letters_are : (i : ℕ) → (calls i).letters ≡ t.policy.letters
      pub targets_are : (i : ℕ) → (calls i).targets ≡ take size t.exit.targets
      pub priorities_are : (i : ℕ) → (calls i).priorities ≡ take size t.exit.priorities
      -- the first begins in any built state, each later one in the state that the last one gave back
      pub begins : (calls 0).state < state_count t
      pub goes_on : (i : ℕ) → (calls (suc i)).state ≡ (calls i).next
      pub reads : (i : ℕ) → (calls i).letter ≡ letter_at i

    -- ---- the claim
    -- a least recurring priority and a set of recurring colours exist, and the one is even exactly if the other is in the family
    pub record Decided : Type 0 where
      pub least : ℕ
      pub least_recurs : Recurs (priorities_met calls) least
      pub least_lowest : (k : ℕ) → Recurs (priorities_met calls) k → least ≤ k
      pub colours : ℕ
      pub colours_recur : (c : ℕ) → (has colours c ≡ true) ↔ Recurs (colours_met t.policy (under t (calls 0).state)) c
      pub verdict : even least ≡ in_family t.policy colours

    -- the run is always in a built state that stands over the policy's state; and a loop with a letter of the policy is decided alike
    pub record Agreement : Type 0 where
      pub stands : (i : ℕ) → (calls i).state < state_count t
      pub over : (i : ℕ) → under t (calls i).state ≡ policy_state t.policy (under t (calls 0).state) i
      pub decided : any (λ a. ltb a t.policy.letters) loop ≡ true → Decided

-- ---- demand 3, of a function that translates and a function that runs: after a call of the one that succeeded, calls of the other that are a run of the built automaton agree with the policy
abbrev pub Holds : (f : Function) → (Places f → Translating) → (g : Function) → (Places g → Running) → Type 0
Holds f shows g shows' =
    (t : Call f) → (shows t.at).number ≡ 0 → (stem loop : List ℕ) (calls : ℕ → Call g)
    → BuiltRun stem loop (shows t.at) (λ i. shows' (calls i).at) → Agreement stem loop (shows t.at) (λ i. shows' (calls i).at)

pub record Demand3 : Type 0 where
  pub of_the_core : Holds translate translate_shows read read_shows
  pub of_the_library : Holds wulfrenda_translate wulfrenda_translate_shows wulfrenda_run wulfrenda_run_shows
  pub of_the_library_from_bytes : Holds wulfrenda_translate_bytes wulfrenda_translate_bytes_shows wulfrenda_run wulfrenda_run_shows
