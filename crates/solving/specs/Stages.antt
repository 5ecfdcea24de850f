-- What the stages of solving hand to one another: what is asked of the owners, what a translation leaves to go on with, and what deciding its built states does to the two new tables.
use Rattle.std.specs.Prelude.{ℕ, ◌≤◌, ◌≡◌, ◌≢◌, Bool, cond, List, eqb, ltb, length, Result, Ok, Err}
use Rattle.lists.specs.Lists.{all}
use Rattle.lists.specs.Questions.{ask}
use Rattle.tables.specs.Tables.{padded, zeros, Column}
use Rattle.policy.specs.declared.Policy.{Policy}
use Rattle.automaton.specs.Automaton.{built, state_sources, row_targets, row_priorities}
use Rattle.refusals.specs.declared.Refusal.{Refusal}
use Rattle.builder.specs.declared.Counts.{Counts}
use Rattle.refusals.specs.Refusals.{number, refusal}
use Rattle.builder.specs.Tables.{refused, number_of}
use Rattle.solving.specs.Solving.{state_winners, Chosen}

-- ---- the owners
-- each byte is 0 or 1
unfoldable pub are_players : List ℕ → Bool
are_players owners = all (λ (x : ℕ). ltb x 2) owners

-- 16 and 17 of the owners of so many policy states: the first that is answered no; 0 where there is none
unfoldable pub owners_refusal : ℕ → List ℕ → ℕ
owners_refusal states owners = ask (eqb (length owners) states) 16 (ask (are_players owners) 17 0)

-- the answer of that number
unfoldable pub owners_answer : ℕ → List ℕ → Result Unit Refusal
owners_answer states owners = cond (eqb (owners_refusal states owners) 0) (Ok tt) (Err (refusal (owners_refusal states owners)))

-- ---- after a translation, by its answer
-- the first question that is answered no: its own, or 16 or 17 of the owners of so many policy states; 0 where there is none
unfoldable pub refusal_after : Result Counts Refusal → ℕ → List ℕ → ℕ
refusal_after (Ok counts) policy_states owners = owners_refusal policy_states owners
refusal_after (Err e) policy_states owners = number e

-- the answer then: its own refusal, or that of the owners; else the counts
unfoldable pub answer_after : Result Counts Refusal → ℕ → List ℕ → Result Counts Refusal
answer_after (Ok counts) policy_states owners = cond (eqb (owners_refusal policy_states owners) 0) (Ok counts) (refused (owners_refusal policy_states owners))
answer_after (Err e) policy_states owners = Err e

-- the tables of the built states and of their rows begin with these
pub record Holds (p : Policy) (sources targets priorities : List ℕ) : Type 0 where
  pub few : length (built p) ≤ 65535
  pub sources_are : Column (state_sources p) sources
  pub targets_are : Column (row_targets p) targets
  pub priorities_are : Column (row_priorities p) priorities

-- what there is to go on with: the tables, or the number of a refusal
abbrev pub Ready : Policy → List ℕ → List ℕ → List ℕ → Result Counts Refusal → Type 0
Ready p sources targets priorities (Ok counts) = (counts.states ≡ length (built p)) × Holds p sources targets priorities
Ready p sources targets priorities (Err e) = number e ≢ 0

-- ---- the two tables that solving adds, from what they were
module _ (p : Policy) (owners : List ℕ) where
  -- the built states have their winners and letters
  pub record Decided (winners letters winners_exit letters_exit : List ℕ) : Type 0 where
    pub winners_are : winners_exit ≡ padded (length winners) (state_winners p owners)
    pub letters_long : length letters_exit ≡ length letters
    pub chosen : Chosen p owners letters_exit

  -- the answer, and the two tables: as they were after 8, all 0 after another refusal
  pub record Decides (answer : Result Counts Refusal) (winners letters : List ℕ) (decision : Result Counts Refusal) (winners_exit letters_exit : List ℕ) : Type 0 where
    pub answer_is : decision ≡ answer_after answer p.states owners
    pub number_is : number_of decision ≡ refusal_after answer p.states owners
    pub left_both : number_of decision ≡ 8 → (winners_exit ≡ winners) × (letters_exit ≡ letters)
    pub cleared_both : number_of decision ≢ 0 → number_of decision ≢ 8 → (winners_exit ≡ zeros winners) × (letters_exit ≡ zeros letters)
    pub decided : number_of decision ≡ 0 → Decided winners letters winners_exit letters_exit
