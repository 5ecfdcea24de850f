-- The calls that demand 3 speaks of. What is known of a call is what the contract in the source promises of it, and nothing else: what the prover exports of the function. Here stand the
-- calls over these exports, what the places of a call show, and what each of the five contracts says.
use Rattle.std.specs.Prelude.{ℕ, ◌≡◌, List, [], ◌∷◌}
use contract.Lifetimes.{Lfts}
use Rattle.std.specs.Borrow.{MutBor}
use denote.Triple.Clauses.{AtExit}
use borrow.Fn.Claims.{AllOf}
use borrow.Fn.Kinds.{ParamKind, ResultKind, Dens, res_t, ended_of, In, Out}
use Rattle.policy.specs.declared.Policy.{Policy}
use Rattle.reading.specs.Reading.{reading_of as bytes_reading_of, offset_of, policy_read, number_of as read_number_of}
use Rattle.builder.specs.Tables.{Tables, tables, Hold, counts_of, translation_of, tables_after, Translates, number_of as translate_number_of}
use Rattle.running.specs.Running.{reading_of, run_after, priority_of, ReadsLetter, number_of as run_number_of}
use Rattle.records.specs.Records.{policy_of}
use Rattle.answers.specs.Answers.{first_of, offset_after}
use Rattle.builder.proofs.translate.Kinds as translate-kinds
use Rattle.builder.proofs.translate.Reads as translate-reads
use Rattle.running.proofs.Run.read.Kinds as read-kinds
use Rattle.running.proofs.Run.read.Reads as read-reads
use Rattle.wulfrenda.proofs.wulfrenda_translate.Kinds as wulfrenda-translate-kinds
use Rattle.wulfrenda.proofs.wulfrenda_translate.Reads as wulfrenda-translate-reads
use Rattle.wulfrenda.proofs.wulfrenda_translate_bytes.Kinds as wulfrenda-translate-bytes-kinds
use Rattle.wulfrenda.proofs.wulfrenda_translate_bytes.Reads as wulfrenda-translate-bytes-reads
use Rattle.wulfrenda.proofs.wulfrenda_run.Kinds as wulfrenda-run-kinds
use Rattle.wulfrenda.proofs.wulfrenda_run.Reads as wulfrenda-run-reads

-- ---- a call
-- what the prover exports of a function: its parameters and its result, what the contract asks of a caller, and what a caller learns from it
pub record Function : Type 3 where
  pub lifetimes : ℕ
  pub parameters : List (ParamKind lifetimes)
  pub result : ResultKind lifetimes
  pub asked : In lifetimes parameters
  pub learnt : Out lifetimes parameters result

module _ (f : Function) where
  -- the places of a call: the arguments, the answer, and the arguments at exit
  pub record Places : Type 0 where
    pub lifetimes : Lfts f.lifetimes
    pub given : Dens lifetimes f.parameters
    pub answer : (res_t f.result lifetimes).Denot
    pub left : AtExit (ended_of f.lifetimes f.parameters f.result) lifetimes

  -- a call: its places, with all that the contract promises of them
  pub record Call : Type 0 where
    pub at : Places
    pub learnt : f.learnt at.lifetimes at.given at.answer at.left

  -- the contract asks nothing of a caller, and promises exactly these clauses
  pub record Contract (says : Places → List (Type 0)) : Type 1 where
    pub asks_nothing : (x : Places) → f.asked x.lifetimes x.given ≡ Unit {0}
    pub promises : (x : Places) → f.learnt x.lifetimes x.given x.answer x.left ≡ AllOf (says x)

abbrev pub translate : Function
translate = record { lifetimes = 8; parameters = translate-kinds.ps; result = translate-kinds.r; asked = translate-reads.Asked; learnt = translate-reads.Learnt }

abbrev pub read : Function
read = record { lifetimes = 2; parameters = read-kinds.ps; result = read-kinds.r; asked = read-reads.Asked; learnt = read-reads.Learnt }

abbrev pub wulfrenda_translate : Function
wulfrenda_translate = record {
  lifetimes = 9;
  parameters = wulfrenda-translate-kinds.ps;
  result = wulfrenda-translate-kinds.r;
  asked = wulfrenda-translate-reads.Asked;
  learnt = wulfrenda-translate-reads.Learnt;
}

abbrev pub wulfrenda_translate_bytes : Function
wulfrenda_translate_bytes = record {
  lifetimes = 10;
  parameters = wulfrenda-translate-bytes-kinds.ps;
  result = wulfrenda-translate-bytes-kinds.r;
  asked = wulfrenda-translate-bytes-reads.Asked;
  learnt = wulfrenda-translate-bytes-reads.Learnt;
}

abbrev pub wulfrenda_run : Function
wulfrenda_run = record { lifetimes = 4; parameters = wulfrenda-run-kinds.ps; result = wulfrenda-run-kinds.r; asked = wulfrenda-run-reads.Asked; learnt = wulfrenda-run-reads.Learnt }

-- ---- what a call of translating shows
-- Parameters stand in the order of the signature: `.0` is the first, `.1 .0` the second, and so on; `.now` is what stands behind a reference.
-- the policy and the tables at entry; document 01's number (0: it succeeded), the counts (nodes, built states, start) and the tables at exit
pub record Translating : Type 0 where
  pub policy : Policy
  pub entry : Tables
  pub number : ℕ
  pub counts : List ℕ
  pub exit : Tables

-- seven slices that stand one after the other
abbrev pub Slice : Type 0
Slice = MutBor (List ℕ)

abbrev pub seven : {Rest : Type 0} → Slice × (Slice × (Slice × (Slice × (Slice × (Slice × (Slice × Rest)))))) → Tables
seven a = tables a.0.now a.1.0.now a.1.1.0.now a.1.1.1.0.now a.1.1.1.1.0.now a.1.1.1.1.1.0.now a.1.1.1.1.1.1.0.now

abbrev pub translate_shows : Places translate → Translating
translate_shows x = record {
  policy = x.given.0.now;
  entry = seven x.given.1;
  number = translate_number_of x.answer;
  counts = counts_of x.answer;
  exit = seven x.left.1;
}

abbrev pub wulfrenda_translate_shows : Places wulfrenda_translate → Translating
wulfrenda_translate_shows x = record {
  policy = policy_of x.given.0.now;
  entry = seven x.given.1;
  number = x.answer;
  counts = x.left.1.1.1.1.1.1.1.1.0.now;
  exit = seven x.left.1;
}

abbrev pub wulfrenda_translate_bytes_shows : Places wulfrenda_translate_bytes → Translating
wulfrenda_translate_bytes_shows x = record {
  policy = policy_read (bytes_reading_of x.given.0.now);
  entry = seven x.given.1;
  number = x.answer;
  counts = x.left.1.1.1.1.1.1.1.1.0.now;
  exit = seven x.left.1;
}

-- ---- what a call of running shows
-- the number of letters, the row tables, the run's state and the letter; document 01's number (0: the letter was read), and the state and the priority given back
pub record Running : Type 0 where
  pub letters : ℕ
  pub targets : List ℕ
  pub priorities : List ℕ
  pub state : ℕ
  pub letter : ℕ
  pub number : ℕ
  pub next : ℕ
  pub priority : ℕ

abbrev pub read_shows : Places read → Running
read_shows x =
    let a = x.given in
    record {
      letters = a.1.1.0;
      targets = a.1.1.1.0.now;
      priorities = a.1.1.1.1.0.now;
      state = a.0.state;
      letter = a.1.0;
      number = run_number_of x.answer;
      next = (run_after a.0 x.answer).state;
      priority = priority_of x.answer;
    }

abbrev pub wulfrenda_run_shows : Places wulfrenda_run → Running
wulfrenda_run_shows x =
    let a = x.given in
    record {
      letters = a.0;
      targets = a.1.0.now;
      priorities = a.1.1.0.now;
      state = a.1.1.1.0.now;
      letter = a.1.1.1.1.0;
      number = x.answer;
      next = x.left.1.1.1.0.now;
      priority = x.left.1.1.1.1.1.0.now;
    }

-- ---- what the contracts say
-- the seven tables at exit are the defined ones
abbrev pub TablesHold : Translating → Type 0
TablesHold t =
    let e = t.exit in
    Hold (tables_after t.policy t.entry) e.masks e.parents e.node_priorities e.sources e.leaves e.targets e.priorities

abbrev pub translate_says : Places translate → List (Type 0)
translate_says x = let t = translate_shows x in Translates t.policy t.entry x.answer t.exit ∷ []

abbrev pub wulfrenda_translate_says : Places wulfrenda_translate → List (Type 0)
wulfrenda_translate_says x =
    let t = wulfrenda_translate_shows x in
    let q = translation_of t.policy t.entry in
    (t.number ≡ translate_number_of q) ∷ (t.counts ≡ counts_of q) ∷ TablesHold t ∷ []

abbrev pub wulfrenda_translate_bytes_says : Places wulfrenda_translate_bytes → List (Type 0)
wulfrenda_translate_bytes_says x =
    let t = wulfrenda_translate_bytes_shows x in
    let read = bytes_reading_of x.given.0.now in
    let q = translation_of t.policy t.entry in
    (t.number ≡ first_of (read_number_of read) (translate_number_of q)) ∷ (t.counts ≡ counts_of q) ∷ TablesHold t ∷ (x.left.1.1.1.1.1.1.1.1.1.0.now ≡ offset_after (read_number_of read) (translate_number_of q) (offset_of read)) ∷ []

abbrev pub read_says : Places read → List (Type 0)
read_says x = let c = read_shows x in ReadsLetter c.letters c.targets c.priorities (record { state = c.state }) c.letter x.answer ∷ []

abbrev pub wulfrenda_run_says : Places wulfrenda_run → List (Type 0)
wulfrenda_run_says x =
    let c = wulfrenda_run_shows x in
    let q = reading_of c.letters c.targets c.priorities (record { state = c.state }) c.letter in
    (c.number ≡ run_number_of q) ∷ (c.next ≡ (run_after (record { state = c.state }) q).state) ∷ (c.priority ≡ priority_of q) ∷ []

-- that they say this, and no less and no more
pub record Contracts : Type 1 where
  pub translate-says : Contract translate translate_says
  pub read-says : Contract read read_says
  pub wulfrenda-translate-says : Contract wulfrenda_translate wulfrenda_translate_says
  pub wulfrenda-translate-bytes-says : Contract wulfrenda_translate_bytes wulfrenda_translate_bytes_says
  pub wulfrenda-run-says : Contract wulfrenda_run wulfrenda_run_says
