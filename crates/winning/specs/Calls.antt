-- The calls that solve. As of the calls of demand 3 (correctness/specs/Calls.antt), nothing is known of one but what the contract in the source promises.
use Rattle.std.specs.Prelude.{ℕ, ◌≡◌, List, [], ◌∷◌}
use Rattle.reading.specs.Reading.{reading_of as bytes_reading_of, offset_of, policy_read, number_of as read_number_of}
use Rattle.builder.specs.Tables.{Hold, counts_of, number_of as translate_number_of}
use Rattle.records.specs.Records.{policy_of}
use Rattle.answers.specs.Answers.{first_of, offset_after}
use Rattle.correctness.specs.Calls.{Function, Places, Contract, Translating, Slice, seven}
use Rattle.solving.specs.Solving.{solving_of, seven_after, winners_after, LettersAfter, Solves}
use Rattle.solving.proofs.solve.Kinds as solve-kinds
use Rattle.solving.proofs.solve.Reads as solve-reads
use Rattle.wulfrenda.proofs.wulfrenda_solve.Kinds as wulfrenda-solve-kinds
use Rattle.wulfrenda.proofs.wulfrenda_solve.Reads as wulfrenda-solve-reads
use Rattle.wulfrenda.proofs.wulfrenda_solve_bytes.Kinds as wulfrenda-solve-bytes-kinds
use Rattle.wulfrenda.proofs.wulfrenda_solve_bytes.Reads as wulfrenda-solve-bytes-reads

abbrev pub solve : Function
solve = record { lifetimes = 11; parameters = solve-kinds.ps; result = solve-kinds.r; asked = solve-reads.Asked; learnt = solve-reads.Learnt }

abbrev pub wulfrenda_solve : Function
wulfrenda_solve = record {
  lifetimes = 12;
  parameters = wulfrenda-solve-kinds.ps;
  result = wulfrenda-solve-kinds.r;
  asked = wulfrenda-solve-reads.Asked;
  learnt = wulfrenda-solve-reads.Learnt;
}

abbrev pub wulfrenda_solve_bytes : Function
wulfrenda_solve_bytes = record {
  lifetimes = 13;
  parameters = wulfrenda-solve-bytes-kinds.ps;
  result = wulfrenda-solve-bytes-kinds.r;
  asked = wulfrenda-solve-bytes-reads.Asked;
  learnt = wulfrenda-solve-bytes-reads.Learnt;
}

-- ---- what a call of solving shows
-- the translation that it also is, the owners, and the tables of winners and of letters at entry and at exit
pub record Solving : Type 0 where
  pub translating : Translating
  pub owners : List ℕ
  pub winners_entry : List ℕ
  pub letters_entry : List ℕ
  pub winners : List ℕ
  pub letters : List ℕ

-- the two slices past seven
abbrev pub eighth : {Rest : Type 0} → Slice × (Slice × (Slice × (Slice × (Slice × (Slice × (Slice × (Slice × Rest))))))) → List ℕ
eighth a = a.1.1.1.1.1.1.1.0.now

abbrev pub ninth : {Rest : Type 0} → Slice × (Slice × (Slice × (Slice × (Slice × (Slice × (Slice × (Slice × (Slice × Rest)))))))) → List ℕ
ninth a = a.1.1.1.1.1.1.1.1.0.now

abbrev pub solve_shows : Places solve → Solving
solve_shows x = record {
  translating = record {
    policy = x.given.0.now;
    entry = seven x.given.1.1;
    number = translate_number_of x.answer;
    counts = counts_of x.answer;
    exit = seven x.left.1.1;
  };
  owners = x.given.1.0.now;
  winners_entry = eighth x.given.1.1;
  letters_entry = ninth x.given.1.1;
  winners = eighth x.left.1.1;
  letters = ninth x.left.1.1;
}

abbrev pub wulfrenda_solve_shows : Places wulfrenda_solve → Solving
wulfrenda_solve_shows x = record {
  translating = record {
    policy = policy_of x.given.0.now;
    entry = seven x.given.1.1;
    number = x.answer;
    counts = x.left.1.1.1.1.1.1.1.1.1.1.1.0.now;
    exit = seven x.left.1.1;
  };
  owners = x.given.1.0.now;
  winners_entry = eighth x.given.1.1;
  letters_entry = ninth x.given.1.1;
  winners = eighth x.left.1.1;
  letters = ninth x.left.1.1;
}

abbrev pub wulfrenda_solve_bytes_shows : Places wulfrenda_solve_bytes → Solving
wulfrenda_solve_bytes_shows x = record {
  translating = record {
    policy = policy_read (bytes_reading_of x.given.0.now);
    entry = seven x.given.1.1;
    number = x.answer;
    counts = x.left.1.1.1.1.1.1.1.1.1.1.1.0.now;
    exit = seven x.left.1.1;
  };
  owners = x.given.1.0.now;
  winners_entry = eighth x.given.1.1;
  letters_entry = ninth x.given.1.1;
  winners = eighth x.left.1.1;
  letters = ninth x.left.1.1;
}

-- ---- what the contracts say
-- the nine tables at exit are the defined ones; of the letters what is promised of them
abbrev pub TablesHold : Solving → Type 0
TablesHold s =
    let t = s.translating in
    let e = t.exit in
    Hold (seven_after t.policy s.owners t.entry s.winners_entry s.letters_entry) e.masks e.parents e.node_priorities e.sources e.leaves e.targets e.priorities

abbrev pub WinnersHold : Solving → Type 0
WinnersHold s = let t = s.translating in s.winners ≡ winners_after t.policy s.owners t.entry s.winners_entry s.letters_entry

abbrev pub LettersHold : Solving → Type 0
LettersHold s = let t = s.translating in LettersAfter t.policy s.owners t.entry s.winners_entry s.letters_entry s.letters

abbrev pub solve_says : Places solve → List (Type 0)
solve_says x =
    let s = solve_shows x in
    let t = s.translating in
    Solves t.policy s.owners t.entry s.winners_entry s.letters_entry x.answer t.exit s.winners s.letters ∷ []

abbrev pub wulfrenda_solve_says : Places wulfrenda_solve → List (Type 0)
wulfrenda_solve_says x =
    let s = wulfrenda_solve_shows x in
    let t = s.translating in
    let q = solving_of t.policy s.owners t.entry s.winners_entry s.letters_entry in
    (t.number ≡ translate_number_of q) ∷ (t.counts ≡ counts_of q) ∷ TablesHold s ∷ WinnersHold s ∷ LettersHold s ∷ []

abbrev pub wulfrenda_solve_bytes_says : Places wulfrenda_solve_bytes → List (Type 0)
wulfrenda_solve_bytes_says x =
    let s = wulfrenda_solve_bytes_shows x in
    let t = s.translating in
    let read = bytes_reading_of x.given.0.now in
    let q = solving_of t.policy s.owners t.entry s.winners_entry s.letters_entry in
    (t.number ≡ first_of (read_number_of read) (translate_number_of q)) ∷ (t.counts ≡ counts_of q) ∷ TablesHold s ∷ WinnersHold s ∷ LettersHold s
    ∷ (x.left.1.1.1.1.1.1.1.1.1.1.1.1.0.now ≡ offset_after (read_number_of read) (translate_number_of q) (offset_of read)) ∷ []

-- that they say this, and no less and no more
pub record Contracts : Type 1 where
  pub solve-says : Contract solve solve_says
  pub wulfrenda-solve-says : Contract wulfrenda_solve wulfrenda_solve_says
  pub wulfrenda-solve-bytes-says : Contract wulfrenda_solve_bytes wulfrenda_solve_bytes_says
