-- The calls that read a text (document 02, S-4). As in demand 3, what is known of a call is what the contract in the source promises of it, and nothing else.
use Rattle.std.specs.Prelude.{ℕ, ◌≡◌, cond, List, [], ◌∷◌}
use Rattle.lists.specs.Questions.{ask}
use Rattle.policy.specs.declared.Policy.{Policy}
use Rattle.records.specs.Records.{is_record, policy_of, record_of}
use Rattle.hanoi.specs.Answers.{number_of, shared_of, policy_read, Answers}
use Rattle.hanoi.specs.Reading.{hanoi_of}
use Rattle.hanoi_reader.proofs.read.Kinds as read-text-kinds
use Rattle.hanoi_reader.proofs.read.Reads as read-text-reads
use Rattle.wulfrenda.proofs.wulfrenda_read_hanoi.Kinds as wulfrenda-read-hanoi-kinds
use Rattle.wulfrenda.proofs.wulfrenda_read_hanoi.Reads as wulfrenda-read-hanoi-reads
use Rattle.correctness.specs.Calls.{Function, Places, Contract}

abbrev pub read_text : Function
read_text = record { lifetimes = 1; parameters = read-text-kinds.ps; result = read-text-kinds.r; asked = read-text-reads.Asked; learnt = read-text-reads.Learnt }

abbrev pub wulfrenda_read_hanoi : Function
wulfrenda_read_hanoi = record {
  lifetimes = 3;
  parameters = wulfrenda-read-hanoi-kinds.ps;
  result = wulfrenda-read-hanoi-kinds.r;
  asked = wulfrenda-read-hanoi-reads.Asked;
  learnt = wulfrenda-read-hanoi-reads.Learnt;
}

-- ---- what a call shows: the text, the number (0: it was read), and the policy that is given back, the library's by the record
pub record ReadingText : Type 0 where
  pub text : List ℕ
  pub number : ℕ
  pub policy : Policy

abbrev pub read_text_shows : Places read_text → ReadingText
read_text_shows x = record { text = x.given.0.now; number = number_of x.answer; policy = policy_read x.answer }

abbrev pub wulfrenda_read_hanoi_shows : Places wulfrenda_read_hanoi → ReadingText
wulfrenda_read_hanoi_shows x = record { text = x.given.0.now; number = x.answer; policy = policy_of x.left.1.0.now }

-- ---- what the contracts say
abbrev pub read_text_says : Places read_text → List (Type 0)
read_text_says x = let text = x.given.0.now in (x.answer ≡ hanoi_of text) ∷ Answers text x.answer ∷ []

abbrev pub wulfrenda_read_hanoi_says : Places wulfrenda_read_hanoi → List (Type 0)
wulfrenda_read_hanoi_says x =
    let text = x.given.0.now in
    let place = x.given.1.0.now in
    let a = hanoi_of text in
    (x.answer ≡ ask (is_record place) 7 (number_of a)) ∷ (x.left.1.0.now ≡ cond (is_record place) (record_of (policy_read a)) place) ∷ (x.left.1.1.0.now ≡ cond (is_record place) (shared_of a) 0) ∷ Answers text a ∷ []

-- that they say this, and no less and no more
pub record TextContracts : Type 1 where
  pub read-text-says : Contract read_text read_text_says
  pub wulfrenda-read-hanoi-says : Contract wulfrenda_read_hanoi wulfrenda_read_hanoi_says
