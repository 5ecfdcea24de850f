-- How far a text is read. The reader of documents (hanoi) stands at p before byte m of the text: what becomes of the rest says what the answer is, and two such places are as one if the rest
-- comes to the same from both.
use Rattle.std.specs.Prelude.{ℕ, ◌+◌, ◌≤◌, ◌≡◌, List, length, drop, Result, Ok, Err}
use Rattle.hanoi.specs.Answers.{Answer}
use Rattle.hanoi.specs.Offers.{Spot, run}
use Rattle.hanoi.specs.Reader.{At, offers, alive_for}
use Rattle.hanoi.specs.Reading.{answer_in, answer_at}
use Rattle.hanoi_tokens.specs.declared.Stop.{Stop}

module _ (text : List ℕ) where
  -- from p before byte m the reader comes to q before byte n, or might as well
  pub record Moves (m : ℕ) (p : Spot At) (n : ℕ) (q : Spot At) : Type 0 where
    pub later : m ≤ n
    pub within : n ≤ length text
    pub runs : run offers p (drop m text) ≡ run offers q (drop n text)
    pub alive : m + alive_for (drop m text) p ≡ n + alive_for (drop n text) q

  -- from p before byte m the text is no text of the subset, and n is the length of the longest beginning that some text of the subset shares
  pub record Stops (m : ℕ) (p : Spot At) (n : ℕ) : Type 0 where
    pub unanswered : (x : Answer) → answer_at x (run offers p (drop m text)) ≡ x
    pub alive : m + alive_for (drop m text) p ≡ n

  -- what is read ends at a place that `at` says, and `to` says where the reader comes there; or the text stops being one of the subset
  abbrev pub ReadsTo : {A : Type 0} → ℕ → Spot At → Result A Stop → (A → ℕ) → (A → Spot At) → Type 0
  ReadsTo m p (Ok x) at to = Moves m p (at x) (to x)
  ReadsTo m p (Err e) at to = Stops m p e.at

  -- the same of a place alone
  abbrev pub Reads : ℕ → Spot At → Result ℕ Stop → Spot At → Type 0
  Reads m p r q = ReadsTo m p r (λ n. n) (λ n. q)

-- where no text of the subset ends
abbrev pub Unfinished : At → Type 0
Unfinished s = (x : Answer) → answer_in x s ≡ x
