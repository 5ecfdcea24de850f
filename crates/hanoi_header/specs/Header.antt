-- What reading the header of a text promises.
use Rattle.std.specs.Prelude.{ℕ, ◌≤◌, ◌<◌, ◌≡◌, Bool, true, false, List, [], length, Result, IfOk, IfErr}
use Rattle.hanoi.specs.Words.{Word}
use Rattle.hanoi.specs.Texts.{spelling, open_ended}
use Rattle.hanoi.specs.Offers.{no_name, between}
use Rattle.hanoi.specs.Reader.{At, states_word, naming, operand, fresh, offer, only, offers, first}
use Rattle.hanoi_tokens.specs.declared.Stop.{Stop}
use Rattle.hanoi_tokens.specs.declared.Wanted.{Wanted}
use Rattle.hanoi_tokens.specs.declared.Number.{Number}
use Rattle.hanoi_tokens.specs.Moves.{Moves, Stops, ReadsTo, Reads, Unfinished}
use Rattle.hanoi_tokens.specs.Tokens.{takes_by, numbers_for}
use Rattle.hanoi_header.specs.declared.Counts.{Counts}
use Rattle.hanoi_header.specs.declared.Header.{Header}

-- the reader of documents is somewhere where this word alone may come
pub record Offered (bytes : List ℕ) : Type 0 where
  pub before : At
  pub after : At
  pub word : Word
  pub bytes_are : bytes ≡ spelling word
  pub alone : offers before ≡ only word after
  pub unfinished : Unfinished before

module _ (text : List ℕ) where
  -- a word, and the number behind it
  pub record ReadsField (m : ℕ) (bar : Bool) (bytes : List ℕ) (w : Wanted) (r : Result Number Stop) : Type 0 where
    pub reads : (s a : At) (x : Word) (to : ℕ → At) → bytes ≡ spelling x → open_ended x ≡ false → offers s ≡ only x a → Unfinished s → offers a ≡ offer [] (numbers_for w to) no_name → Unfinished a
        → ReadsTo text m (between bar s) r (λ n. n.at) (λ n. between false (to n.value))
    pub taken : IfOk r (λ n. takes_by w n.value ≡ true)

  -- HOA: v1
  abbrev pub ReadsVersion : Result ℕ Stop → Type 0
  ReadsVersion r = Reads text 0 first r (between true states_word)

  -- up to the number of names
  pub record ReadsCounts (r : Result Counts Stop) : Type 0 where
    pub reads : ReadsTo text 0 first r (λ c. c.at) (λ c. between false (naming c.states c.start c.names []))
    pub states_few : IfOk r (λ c. (0 < c.states) × (c.states < 2147483648))
    pub start_is : IfOk r (λ c. c.start < c.states)
    pub names_few : IfOk r (λ c. c.names ≤ 3)

  pub record ReadsHeader (r : Result Header Stop) : Type 0 where
    -- some names were read, as many as it says, and the reader of documents stands before the formula
    pub moves : IfOk r (λ h.
        (names : List (List ℕ)) × (length names ≡ h.names) × Moves text 0 first h.at (between false (operand (record { states = h.states; start = h.start; names = names; sets = h.sets }) [] fresh)))
    pub stops : IfErr r (λ e. Stops text 0 first e.at)
    pub states_few : IfOk r (λ h. (0 < h.states) × (h.states < 2147483648))
    pub start_is : IfOk r (λ h. h.start < h.states)
    pub names_few : IfOk r (λ h. h.names ≤ 3)
    pub sets_few : IfOk r (λ h. h.sets ≤ 32)
