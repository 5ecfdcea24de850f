-- What reading a token promises, of whatever place the reader of documents is at.
use Rattle.std.specs.Prelude.{ℕ, ◌-◌, ◌≤◌, ◌<◌, ◌≡◌, Bool, true, false, ◌&&◌, List, [], eqb, ltb, length, get_or, take, drop, Result, IfOk}
use Rattle.hanoi.specs.Words.{Word}
use Rattle.hanoi.specs.Texts.{white, digit, spelling, open_ended}
use Rattle.hanoi.specs.Offers.{Numbers, no_number, below, exactly, new_name, between, in_name, dead, word_on, step_byte}
use Rattle.hanoi.specs.Reader.{At, offer, only, offers}
use Rattle.hanoi.specs.Prefixes.{prefix_of}
use Rattle.hanoi_tokens.specs.declared.Stop.{Stop}
use Rattle.hanoi_tokens.specs.declared.Begun.{Begun}
use Rattle.hanoi_tokens.specs.declared.Wanted.{Wanted}
use Rattle.hanoi_tokens.specs.declared.Wanted.TheVariants.{Below, Positive, Exactly}
use Rattle.hanoi_tokens.specs.declared.Number.{Number}
use Rattle.hanoi_tokens.specs.declared.Name.{Name}
use Rattle.hanoi_tokens.specs.Moves.{Moves, ReadsTo, Reads, Unfinished}

-- ---- numbers
-- a number of this kind may begin with n
abbrev pub takes_by : Wanted → ℕ → Bool
takes_by (Below k) n = ltb n k
takes_by Positive n = ltb 0 n && ltb n 2147483648
takes_by (Exactly k) n = ltb n 2147483648 && prefix_of n k

-- and end with it
abbrev pub ends_by : Wanted → ℕ → Bool
ends_by (Below k) n = true
ends_by Positive n = true
ends_by (Exactly k) n = eqb n k

-- what the reader of documents offers then; `to` says what follows a number
unfoldable pub numbers_for : Wanted → (ℕ → At) → Numbers At
numbers_for (Below k) to = below false k to
numbers_for Positive to = below true 2147483648 to
numbers_for (Exactly k) to = exactly k (to k)

-- the numbers that are asked for are below 2^31
abbrev pub Within : Wanted → Type 0
Within (Below k) = k ≤ 2147483648
Within Positive = Unit {0}
Within (Exactly k) = k < 2147483648

module _ (text : List ℕ) where
  -- ---- white space
  pub record Skips (m n : ℕ) : Type 0 where
    pub later : m ≤ n
    pub within : n ≤ length text
    pub moves : (bar : Bool) (s : At) → Moves text m (between bar s) n (between (bar && eqb m n) s)
    pub other : n < length text → white (get_or text n 0) ≡ false

  -- the first byte of the next token, behind a token that bars bytes of names or not
  pub record Begins (m : ℕ) (bar : Bool) (r : Result Begun Stop) : Type 0 where
    pub later : IfOk r (λ b. m ≤ b.at)
    pub reads : (s : At) → Unfinished s → ReadsTo text m (between bar s) r (λ b. b.at) (λ b. between false s)
    pub there : IfOk r (λ b. b.at < length text)
    pub byte_is : IfOk r (λ b. b.byte ≡ get_or text b.at 0)
    pub other : IfOk r (λ b. white b.byte ≡ false)

  -- ---- words
  -- the bytes of a word that are still to come
  abbrev pub Spells : ℕ → List ℕ → Result ℕ Stop → Type 0
  Spells m rest r = (x : Word) (a : At) → Reads text m (word_on x rest a) r (between (open_ended x) a)

  -- the only word that may come
  abbrev pub ReadsWord : ℕ → Bool → List ℕ → Result ℕ Stop → Type 0
  ReadsWord m bar bytes r = (s a : At) (x : Word) → bytes ≡ spelling x → offers s ≡ only x a → Unfinished s → Reads text m (between bar s) r (between (open_ended x) a)

  -- ---- numbers
  -- from its first byte on
  pub record ReadsDigits (m : ℕ) (w : Wanted) (r : Result Number Stop) : Type 0 where
    pub later : IfOk r (λ n. m < n.at)
    pub within : IfOk r (λ n. n.at ≤ length text)
    pub reads : (s : At) (to : ℕ → At) → (offers s).numbers ≡ numbers_for w to → (digit (get_or text m 0) ≡ false → step_byte offers (between false s) (get_or text m 0) ≡ dead)
        → ReadsTo text m (between false s) r (λ n. n.at) (λ n. between false (to n.value))
    pub taken : IfOk r (λ n. takes_by w n.value ≡ true)

  pub record ReadsNumber (m : ℕ) (w : Wanted) (r : Result Number Stop) : Type 0 where
    pub within : IfOk r (λ n. n.at ≤ length text)
    pub reads : (s : At) (to : ℕ → At) → offers s ≡ offer [] (numbers_for w to) Rattle.hanoi.specs.Offers.no_name → Unfinished s → ReadsTo text m (between false s) r (λ n. n.at) (λ n. between false (to n.value))
    pub taken : IfOk r (λ n. takes_by w n.value ≡ true)

  -- ---- names
  -- the bytes from a on and before e
  abbrev pub part : ℕ → ℕ → List ℕ
  part a e = take (e - a) (drop a text)

  -- up to the closing quote
  pub record ReadsName (m : ℕ) (r : Result Name Stop) : Type 0 where
    pub reads : (s : At) (ns : List (List ℕ)) (to : List ℕ → At) → offers s ≡ offer [] no_number (new_name ns to) → Unfinished s
        → ReadsTo text m (between false s) r (λ x. x.end) (λ x. in_name s (part x.at x.end) false)
    pub ordered : IfOk r (λ x. x.at ≤ x.end)
    pub there : IfOk r (λ x. x.end < length text)
    pub quote_is : IfOk r (λ x. get_or text x.end 0 ≡ 34)
