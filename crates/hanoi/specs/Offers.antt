-- Reading by bytes what is offered by tokens. At each state of a reader some words may come, a number of some kind, or a name; each says which state is next.
-- What a state offers is all that is known of it here.
use Rattle.std.specs.Prelude.{ℕ, ◌+◌, ◌-◌, ◌*◌, ◌≡◌, Bool, true, false, not, ◌&&◌, ◌||◌, cond, eqb, ltb}
use mathlib.Core.List.{List, [], ◌∷◌, ◌++◌, Memᴰ}
use Rattle.lists.specs.Lists.{any, first_or}
use Rattle.hanoi.specs.Texts.{white, digit, goes_on, spelling, open_ended, Token, word, number, quoted, decimal, quotable}
use Rattle.hanoi.specs.Words.{Word}
use Rattle.hanoi.specs.Documents.{same_bytes}

pub record Choice (A : Type 0) : Type 0 where
  pub word : Word
  pub next : A

-- a number below a bound, which is not 0 if the flag says so; or one number
pub data Numbers (A : Type 0) : Type 0 where
  no_number : Numbers A
  below : Bool → ℕ → (ℕ → A) → Numbers A
  exactly : ℕ → A → Numbers A

-- a name that is none of some
pub data Names (A : Type 0) : Type 0 where
  no_name : Names A
  new_name : List (List ℕ) → (List ℕ → A) → Names A

pub record Offer (A : Type 0) : Type 0 where
  pub choices : List (Choice A)
  pub numbers : Numbers A
  pub names : Names A

-- one list begins the other
abbrev pub starts_with : List ℕ → List ℕ → Bool
starts_with [] ys = true
starts_with (x ∷ xs) [] = false
starts_with (x ∷ xs) (y ∷ ys) = eqb x y && starts_with xs ys

module _ {A : Type 0} where
  -- a number may begin with n
  unfoldable pub takes : Numbers A → ℕ → Bool
  takes no_number n = false
  takes (below some k f) n = ltb n 2147483648 && ltb n k && (not some || ltb 0 n)
  takes (exactly k a) n = ltb n 2147483648 && ltb k 2147483648 && starts_with (decimal n) (decimal k)

  -- and end with it
  unfoldable pub ends : Numbers A → ℕ → Bool
  ends no_number n = false
  ends (below some k f) n = true
  ends (exactly k a) n = eqb n k

  unfoldable pub takes_name : Names A → Bool
  takes_name no_name = false
  takes_name (new_name ns f) = true

  unfoldable pub is_new : Names A → List ℕ → Bool
  is_new no_name s = false
  is_new (new_name ns f) s = not (any (same_bytes s) ns)

  -- the state behind a token
  unfoldable pub numbered : Numbers A → ℕ → A → A
  numbered no_number n a = a
  numbered (below some k f) n a = f n
  numbered (exactly k b) n a = b

  unfoldable pub named : Names A → List ℕ → A → A
  named no_name s a = a
  named (new_name ns f) s a = f s

-- ---- tokens
module _ {A : Type 0} (offers : A → Offer A) where
  pub data Leads (s : A) : Token → A → Type 0 where
    by_word : (c : Choice A) → Memᴰ c (offers s).choices → Leads s (word c.word) c.next
    by_number : (n : ℕ) → takes (offers s).numbers n ≡ true → ends (offers s).numbers n ≡ true → Leads s (number n) (numbered (offers s).numbers n s)
    by_name : (q : List ℕ) → takes_name (offers s).names ≡ true → quotable q ≡ true → is_new (offers s).names q ≡ true → Leads s (quoted q) (named (offers s).names q s)

  pub data Goes : A → List Token → A → Type 0 where
    stop : {s : A} → Goes s [] s
    go : {s u v : A} {t : Token} {ts : List Token} → Leads s t u → Goes u ts v → Goes s (t ∷ ts) v

-- ---- bytes
-- between tokens, and whether a byte that goes on a name is barred; in a word, of which these bytes are to come; in a number; in a name, behind a backslash or not
pub data Spot (A : Type 0) : Type 0 where
  between : Bool → A → Spot A
  in_word : Word → List ℕ → A → Spot A
  digits : A → ℕ → Spot A
  in_name : A → List ℕ → Bool → Spot A
  dead : Spot A

abbrev pub tail_of : List ℕ → List ℕ
tail_of [] = []
tail_of (x ∷ xs) = xs

module _ {A : Type 0} where
  -- a word of which these bytes are still to come
  unfoldable pub word_on : Word → List ℕ → A → Spot A
  word_on x [] a = between (open_ended x) a
  word_on x (c ∷ r) a = in_word x (c ∷ r) a

  -- the word that begins with this byte
  unfoldable pub begin_word : ℕ → List (Choice A) → Spot A
  begin_word b [] = dead
  begin_word b (c ∷ cs) = let r = begin_word b cs in cond (eqb b (first_or 0 (spelling c.word))) (word_on c.word (tail_of (spelling c.word)) c.next) r

module _ {A : Type 0} (offers : A → Offer A) where
  unfoldable pub begin : A → ℕ → Spot A
  begin s b =
      cond (digit b) (cond (takes (offers s).numbers (b - 48)) (digits s (b - 48)) dead)
      (cond (eqb b 34) (cond (takes_name (offers s).names) (in_name s [] false) dead) (begin_word b (offers s).choices))

  unfoldable pub byte_at : Bool → A → ℕ → Spot A
  byte_at bar s b = cond (white b) (between false s) (cond (bar && goes_on b) dead (begin s b))

  unfoldable pub step_byte : Spot A → ℕ → Spot A
  step_byte (between bar s) b = byte_at bar s b
  step_byte (in_word x [] a) b = dead
  step_byte (in_word x (c ∷ r) a) b = cond (eqb b c) (word_on x r a) dead
  step_byte (digits s n) b =
      cond (digit b) (cond (ltb 0 n && takes (offers s).numbers (n * 10 + (b - 48))) (digits s (n * 10 + (b - 48))) dead)
      (cond (ends (offers s).numbers n) (byte_at false (numbered (offers s).numbers n s) b) dead)
  step_byte (in_name s q true) b = cond (ltb b 256 && not (eqb b 10)) (in_name s (q ++ (b ∷ [])) false) dead
  step_byte (in_name s q false) b =
      cond (eqb b 34) (cond (is_new (offers s).names q) (between false (named (offers s).names q s)) dead)
      (cond (ltb b 256) (in_name s (q ++ (b ∷ [])) (eqb b 92)) dead)
  step_byte dead b = dead

  abbrev pub run : Spot A → List ℕ → Spot A
  run p [] = p
  run p (b ∷ bs) = run (step_byte p b) bs
