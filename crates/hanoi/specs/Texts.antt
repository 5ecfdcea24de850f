-- Tokens of the Hanoi Omega-Automata format, version 1, as far as the subset has them (document 02, S-4), and texts: tokens with white space between them.
use Rattle.std.specs.Prelude.{ℕ, zero, suc, ◌+◌, ◌/◌, ◌%◌, Bool, true, false, not, ◌&&◌, ◌||◌, cond, List, [], ◌∷◌, ◌++◌, eqb, ltb, leb}
use Prim.Native.Char.{code}
use Prim.Native.String.{String}
use Prim.Native.String as string
use Rattle.lists.specs.Lists.{all, first_or}
use Rattle.hanoi.specs.Words.{Word}
use Rattle.hanoi.specs.Words as w

-- the bytes of a text of ASCII characters
abbrev pub ascii : String → List ℕ
ascii string.[] = []
ascii (string.◌∷◌ c s) = code c ∷ ascii s

-- ---- bytes
-- space, tab, line feed, carriage return
unfoldable pub white : ℕ → Bool
white b = eqb b 32 || eqb b 9 || eqb b 10 || eqb b 13

abbrev pub digit : ℕ → Bool
digit b = leb 48 b && leb b 57

-- a byte that goes on a name of the format: a letter, a digit, `_` or `-`
unfoldable pub goes_on : ℕ → Bool
goes_on b = (leb 97 b && leb b 122) || (leb 65 b && leb b 90) || digit b || eqb b 95 || eqb b 45

-- ---- tokens
abbrev pub spelling : Word → List ℕ
spelling w.Hoa = ascii "HOA:"
spelling w.V1 = ascii "v1"
spelling w.States = ascii "States:"
spelling w.Start = ascii "Start:"
spelling w.Ap = ascii "AP:"
spelling w.Acceptance = ascii "Acceptance:"
spelling w.Yes = ascii "t"
spelling w.No = ascii "f"
spelling w.Inf = ascii "Inf"
spelling w.Fin = ascii "Fin"
spelling w.Opens = ascii "("
spelling w.Closes = ascii ")"
spelling w.And = ascii "&"
spelling w.Or = ascii "|"
spelling w.Body = ascii "--BODY--"
spelling w.State = ascii "State:"
spelling w.Left = ascii "{"
spelling w.Right = ascii "}"
spelling w.End = ascii "--END--"

-- a word that a letter, a digit, `_` or `-` would go on with (Inf and Fin too, but only a parenthesis follows them)
abbrev pub open_ended : Word → Bool
open_ended w.Hoa = false
open_ended w.V1 = true
open_ended w.States = false
open_ended w.Start = false
open_ended w.Ap = false
open_ended w.Acceptance = false
open_ended w.Yes = true
open_ended w.No = true
open_ended w.Inf = true
open_ended w.Fin = true
open_ended w.Opens = false
open_ended w.Closes = false
open_ended w.And = false
open_ended w.Or = false
open_ended w.Body = false
open_ended w.State = false
open_ended w.Left = false
open_ended w.Right = false
open_ended w.End = false

-- a word; a number; a name between double quotes
pub data Token : Type 0 where
  word : Word → Token
  number : ℕ → Token
  quoted : List ℕ → Token

-- the decimal digits of a number below 10^10, without leading zeros
unfoldable pub decimal_in : ℕ → ℕ → List ℕ
decimal_in zero n = []
decimal_in (suc k) n = let r = decimal_in k (n / 10) in cond (ltb n 10) ((48 + n) ∷ []) (r ++ ((48 + n % 10) ∷ []))

unfoldable pub decimal : ℕ → List ℕ
decimal n = decimal_in 10 n

abbrev pub bytes_of : Token → List ℕ
bytes_of (word w) = spelling w
bytes_of (number n) = decimal n
bytes_of (quoted s) = 34 ∷ (s ++ (34 ∷ []))

-- what may stand between the quotes, behind a backslash or not: any byte but `"`, and behind a backslash any byte but a line feed
unfoldable pub quotable_in : Bool → List ℕ → Bool
quotable_in back [] = not back
quotable_in true (b ∷ s) = ltb b 256 && not (eqb b 10) && quotable_in false s
quotable_in false (b ∷ s) = ltb b 256 && not (eqb b 34) && quotable_in (eqb b 92) s

unfoldable pub quotable : List ℕ → Bool
quotable s = quotable_in false s

-- ---- texts
-- a byte that would be read as part of the token before it, if it touched it
abbrev pub sticks : Token → ℕ → Bool
sticks (word w) b = open_ended w && goes_on b
sticks (number n) b = digit b
sticks (quoted s) b = false

-- a token with the white space before it
pub record Spaced : Type 0 where
  pub gap : List ℕ
  pub token : Token

abbrev pub is_empty : List ℕ → Bool
is_empty [] = true
is_empty (x ∷ xs) = false

-- gaps are white, and there is one before a token whose first byte sticks to the token before
unfoldable pub apart : (ℕ → Bool) → List Spaced → Bool
apart stick [] = true
apart stick (s ∷ ss) = all white s.gap && not (is_empty s.gap && stick (first_or 0 (bytes_of s.token))) && apart (sticks s.token) ss

abbrev pub none : ℕ → Bool
none b = false

-- the bytes of the text
unfoldable pub written : List Spaced → List ℕ
written [] = []
written (s ∷ ss) = s.gap ++ (bytes_of s.token ++ written ss)
