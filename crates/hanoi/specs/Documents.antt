-- The subset of the format (document 02, S-4): what a document says, the tokens that it is written with, and the texts that say it.
use Rattle.std.specs.Prelude.{ℕ, suc, ◌+◌, ◌≤◌, ◌<◌, ◌^◌, ◌≡◌, Bool, true, false, not, ◌&&◌, List, [], ◌∷◌, ◌++◌, map, eqb, ltb, leb, length, take}
use Rattle.lists.specs.Lists.{all, any, flat}
use Rattle.hanoi.specs.Texts.{Token, word, number, quoted, quotable, white, Spaced, apart, none, written}
use Rattle.hanoi.specs.Words as w

-- an acceptance formula as it is written; `group` is a pair of parentheses
pub data Formula : Type 0 where
  truth : Bool → Formula
  inf : ℕ → Formula
  fin : ℕ → Formula
  group : Formula → Formula
  both : Formula → Formula → Formula
  either : Formula → Formula → Formula

-- an edge: its target, and the marks in its braces, if it has braces
pub data Edge : Type 0 where
  plain : ℕ → Edge
  marked : ℕ → List ℕ → Edge

-- the edges of each state, for each valuation of the names in the format's order
pub record Document : Type 0 where
  pub states : ℕ
  pub start : ℕ
  pub names : List (List ℕ)
  pub sets : ℕ
  pub formula : Formula
  pub rows : List (List Edge)

-- ---- the tokens
abbrev pub formula_tokens : Formula → List Token
formula_tokens (truth true) = word w.Yes ∷ []
formula_tokens (truth false) = word w.No ∷ []
formula_tokens (inf m) = word w.Inf ∷ word w.Opens ∷ number m ∷ word w.Closes ∷ []
formula_tokens (fin m) = word w.Fin ∷ word w.Opens ∷ number m ∷ word w.Closes ∷ []
formula_tokens (group f) = word w.Opens ∷ (formula_tokens f ++ (word w.Closes ∷ []))
formula_tokens (both f g) = formula_tokens f ++ (word w.And ∷ formula_tokens g)
formula_tokens (either f g) = formula_tokens f ++ (word w.Or ∷ formula_tokens g)

abbrev pub edge_tokens : Edge → List Token
edge_tokens (plain t) = number t ∷ []
edge_tokens (marked t ms) = number t ∷ word w.Left ∷ (map number ms ++ (word w.Right ∷ []))

-- the states from number i on
abbrev pub row_tokens : ℕ → List (List Edge) → List Token
row_tokens i [] = []
row_tokens i (r ∷ rs) = word w.State ∷ number i ∷ (flat (map edge_tokens r) ++ row_tokens (suc i) rs)

unfoldable pub tokens_of : Document → List Token
tokens_of d =
    word w.Hoa ∷ word w.V1 ∷ word w.States ∷ number d.states ∷ word w.Start ∷ number d.start ∷ word w.Ap ∷ number (length d.names) ∷
    (map quoted d.names ++ (word w.Acceptance ∷ number d.sets ∷ (formula_tokens d.formula ++ (word w.Body ∷ (row_tokens 0 d.rows ++ (word w.End ∷ []))))))

-- ---- what the subset asks
-- & binds closer than |: a disjunction inside a conjunction stands in parentheses; of several & or | in a row the first ones are taken together
abbrev pub is_either : Formula → Bool
is_either (truth b) = false
is_either (inf m) = false
is_either (fin m) = false
is_either (group f) = false
is_either (both f g) = false
is_either (either f g) = true

abbrev pub is_both : Formula → Bool
is_both (truth b) = false
is_both (inf m) = false
is_both (fin m) = false
is_both (group f) = false
is_both (both f g) = true
is_both (either f g) = false

-- marks below the number of sets
unfoldable pub formed : ℕ → Formula → Bool
formed sets (truth b) = true
formed sets (inf m) = ltb m sets
formed sets (fin m) = ltb m sets
formed sets (group f) = formed sets f
formed sets (both f g) = not (is_either f) && not (is_either g) && not (is_both g) && formed sets f && formed sets g
formed sets (either f g) = not (is_either g) && formed sets f && formed sets g

abbrev pub target_of : Edge → ℕ
target_of (plain t) = t
target_of (marked t ms) = t

abbrev pub marks_of : Edge → List ℕ
marks_of (plain t) = []
marks_of (marked t ms) = ms

abbrev pub same_bytes : List ℕ → List ℕ → Bool
same_bytes [] [] = true
same_bytes [] (y ∷ ys) = false
same_bytes (x ∷ xs) [] = false
same_bytes (x ∷ xs) (y ∷ ys) = eqb x y && same_bytes xs ys

-- each is none of those before it
unfoldable pub different : List (List ℕ) → List (List ℕ) → Bool
different before [] = true
different before (s ∷ ss) = not (any (same_bytes s) before) && different (before ++ (s ∷ [])) ss

unfoldable pub letters : Document → ℕ
letters d = 2 ^ length d.names

unfoldable pub lawful_edge : ℕ → ℕ → Edge → Bool
lawful_edge states sets e = ltb (target_of e) states && all (λ m. ltb m sets) (marks_of e)

unfoldable pub lawful_row : ℕ → ℕ → ℕ → List Edge → Bool
lawful_row states sets count r = eqb (length r) count && all (lawful_edge states sets) r

unfoldable pub lawful : Document → Bool
lawful d =
    ltb d.states 2147483648 && ltb d.start d.states && leb (length d.names) 3 && all quotable d.names && different [] d.names && leb d.sets 32
    && formed d.sets d.formula && eqb (length d.rows) d.states && all (lawful_row d.states d.sets (letters d)) d.rows

-- ---- the subset
-- a text says a document: its tokens, with white space where two would merge, and only white space after the last
pub record Says (text : List ℕ) (d : Document) : Type 0 where
  pub lawful_is : lawful d ≡ true
  pub spaced : List Spaced
  pub tokens_are : map (λ (s : Spaced). s.token) spaced ≡ tokens_of d
  pub gaps_are : apart none spaced ≡ true
  pub last : List ℕ
  pub last_white : all white last ≡ true
  pub text_is : text ≡ written spaced ++ last

-- some text of the subset begins so
pub record Begins (start : List ℕ) : Type 0 where
  pub rest : List ℕ
  pub document : Document
  pub says : Says (start ++ rest) document

-- n is the length of the longest beginning that some text of the subset shares
pub record Longest (text : List ℕ) (n : ℕ) : Type 0 where
  pub within : n ≤ length text
  pub shared : Begins (take n text)
  pub most : (m : ℕ) → n < m → m ≤ length text → Begins (take m text) → ⊥
