-- The reader of the subset. Its state is the document so far, and says what may come; a text is taken by it exactly if it says a document.
use Rattle.std.specs.Prelude.{ℕ, zero, suc, ◌+◌, ◌^◌, Bool, true, false, cond, List, [], ◌∷◌, ◌++◌, eqb, ltb, length}
use Rattle.hanoi.specs.Words.{Word}
use Rattle.hanoi.specs.Words as w
use Rattle.hanoi.specs.Documents.{Formula, truth, inf, fin, group, both, either, Edge, plain, marked, Document}
use Rattle.hanoi.specs.Offers.{Choice, Numbers, no_number, below, exactly, Names, no_name, new_name, Offer, Spot, between, in_word, digits, in_name, dead, step_byte}

-- ---- the document so far
-- what stands on one level of a formula before the operand that comes next: nothing, `f |`, `f &`, or `f | g &`
pub data Hole : Type 0 where
  fresh : Hole
  or_else : Formula → Hole
  and_also : Formula → Hole
  or_and : Formula → Formula → Hole

-- and behind an operand: a conjunction, or `f |` and a conjunction
pub data Level : Type 0 where
  alone : Formula → Level
  beside : Formula → Formula → Level

pub record Head : Type 0 where
  pub states : ℕ
  pub start : ℕ
  pub names : List (List ℕ)
  pub sets : ℕ

-- what is expected next, with all that has been read
pub data At : Type 0 where
  hoa : At
  v1 : At
  states_word : At
  states_number : At
  start_word : ℕ → At
  start_number : ℕ → At
  ap_word : ℕ → ℕ → At
  ap_number : ℕ → ℕ → At
  naming : ℕ → ℕ → ℕ → List (List ℕ) → At
  sets_number : ℕ → ℕ → List (List ℕ) → At
  operand : Head → List Hole → Hole → At
  opening : Head → List Hole → Hole → Bool → At
  mark : Head → List Hole → Hole → Bool → At
  closing : Head → List Hole → Hole → Bool → ℕ → At
  after : Head → List Hole → Level → At
  body : Head → Formula → At
  state_number : Head → Formula → List (List Edge) → At
  edges : Head → Formula → List (List Edge) → List Edge → At
  target : Head → Formula → List (List Edge) → List Edge → ℕ → At
  braces : Head → Formula → List (List Edge) → List Edge → ℕ → List ℕ → At
  finished : Document → At

unfoldable pub plug : Hole → Formula → Level
plug fresh f = alone f
plug (or_else e) f = beside e f
plug (and_also g) f = alone (both g f)
plug (or_and e g) f = beside e (both g f)

unfoldable pub whole : Level → Formula
whole (alone f) = f
whole (beside e f) = either e f

unfoldable pub and_then : Level → Hole
and_then (alone f) = and_also f
and_then (beside e f) = or_and e f

unfoldable pub marking : Bool → ℕ → Formula
marking true m = inf m
marking false m = fin m

unfoldable pub document_of : Head → Formula → List (List Edge) → Document
document_of h f rs = record { states = h.states; start = h.start; names = h.names; sets = h.sets; formula = f; rows = rs }

-- ---- what may come
abbrev pub on : Word → At → Choice At
on x a = record { word = x; next = a }

abbrev pub offer : List (Choice At) → Numbers At → Names At → Offer At
offer cs ns qs = record { choices = cs; numbers = ns; names = qs }

abbrev pub only : Word → At → Offer At
only x a = offer (on x a ∷ []) no_number no_name

abbrev pub a_number : Numbers At → Offer At
a_number ns = offer [] ns no_name

-- behind the edges r of a state: an edge, the next state, or the end
unfoldable pub row_over : Head → List Edge → Bool
row_over h r = eqb (length r) (2 ^ length h.names)

unfoldable pub edge_next : Head → Formula → List (List Edge) → List Edge → Numbers At
edge_next h f rs r = cond (row_over h r) no_number (below false h.states (target h f rs r))

unfoldable pub row_next : Head → Formula → List (List Edge) → List Edge → List (Choice At)
row_next h f rs r =
    cond (row_over h r)
    (cond (ltb (length rs + 1) h.states) (on w.State (state_number h f (rs ++ (r ∷ []))) ∷ []) (on w.End (finished (document_of h f (rs ++ (r ∷ [])))) ∷ []))
    []

unfoldable pub marks_next : Head → List Hole → Hole → List (Choice At)
marks_next h hs o = cond (ltb 0 h.sets) (on w.Inf (opening h hs o true) ∷ on w.Fin (opening h hs o false) ∷ []) []

unfoldable pub close : Head → List Hole → Level → Choice At
close h [] l = on w.Body (body h (whole l))
close h (o ∷ hs) l = on w.Closes (after h hs (plug o (group (whole l))))

unfoldable pub names_next : ℕ → ℕ → ℕ → List (List ℕ) → Offer At
names_next n i zero ns = only w.Acceptance (sets_number n i ns)
names_next n i (suc left) ns = offer [] no_number (new_name ns (λ q. naming n i left (ns ++ (q ∷ []))))

unfoldable pub offers : At → Offer At
offers hoa = only w.Hoa v1
offers v1 = only w.V1 states_word
offers states_word = only w.States states_number
offers states_number = a_number (below true 2147483648 start_word)
offers (start_word n) = only w.Start (start_number n)
offers (start_number n) = a_number (below false n (ap_word n))
offers (ap_word n i) = only w.Ap (ap_number n i)
offers (ap_number n i) = a_number (below false 4 (λ k. naming n i k []))
offers (naming n i left ns) = names_next n i left ns
offers (sets_number n i ns) = a_number (below false 33 (λ k. operand (record { states = n; start = i; names = ns; sets = k }) [] fresh))
offers (operand h hs o) = offer (on w.Opens (operand h (o ∷ hs) fresh) ∷ on w.Yes (after h hs (plug o (truth true))) ∷ on w.No (after h hs (plug o (truth false))) ∷ marks_next h hs o) no_number no_name
offers (opening h hs o b) = only w.Opens (mark h hs o b)
offers (mark h hs o b) = a_number (below false h.sets (closing h hs o b))
offers (closing h hs o b m) = only w.Closes (after h hs (plug o (marking b m)))
offers (after h hs l) = offer (on w.And (operand h hs (and_then l)) ∷ on w.Or (operand h hs (or_else (whole l))) ∷ close h hs l ∷ []) no_number no_name
offers (body h f) = only w.State (state_number h f [])
offers (state_number h f rs) = a_number (exactly (length rs) (edges h f rs []))
offers (edges h f rs r) = offer (row_next h f rs r) (edge_next h f rs r) no_name
offers (target h f rs r t) = offer (on w.Left (braces h f rs r t []) ∷ row_next h f rs (r ++ (plain t ∷ []))) (edge_next h f rs (r ++ (plain t ∷ []))) no_name
offers (braces h f rs r t ms) = offer (on w.Right (edges h f rs (r ++ (marked t ms ∷ []))) ∷ []) (below false h.sets (λ m. braces h f rs r t (ms ++ (m ∷ [])))) no_name
offers (finished d) = offer [] no_number no_name

-- ---- texts
unfoldable pub first : Spot At
first = between false hoa

abbrev pub is_dead : Spot At → Bool
is_dead (between b s) = false
is_dead (in_word x r a) = false
is_dead (digits s n) = false
is_dead (in_name s q b) = false
is_dead dead = true

-- how many bytes the reader takes before it is past any text of the subset
unfoldable pub alive_for : List ℕ → Spot At → ℕ
alive_for [] p = 0
alive_for (b ∷ bs) p = let s = step_byte offers p b in let n = suc (alive_for bs s) in cond (is_dead s) 0 n
