-- What the reader has read is what its state prints: told back, the tokens of the document so far.
use Prim.Native.Nat.{ℕ, zero, suc, ◌+◌}
use native.Mathlib.Omega.{arith}
use mathlib.Core.Path.{◌≡◌, refl, sym, ap, ap₂, ◌∙◌, subst}
use mathlib.Core.Bool.{Bool, true, false, cond, false≢true}
use mathlib.Core.List.Memᴰ
use mathlib.Core.List.{List, [], ◌∷◌, ◌++◌, map, append_assoc, append-nil, Memᴰ}
use lib.Dec.{ltb}
use lib.ListN.{length, length-append}
use Rattle.lists.specs.Lists.{flat}
use Rattle.lists.proofs.Bools.{eqb≡}
use Rattle.hanoi.specs.Texts.{Token, word, number, quoted}
use Rattle.hanoi.specs.Words.{Word}
use Rattle.hanoi.specs.Words as w
use Rattle.hanoi.specs.Documents.{Formula, truth, group, Edge, plain, marked, formula_tokens, edge_tokens, row_tokens, tokens_of}
use Rattle.hanoi.specs.Offers.{Choice, no_number, below, takes, ends, takes_name, numbered, named, Leads, by_word, by_number, by_name, Goes, stop, go}
use Rattle.hanoi.specs.Reader.{Hole, fresh, or_else, and_also, or_and, Level, alone, beside, Head, At, hoa, v1, states_word, states_number, start_word, start_number, ap_word, ap_number, naming, sets_number, operand, opening, mark, closing, after, body, state_number, edges, target, braces, finished, plug, whole, and_then, marking, document_of, on, row_over, edge_next, row_next, marks_next, close, names_next, offers}

-- ---- what a state prints
abbrev pub hole_tokens : Hole → List Token
hole_tokens fresh = []
hole_tokens (or_else f) = formula_tokens f ++ (word w.Or ∷ [])
hole_tokens (and_also f) = formula_tokens f ++ (word w.And ∷ [])
hole_tokens (or_and f g) = (formula_tokens f ++ (word w.Or ∷ formula_tokens g)) ++ (word w.And ∷ [])

abbrev pub holes_tokens : List Hole → List Token
holes_tokens [] = []
holes_tokens (o ∷ hs) = (holes_tokens hs ++ hole_tokens o) ++ (word w.Opens ∷ [])

unfoldable pub front_tokens : ℕ → ℕ → ℕ → List (List ℕ) → List Token
front_tokens n i k ns = word w.Hoa ∷ word w.V1 ∷ word w.States ∷ number n ∷ word w.Start ∷ number i ∷ word w.Ap ∷ number k ∷ map quoted ns

unfoldable pub head_tokens : Head → List Token
head_tokens h = (front_tokens h.states h.start (length h.names) h.names ++ (word w.Acceptance ∷ [])) ++ (number h.sets ∷ [])

abbrev pub mark_word : Bool → Token
mark_word true = word w.Inf
mark_word false = word w.Fin

unfoldable pub body_tokens : Head → Formula → List (List Edge) → List Token
body_tokens h f rs = ((head_tokens h ++ formula_tokens f) ++ (word w.Body ∷ [])) ++ row_tokens 0 rs

unfoldable pub row_start : Head → Formula → List (List Edge) → List Edge → List Token
row_start h f rs r = ((body_tokens h f rs ++ (word w.State ∷ [])) ++ (number (length rs) ∷ [])) ++ flat (map edge_tokens r)

unfoldable pub printed : At → List Token
printed hoa = []
printed v1 = word w.Hoa ∷ []
printed states_word = word w.Hoa ∷ word w.V1 ∷ []
printed states_number = word w.Hoa ∷ word w.V1 ∷ word w.States ∷ []
printed (start_word n) = word w.Hoa ∷ word w.V1 ∷ word w.States ∷ number n ∷ []
printed (start_number n) = word w.Hoa ∷ word w.V1 ∷ word w.States ∷ number n ∷ word w.Start ∷ []
printed (ap_word n i) = word w.Hoa ∷ word w.V1 ∷ word w.States ∷ number n ∷ word w.Start ∷ number i ∷ []
printed (ap_number n i) = word w.Hoa ∷ word w.V1 ∷ word w.States ∷ number n ∷ word w.Start ∷ number i ∷ word w.Ap ∷ []
printed (naming n i left ns) = front_tokens n i (length ns + left) ns
printed (sets_number n i ns) = front_tokens n i (length ns) ns ++ (word w.Acceptance ∷ [])
printed (operand h hs o) = head_tokens h ++ (holes_tokens hs ++ hole_tokens o)
printed (opening h hs o b) = (head_tokens h ++ (holes_tokens hs ++ hole_tokens o)) ++ (mark_word b ∷ [])
printed (mark h hs o b) = ((head_tokens h ++ (holes_tokens hs ++ hole_tokens o)) ++ (mark_word b ∷ [])) ++ (word w.Opens ∷ [])
printed (closing h hs o b m) = (((head_tokens h ++ (holes_tokens hs ++ hole_tokens o)) ++ (mark_word b ∷ [])) ++ (word w.Opens ∷ [])) ++ (number m ∷ [])
printed (after h hs l) = head_tokens h ++ (holes_tokens hs ++ formula_tokens (whole l))
printed (body h f) = (head_tokens h ++ formula_tokens f) ++ (word w.Body ∷ [])
printed (state_number h f rs) = body_tokens h f rs ++ (word w.State ∷ [])
printed (edges h f rs r) = row_start h f rs r
printed (target h f rs r t) = row_start h f rs r ++ (number t ∷ [])
printed (braces h f rs r t ms) = ((row_start h f rs r ++ (number t ∷ [])) ++ (word w.Left ∷ [])) ++ map number ms
printed (finished x) = tokens_of x

-- ---- lists that grow by one
map_snoc : {B : Type 0} (g : B → Token) (l : List B) (x : B) → map g (l ++ (x ∷ [])) ≡ map g l ++ (g x ∷ [])
map_snoc g [] x = refl
map_snoc g (y ∷ l) x = ap (λ (r : List Token). g y ∷ r) (map_snoc g l x)

flat-snoc : (l : List Edge) (x : Edge) → flat (map edge_tokens (l ++ (x ∷ []))) ≡ flat (map edge_tokens l) ++ edge_tokens x
flat-snoc [] x = append-nil (edge_tokens x)
flat-snoc (y ∷ l) x = ap (λ (r : List Token). edge_tokens y ++ r) (flat-snoc l x) ∙ sym (append_assoc (edge_tokens y) (flat (map edge_tokens l)) (edge_tokens x))

rows_snoc : (i : ℕ) (rs : List (List Edge)) (r : List Edge) → row_tokens i (rs ++ (r ∷ [])) ≡ row_tokens i rs ++ (word w.State ∷ number (i + length rs) ∷ flat (map edge_tokens r))
rows_snoc i [] r =
    let e : i ≡ i + 0 = omega arith in
    ap₂ (λ (l : List Token) (n : ℕ). word w.State ∷ number n ∷ l) (append-nil (flat (map edge_tokens r))) e
rows_snoc i (q ∷ rs) r =
    let e : suc i + length rs ≡ i + suc (length rs) = omega arith in
    ap (λ (l : List Token). word w.State ∷ number i ∷ l)
    (ap (λ (l : List Token). flat (map edge_tokens q) ++ l)
    (rows_snoc (suc i) rs r ∙ ap (λ (n : ℕ). row_tokens (suc i) rs ++ (word w.State ∷ number n ∷ flat (map edge_tokens r))) e)
    ∙ sym (append_assoc (flat (map edge_tokens q)) (row_tokens (suc i) rs) (word w.State ∷ number (i + suc (length rs)) ∷ flat (map edge_tokens r))))

-- ---- formulas
plug-tokens : (o : Hole) (f : Formula) → formula_tokens (whole (plug o f)) ≡ hole_tokens o ++ formula_tokens f
unfolding whole plug
plug-tokens fresh f = refl
plug-tokens (or_else e) f = simp append_assoc refl
plug-tokens (and_also g) f = simp append_assoc refl
plug-tokens (or_and e g) f = simp append_assoc refl

and-tokens : (l : Level) → hole_tokens (and_then l) ≡ formula_tokens (whole l) ++ (word w.And ∷ [])
unfolding and_then whole
and-tokens (alone f) = refl
and-tokens (beside e f) = refl

mark-tokens : (b : Bool) (m : ℕ) → formula_tokens (marking b m) ≡ mark_word b ∷ word w.Opens ∷ number m ∷ word w.Closes ∷ []
unfolding marking
mark-tokens true m = refl
mark-tokens false m = refl

-- ---- each step prints its token
only_one : {x : Word} {a : At} {c : Choice At} → Memᴰ c (on x a ∷ []) → c ≡ on x a
only_one {a = a} {c = c} (Memᴰ.tail x5) = elim x5 [ ]
only_one (Memᴰ.head e) = e

abbrev Prints : At → Token → At → Type 0
Prints s t u = printed u ≡ printed s ++ (t ∷ [])

-- a choice is one of those that print
abbrev Good : At → Choice At → Type 0
Good s c = Prints s (word c.word) c.next

good-cast : (s : At) (c e : Choice At) → c ≡ e → Good s e → Good s c
good-cast s c e q g = subst (λ (x : Choice At). Good s x) (sym q) g

edge-printed : (h : Head) (f : Formula) (rs : List (List Edge)) (r : List Edge) (e : Edge) → row_start h f rs (r ++ (e ∷ [])) ≡ row_start h f rs r ++ edge_tokens e
unfolding row_start
edge-printed h f rs r e =
    let x : List Token = (body_tokens h f rs ++ (word w.State ∷ [])) ++ (number (length rs) ∷ []) in
    ap (λ (l : List Token). x ++ l) (flat-snoc r e) ∙ sym (append_assoc x (flat (map edge_tokens r)) (edge_tokens e))

row-printed : (h : Head) (f : Formula) (rs : List (List Edge)) (r : List Edge) → body_tokens h f (rs ++ (r ∷ [])) ≡ row_start h f rs r
unfolding row_start body_tokens
row-printed h f rs r =
    let z : 0 + length rs ≡ length rs = omega arith in
    ap (λ (l : List Token). ((head_tokens h ++ formula_tokens f) ++ (word w.Body ∷ [])) ++ l)
    (rows_snoc 0 rs r ∙ ap (λ (n : ℕ). row_tokens 0 rs ++ (word w.State ∷ number n ∷ flat (map edge_tokens r))) z) ∙ simp append_assoc refl

document-printed : (h : Head) (f : Formula) (rs : List (List Edge)) → tokens_of (document_of h f rs) ≡ body_tokens h f rs ++ (word w.End ∷ [])
unfolding tokens_of document_of body_tokens head_tokens front_tokens
document-printed h f rs = simp append_assoc refl

row-choice : (h : Head) (f : Formula) (rs : List (List Edge)) (r : List Edge) (c : Choice At) → Memᴰ c (row_next h f rs r) → printed c.next ≡ row_start h f rs r ++ (word c.word ∷ [])
unfolding row_next printed
row-choice h f rs r c m = step (row_over h r) (ltb (length rs + 1) h.states) m
  where
    step : (x y : Bool) → Memᴰ c (cond x (cond y (on w.State (state_number h f (rs ++ (r ∷ []))) ∷ []) (on w.End (finished (document_of h f (rs ++ (r ∷ [])))) ∷ [])) []) → printed c.next ≡ row_start h f rs r ++ (word c.word ∷ [])
    step false y x = elim x [ ]
    step true true (Memᴰ.tail x) = elim x [ ]
    step true false (Memᴰ.tail x) = elim x [ ]
    step true true (Memᴰ.head e) =
        subst (λ (c : Choice At). printed c.next ≡ row_start h f rs r ++ (word c.word ∷ [])) (sym e) (ap (λ (l : List Token). l ++ (word w.State ∷ [])) (row-printed h f rs r))
    step true false (Memᴰ.head e) =
        subst (λ (c : Choice At). printed c.next ≡ row_start h f rs r ++ (word c.word ∷ [])) (sym e) (document-printed h f (rs ++ (r ∷ [])) ∙ ap (λ (l : List Token). l ++ (word w.End ∷ [])) (row-printed h f rs r))

edge-number : (h : Head) (f : Formula) (rs : List (List Edge)) (r : List Edge) (n : ℕ) (s : At) → takes (edge_next h f rs r) n ≡ true → printed (numbered (edge_next h f rs r) n s) ≡ row_start h f rs r ++ (number n ∷ [])
unfolding edge_next takes numbered printed
edge-number h f rs r n s t = step (row_over h r) t
  where
    step : (x : Bool) → takes (cond x no_number (below false h.states (target h f rs r))) n ≡ true → printed (numbered (cond x no_number (below false h.states (target h f rs r))) n s) ≡ row_start h f rs r ++ (number n ∷ [])
    step true t = absurd (false≢true t)
    step false t = refl

pub no-choice : {B : Type 0} {c : Choice At} → Memᴰ c [] → B
no-choice m = absurd (Memᴰ.not-nil m)

marks-open : (h : Head) (hs : List Hole) (o : Hole) (c : Choice At) → Memᴰ c (marks_next h hs o) → Memᴰ c (cond (ltb 0 h.sets) (on w.Inf (opening h hs o true) ∷ on w.Fin (opening h hs o false) ∷ []) [])
unfolding marks_next
marks-open h hs o c m = m

body_open : (h : Head) (f : Formula) → body_tokens h f [] ++ (word w.State ∷ []) ≡ ((head_tokens h ++ formula_tokens f) ++ (word w.Body ∷ [])) ++ (word w.State ∷ [])
unfolding body_tokens
body_open h f = ap (λ (l : List Token). l ++ (word w.State ∷ [])) (append-nil ((head_tokens h ++ formula_tokens f) ++ (word w.Body ∷ [])))

row_open : (h : Head) (f : Formula) (rs : List (List Edge)) → row_start h f rs [] ≡ (body_tokens h f rs ++ (word w.State ∷ [])) ++ (number (length rs) ∷ [])
unfolding row_start
row_open h f rs = append-nil ((body_tokens h f rs ++ (word w.State ∷ [])) ++ (number (length rs) ∷ []))

number-first : (n i k : ℕ) → front_tokens n i (length {A = List ℕ} [] + k) [] ≡ word w.Hoa ∷ word w.V1 ∷ word w.States ∷ number n ∷ word w.Start ∷ number i ∷ word w.Ap ∷ number k ∷ []
unfolding front_tokens
number-first n i k =
    let z : 0 + k ≡ k = omega arith in
    ap (λ (x : ℕ). word w.Hoa ∷ word w.V1 ∷ word w.States ∷ number n ∷ word w.Start ∷ number i ∷ word w.Ap ∷ number x ∷ []) z

sets_first : (n i : ℕ) (ns : List (List ℕ)) (k : ℕ) → head_tokens (record { states = n; start = i; names = ns; sets = k }) ++ [] ≡ (front_tokens n i (length ns) ns ++ (word w.Acceptance ∷ [])) ++ (number k ∷ [])
unfolding head_tokens
sets_first n i ns k = append-nil ((front_tokens n i (length ns) ns ++ (word w.Acceptance ∷ [])) ++ (number k ∷ []))

word-printed : (s : At) (c : Choice At) → Memᴰ c (offers s).choices → Good s c
unfolding offers printed names_next close
word-printed hoa c m = good-cast hoa c _ (only_one m) refl
word-printed v1 c m = good-cast v1 c _ (only_one m) refl
word-printed states_word c m = good-cast states_word c _ (only_one m) refl
word-printed states_number c m = no-choice m
word-printed (start_word n) c m = good-cast (start_word n) c _ (only_one m) refl
word-printed (start_number n) c m = no-choice m
word-printed (ap_word n i) c m = good-cast (ap_word n i) c _ (only_one m) refl
word-printed (ap_number n i) c m = no-choice m
word-printed (naming n i zero ns) c m =
    let z : length ns ≡ length ns + 0 = omega arith in
    good-cast (naming n i 0 ns) c _ (only_one m) (ap (λ (k : ℕ). front_tokens n i k ns ++ (word w.Acceptance ∷ [])) z)
word-printed (naming n i (suc left) ns) c m = no-choice m
word-printed (sets_number n i ns) c m = no-choice m
word-printed (operand h hs o) c (Memᴰ.head e) = good-cast (operand h hs o) c _ e (ap (λ (l : List Token). head_tokens h ++ l) (append-nil ((holes_tokens hs ++ hole_tokens o) ++ (word w.Opens ∷ []))) ∙ sym (append_assoc (head_tokens h) (holes_tokens hs ++ hole_tokens o) (word w.Opens ∷ [])))
word-printed (operand h hs o) c (Memᴰ.tail (Memᴰ.head e)) = good-cast (operand h hs o) c _ e (ap (λ (l : List Token). head_tokens h ++ (holes_tokens hs ++ l)) (plug-tokens o (truth true)) ∙ simp append_assoc refl)
word-printed (operand h hs o) c (Memᴰ.tail (Memᴰ.tail (Memᴰ.head e))) = good-cast (operand h hs o) c _ e (ap (λ (l : List Token). head_tokens h ++ (holes_tokens hs ++ l)) (plug-tokens o (truth false)) ∙ simp append_assoc refl)
word-printed (operand h hs o) c (Memᴰ.tail (Memᴰ.tail (Memᴰ.tail m))) = marks (ltb 0 h.sets) (opened m)
  where
    opened : Memᴰ c (marks_next h hs o) → Memᴰ c (cond (ltb 0 h.sets) (on w.Inf (opening h hs o true) ∷ on w.Fin (opening h hs o false) ∷ []) [])
    opened k = marks-open h hs o c k

    marks : (x : Bool) → Memᴰ c (cond x (on w.Inf (opening h hs o true) ∷ on w.Fin (opening h hs o false) ∷ []) []) → Good (operand h hs o) c
    marks true (Memᴰ.head e) = good-cast (operand h hs o) c _ e refl
    marks true (Memᴰ.tail (Memᴰ.tail x19)) = elim x19 [ ]
    marks true (Memᴰ.tail (Memᴰ.head e)) = good-cast (operand h hs o) c _ e refl
    marks false k = no-choice k
word-printed (opening h hs o b) c m = good-cast (opening h hs o b) c _ (only_one m) refl
word-printed (mark h hs o b) c m = no-choice m
word-printed (closing h hs o b k) c m =
    good-cast (closing h hs o b k) c _ (only_one m)
    (ap (λ (l : List Token). head_tokens h ++ (holes_tokens hs ++ l)) (plug-tokens o (marking b k) ∙ ap (λ (l : List Token). hole_tokens o ++ l) (mark-tokens b k)) ∙ simp append_assoc refl)
word-printed (after h hs l) c (Memᴰ.head e) = good-cast (after h hs l) c _ e (ap (λ (x : List Token). head_tokens h ++ (holes_tokens hs ++ x)) (and-tokens l) ∙ simp append_assoc refl)
word-printed (after h hs l) c (Memᴰ.tail (Memᴰ.head e)) = good-cast (after h hs l) c _ e (simp append_assoc refl)
word-printed (after h [] l) c (Memᴰ.tail (Memᴰ.tail m)) = good-cast (after h [] l) c _ (only_one m) refl
word-printed (after h (o ∷ hs) l) c (Memᴰ.tail (Memᴰ.tail m)) =
    good-cast (after h (o ∷ hs) l) c _ (only_one m) (ap (λ (x : List Token). head_tokens h ++ (holes_tokens hs ++ x)) (plug-tokens o (group (whole l))) ∙ simp append_assoc refl)
word-printed (body h f) c m = good-cast (body h f) c _ (only_one m) (body_open h f)
word-printed (state_number h f rs) c m = no-choice m
word-printed (edges h f rs r) c m = row-choice h f rs r c m
word-printed (target h f rs r t) c (Memᴰ.head e) = good-cast (target h f rs r t) c _ e (append-nil ((row_start h f rs r ++ (number t ∷ [])) ++ (word w.Left ∷ [])))
word-printed (target h f rs r t) c (Memᴰ.tail m) = row-choice h f rs (r ++ (plain t ∷ [])) c m ∙ ap (λ (l : List Token). l ++ (word c.word ∷ [])) (edge-printed h f rs r (plain t))
word-printed (braces h f rs r t ms) c m =
    good-cast (braces h f rs r t ms) c _ (only_one m) (edge-printed h f rs r (marked t ms) ∙ simp append_assoc refl)
word-printed (finished x) c m = no-choice m

number-printed : (s : At) (n : ℕ) → takes (offers s).numbers n ≡ true → ends (offers s).numbers n ≡ true → Prints s (number n) (numbered (offers s).numbers n s)
unfolding offers printed names_next takes ends numbered
number-printed hoa n t e = absurd (false≢true t)
number-printed v1 n t e = absurd (false≢true t)
number-printed states_word n t e = absurd (false≢true t)
number-printed states_number n t e = refl
number-printed (start_word k) n t e = absurd (false≢true t)
number-printed (start_number k) n t e = refl
number-printed (ap_word k i) n t e = absurd (false≢true t)
number-printed (ap_number k i) n t e = number-first k i n
number-printed (naming k i zero ns) n t e = absurd (false≢true t)
number-printed (naming k i (suc left) ns) n t e = absurd (false≢true t)
number-printed (sets_number k i ns) n t e = sets_first k i ns n
number-printed (operand h hs o) n t e = absurd (false≢true t)
number-printed (opening h hs o b) n t e = absurd (false≢true t)
number-printed (mark h hs o b) n t e = refl
number-printed (closing h hs o b k) n t e = absurd (false≢true t)
number-printed (after h hs l) n t e = absurd (false≢true t)
number-printed (body h f) n t e = absurd (false≢true t)
number-printed (state_number h f rs) n t e = subst (λ (k : ℕ). row_start h f rs [] ≡ (body_tokens h f rs ++ (word w.State ∷ [])) ++ (number k ∷ [])) (sym (eqb≡ n (length rs) e)) (row_open h f rs)
number-printed (edges h f rs r) n t e = edge-number h f rs r n (edges h f rs r) t
number-printed (target h f rs r k) n t e = edge-number h f rs (r ++ (plain k ∷ [])) n (target h f rs r k) t ∙ ap (λ (l : List Token). l ++ (number n ∷ [])) (edge-printed h f rs r (plain k))
number-printed (braces h f rs r k ms) n t e = ap (λ (l : List Token). ((row_start h f rs r ++ (number k ∷ [])) ++ (word w.Left ∷ [])) ++ l) (map_snoc number ms n) ∙ simp append_assoc refl
number-printed (finished x) n t e = absurd (false≢true t)

name-printed : (s : At) (q : List ℕ) → takes_name (offers s).names ≡ true → Prints s (quoted q) (named (offers s).names q s)
unfolding offers printed names_next takes_name named front_tokens
name-printed hoa q t = absurd (false≢true t)
name-printed v1 q t = absurd (false≢true t)
name-printed states_word q t = absurd (false≢true t)
name-printed states_number q t = absurd (false≢true t)
name-printed (start_word k) q t = absurd (false≢true t)
name-printed (start_number k) q t = absurd (false≢true t)
name-printed (ap_word k i) q t = absurd (false≢true t)
name-printed (ap_number k i) q t = absurd (false≢true t)
name-printed (naming k i zero ns) q t = absurd (false≢true t)
name-printed (naming k i (suc left) ns) q t =
    let z : length (ns ++ (q ∷ [])) + left ≡ length ns + suc left = simp length-append (omega arith) in
    ap₂ (λ (x : ℕ) (l : List Token). word w.Hoa ∷ word w.V1 ∷ word w.States ∷ number k ∷ word w.Start ∷ number i ∷ word w.Ap ∷ number x ∷ l) z (map_snoc quoted ns q)
name-printed (sets_number k i ns) q t = absurd (false≢true t)
name-printed (operand h hs o) q t = absurd (false≢true t)
name-printed (opening h hs o b) q t = absurd (false≢true t)
name-printed (mark h hs o b) q t = absurd (false≢true t)
name-printed (closing h hs o b k) q t = absurd (false≢true t)
name-printed (after h hs l) q t = absurd (false≢true t)
name-printed (body h f) q t = absurd (false≢true t)
name-printed (state_number h f rs) q t = absurd (false≢true t)
name-printed (edges h f rs r) q t = absurd (false≢true t)
name-printed (target h f rs r k) q t = absurd (false≢true t)
name-printed (braces h f rs r k ms) q t = absurd (false≢true t)
name-printed (finished x) q t = absurd (false≢true t)

pub told_back : {s u : At} {ts : List Token} → Goes offers s ts u → printed u ≡ printed s ++ ts
told_back {s} stop = sym (append-nil (printed s))
told_back {s} {u} (go {t = t} {ts = ts} l g) = told_back g ∙ (ap (λ (x : List Token). x ++ ts) (one l) ∙ append_assoc (printed s) (t ∷ []) ts)
  where
    one : {t : Token} {u : At} → Leads offers s t u → Prints s t u
    one (by_word c m) = word-printed s c m
    one (by_number n a b) = number-printed s n a b
    one (by_name q a b c) = name-printed s q a
