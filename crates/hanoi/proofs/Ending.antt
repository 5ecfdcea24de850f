-- From each state of the reader some tokens lead to the end: targets 0, `t`, closing parentheses, names longer than all before.
use Prim.Native.Nat.{ℕ, zero, suc, ◌+◌, ◌-◌, ◌^◌, ◌≤◌, ◌<◌}
use native.Mathlib.Omega.{arith}
use mathlib.Core.Path.{◌≡◌, refl, ap}
use mathlib.Core.Logic.{◌⊎◌, inl, inr}
use mathlib.Core.Bool.{Bool, true, false, not, false≢true}
use mathlib.Core.List.Memᴰ
use mathlib.Core.List.{List, [], ◌∷◌, ◌++◌}
use lib.Dec.{eqb, ltb}
use lib.ListN.{length, length-append, replicate, length-replicate}
use Rattle.lists.specs.Lists.{all, any}
use Rattle.lists.proofs.Bools.{test, and_r, both, ≡eqb}
use Rattle.hanoi.specs.Texts.{Token, word, quoted, quotable_in, quotable}
use Rattle.hanoi.specs.Words as w
use Rattle.hanoi.specs.Documents as d
use Rattle.hanoi.specs.Documents.{Formula, truth, group, Edge, plain, marked, Document, row_tokens, lawful_edge, lawful_row}
use Rattle.hanoi.specs.Offers.{takes_name, is_new, named, Leads, by_word, by_name, Goes, stop, go}
use Rattle.hanoi.specs.Reader.{Hole, fresh, Level, Head, At, hoa, v1, states_word, states_number, start_word, start_number, ap_word, ap_number, naming, sets_number, operand, opening, mark, closing, after, body, state_number, edges, target, braces, finished, plug, whole, marking, document_of, on, close, names_next, offers}
use Rattle.hanoi.proofs.Digits.{lt_yes}
use Rattle.hanoi.proofs.Taking.{goes-append, by-below, by-exactly, Stands, edges-stand, target-stands, edges-read, Ready, row-ready, body-ready, rows-read}
use Rattle.hanoi.proofs.Keeping.{SoundNames, SoundHead, SoundRows, SoundRow, Sound, keeps}

-- some tokens lead from s to the end
pub record Ends (s : At) : Type 0 where
  pub document : Document
  pub tokens : List Token
  pub goes : Goes offers s tokens (finished document)

first-go : {s u : At} {t : Token} → Leads offers s t u → Ends u → Ends s
first-go {t = t} l e = record { document = e.document; tokens = t ∷ e.tokens; goes = go l e.goes }

first_goes : {s u : At} {ts : List Token} → Goes offers s ts u → Ends u → Ends s
first_goes {ts = ts} g e = record { document = e.document; tokens = ts ++ e.tokens; goes = goes-append g e.goes }

-- ---- rows of targets 0
all_same : {B : Type 0} (p : B → Bool) (n : ℕ) (x : B) → p x ≡ true → all p (replicate n x) ≡ true
all_same p zero x h = refl
all_same p (suc n) x h = both (p x) (all p (replicate n x)) h (all_same p n x h)

edge-lawful : (n k : ℕ) → 0 < n → lawful_edge n k (plain 0) ≡ true
unfolding lawful_edge
edge-lawful n k p = both (ltb 0 n) true (lt_yes 0 n p) refl

row_lawful : (n k c : ℕ) → 0 < n → lawful_row n k c (replicate c (plain 0)) ≡ true
unfolding lawful_row
row_lawful n k c p = both (eqb (length (replicate c (plain 0))) c) (all (lawful_edge n k) (replicate c (plain 0))) (≡eqb (length (replicate c (plain 0))) c (length-replicate c (plain 0))) (all_same (lawful_edge n k) c (plain 0) (edge-lawful n k p))

module _ (h : Head) (f : Formula) (ok : SoundHead h) where
  states_some : 0 < h.states
  states_some = omega (arith, ok.names_are.start_is)

  ends-ready : (rs : List (List Edge)) (s : At) → Ready h f ok.names_are.small ok.few_sets rs s → length rs ≤ h.states → Ends s
  ends-ready rs s r l =
      let c = 2 ^ length h.names in
      let more : List (List Edge) = replicate (h.states - length rs) (replicate c (plain 0)) in
      let i : length more ≡ h.states - length rs = length-replicate (h.states - length rs) (replicate c (plain 0)) in
      record {
        document = document_of h f (rs ++ more);
        tokens = row_tokens (length rs) more ++ (word w.End ∷ []);
        goes = rows-read h f ok.names_are.small ok.few_sets rs more s r (omega (arith, i)) (all_same (lawful_row h.states h.sets c) (h.states - length rs) (replicate c (plain 0)) (row_lawful h.states h.sets c states_some));
      }

  ends-stands : (rs : List (List Edge)) (r : List Edge) (s : At) → Stands h f ok.names_are.small ok.few_sets rs r s → length rs < h.states → length r ≤ 2 ^ length h.names → Ends s
  ends-stands rs r s x l k =
      let c = 2 ^ length h.names in
      let es : List Edge = replicate (c - length r) (plain 0) in
      let i : length es ≡ c - length r = length-replicate (c - length r) (plain 0) in
      let a = edges-read h f ok.names_are.small ok.few_sets rs r es s x (omega (arith, i)) (all_same (lawful_edge h.states h.sets) (c - length r) (plain 0) (edge-lawful h.states h.sets states_some)) in
      let j : length (r ++ es) ≡ c = simp length-append (omega (arith, i)) in
      let q : length (rs ++ ((r ++ es) ∷ [])) ≡ length rs + 1 = simp length-append refl in
      first_goes a.1 (ends-ready (rs ++ ((r ++ es) ∷ [])) a.0 (row-ready h f ok.names_are.small ok.few_sets rs (r ++ es) a.0 l j a.2) (omega (arith, q)))

  ends-row : (rs : List (List Edge)) (r : List Edge) → SoundRow h f rs r → Ends (edges h f rs r)
  ends-row rs r s = ends-stands rs r (edges h f rs r) (edges-stand h f ok.names_are.small ok.few_sets rs r) s.rows_is.more_is s.short

  ends-body : Ends (body h f)
  ends-body = ends-ready [] (body h f) (body-ready h f ok.names_are.small ok.few_sets states_some) (omega arith)

ends-state : (h : Head) (f : Formula) (rs : List (List Edge)) → SoundRows h f rs → Ends (state_number h f rs)
unfolding offers
ends-state h f rs s =
    first-go (by-exactly (state_number h f rs) (length rs) (edges h f rs []) refl (omega (arith, s.more_is, s.head_is.names_are.small)))
    (ends-row h f s.head_is rs [] (record { rows_is = s; edges_are = refl; short = omega arith }))

-- ---- formulas
ends-after : (h : Head) (hs : List Hole) (l : Level) → SoundHead h → Ends (after h hs l)
unfolding offers close
ends-after h [] l ok = first-go (by_word (on w.Body (body h (whole l))) (Memᴰ.tail (Memᴰ.tail (Memᴰ.head refl)))) (ends-body h (whole l) ok)
ends-after h (o ∷ hs) l ok = first-go (by_word (on w.Closes (after h hs (plug o (group (whole l))))) (Memᴰ.tail (Memᴰ.tail (Memᴰ.head refl)))) (ends-after h hs (plug o (group (whole l))) ok)

ends-operand : (h : Head) (hs : List Hole) (o : Hole) → SoundHead h → Ends (operand h hs o)
unfolding offers
ends-operand h hs o ok = first-go (by_word (on w.Yes (after h hs (plug o (truth true)))) (Memᴰ.tail (Memᴰ.head refl))) (ends-after h hs (plug o (truth true)) ok)

ends-closing : (h : Head) (hs : List Hole) (o : Hole) (b : Bool) (m : ℕ) → SoundHead h → Ends (closing h hs o b m)
unfolding offers
ends-closing h hs o b m ok = first-go (by_word (on w.Closes (after h hs (plug o (marking b m)))) (Memᴰ.head refl)) (ends-after h hs (plug o (marking b m)) ok)

ends-mark : (h : Head) (hs : List Hole) (o : Hole) (b : Bool) → SoundHead h → 0 < h.sets → Ends (mark h hs o b)
unfolding offers
ends-mark h hs o b ok p = first-go (by-below (mark h hs o b) false h.sets 0 (closing h hs o b) refl p (omega arith) refl) (ends-closing h hs o b 0 ok)

ends-opening : (h : Head) (hs : List Hole) (o : Hole) (b : Bool) → SoundHead h → 0 < h.sets → Ends (opening h hs o b)
unfolding offers
ends-opening h hs o b ok p = first-go (by_word (on w.Opens (mark h hs o b)) (Memᴰ.head refl)) (ends-mark h hs o b ok p)

-- ---- names
abbrev pub total : List (List ℕ) → ℕ
total [] = 0
total (s ∷ ss) = length s + total ss

same_length : (a b : List ℕ) → d.same_bytes a b ≡ true → length a ≡ length b
same_length [] [] h = refl
same_length [] (y ∷ b) h = absurd (false≢true h)
same_length (x ∷ a) [] h = absurd (false≢true h)
same_length (x ∷ a) (y ∷ b) h = ap suc (same_length a b (and_r (eqb x y) (d.same_bytes a b) h))

pub longer-new : (q : List ℕ) (ns : List (List ℕ)) → total ns < length q → any (d.same_bytes q) ns ≡ false
longer-new q [] l = refl
longer-new q (s ∷ ns) l = step (test (d.same_bytes q s)) (longer-new q ns (omega (arith, l)))
  where
    step : (d.same_bytes q s ≡ true) ⊎ (d.same_bytes q s ≡ false) → any (d.same_bytes q) ns ≡ false → any (d.same_bytes q) (s ∷ ns) ≡ false
    step (inl t) ih = absurd (omega (arith, l, same_length q s t))
    step (inr f) ih = rw (f, ih) refl

pub letters-quotable : (n : ℕ) → quotable_in false (replicate n 122) ≡ true
unfolding quotable_in
letters-quotable zero = refl
letters-quotable (suc n) = letters-quotable n

letters-quotable' : (n : ℕ) → quotable (replicate n 122) ≡ true
unfolding quotable
letters-quotable' n = letters-quotable n

ends-sets : (n i : ℕ) (ns : List (List ℕ)) → SoundNames n i 0 ns → Ends (sets_number n i ns)
unfolding offers
ends-sets n i ns s =
    first-go (by-below (sets_number n i ns) false 33 0 (λ k. operand (record { states = n; start = i; names = ns; sets = k }) [] fresh) refl (omega arith) (omega arith) refl)
    (ends-operand (record { states = n; start = i; names = ns; sets = 0 }) [] fresh (record { names_are = s; few_sets = omega arith }))

ends-naming : (n i left : ℕ) (ns : List (List ℕ)) → SoundNames n i left ns → Ends (naming n i left ns)
unfolding offers names_next takes_name is_new named
ends-naming n i zero ns s = first-go (by_word (on w.Acceptance (sets_number n i ns)) (Memᴰ.head refl)) (ends-sets n i ns s)
ends-naming n i (suc left) ns s =
    let q : List ℕ = replicate (suc (total ns)) 122 in
    let j : length q ≡ suc (total ns) = length-replicate (suc (total ns)) 122 in
    let new : not (any (d.same_bytes q) ns) ≡ true = ap not (longer-new q ns (omega (arith, j))) in
    let l : Leads offers (naming n i (suc left) ns) (quoted q) (naming n i left (ns ++ (q ∷ []))) = by_name q refl (letters-quotable' (suc (total ns))) new in
    first-go l (ends-naming n i left (ns ++ (q ∷ [])) (keeps l s))

ends-ap : (n i : ℕ) → Sound (ap_number n i) → Ends (ap_number n i)
unfolding offers
ends-ap n i s =
    let l = by-below (ap_number n i) false 4 0 (λ k. naming n i k []) refl (omega arith) (omega arith) refl in
    first-go l (ends-naming n i 0 [] (keeps l s))

ends-start : (n : ℕ) → Sound (start_number n) → Ends (start_number n)
unfolding offers
ends-start n s =
    let l = by-below (start_number n) false n 0 (ap_word n) refl s.0 (omega arith) refl in
    first-go l (first-go (by_word (on w.Ap (ap_number n 0)) (Memᴰ.head refl)) (ends-ap n 0 (keeps l s)))

ends-states : Ends states_number
unfolding offers
ends-states =
    first-go (by-below states_number true 2147483648 1 start_word refl (omega arith) (omega arith) refl)
    (first-go (by_word (on w.Start (start_number 1)) (Memᴰ.head refl)) (ends-start 1 (omega arith, omega arith)))

pub finish : (s : At) → Sound s → Ends s
unfolding offers
finish hoa s = first-go (by_word (on w.Hoa v1) (Memᴰ.head refl)) (first-go (by_word (on w.V1 states_word) (Memᴰ.head refl)) (first-go (by_word (on w.States states_number) (Memᴰ.head refl)) ends-states))
finish v1 s = first-go (by_word (on w.V1 states_word) (Memᴰ.head refl)) (first-go (by_word (on w.States states_number) (Memᴰ.head refl)) ends-states)
finish states_word s = first-go (by_word (on w.States states_number) (Memᴰ.head refl)) ends-states
finish states_number s = ends-states
finish (start_word n) s = first-go (by_word (on w.Start (start_number n)) (Memᴰ.head refl)) (ends-start n s)
finish (start_number n) s = ends-start n s
finish (ap_word n i) s = first-go (by_word (on w.Ap (ap_number n i)) (Memᴰ.head refl)) (ends-ap n i s)
finish (ap_number n i) s = ends-ap n i s
finish (naming n i left ns) s = ends-naming n i left ns s
finish (sets_number n i ns) s = ends-sets n i ns s
finish (operand h hs o) s = ends-operand h hs o s.head_is
finish (opening h hs o b) s = ends-opening h hs o b s.0.head_is s.1
finish (mark h hs o b) s = ends-mark h hs o b s.0.head_is s.1
finish (closing h hs o b m) s = ends-closing h hs o b m s.0.head_is
finish (after h hs l) s = ends-after h hs l s.0
finish (body h f) s = ends-body h f s.0
finish (state_number h f rs) s = ends-state h f rs s
finish (edges h f rs r) s = ends-row h f s.rows_is.head_is rs r s
finish (target h f rs r t) s =
    ends-stands h f s.rows_is.head_is rs (r ++ (plain t ∷ [])) (target h f rs r t) (target-stands h f s.rows_is.head_is.names_are.small s.rows_is.head_is.few_sets rs r t) s.rows_is.more_is s.short
finish (braces h f rs r t ms) s = first-go (by_word (on w.Right (edges h f rs (r ++ (marked t ms ∷ [])))) (Memᴰ.head refl)) (ends-row h f s.rows_is.head_is rs (r ++ (marked t ms ∷ [])) s)
finish (finished x) s = record { document = x; tokens = []; goes = stop }
