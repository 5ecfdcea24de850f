-- The reader takes exactly the texts of the subset, ends with their document, and dies where no text of the subset goes on; so what it answers is the answer.
use Prim.Native.Nat.{ℕ, zero, suc, ◌^◌, ◌≤◌, ◌<◌}
use native.Mathlib.Omega.{arith}
use mathlib.Core.Path.{◌≡◌, refl, sym, ap, ◌∙◌, subst}
use mathlib.Core.Logic.{◌⊎◌, inl, inr}
use mathlib.Core.Bool.{Bool, true, false, ◌&&◌, cond, false≢true, true≢false}
use mathlib.Core.List.{List, [], ◌∷◌, ◌++◌, map}
use lib.Dec.{eqb, ltb, leb}
use lib.ListN.{length, take}
use Rattle.lists.specs.Lists.{all}
use Rattle.lists.proofs.Bools.{test, both, ≡eqb}
use Rattle.refusals.specs.declared.Refusal.TheVariants.{NotHanoi}
use Rattle.hanoi.specs.Texts.{white, Token, quotable, sticks, Spaced, apart, none, written}
use Rattle.hanoi.specs.Documents.{Formula, Edge, plain, Document, formed, different, letters, lawful_row, lawful, Says, Begins, Longest}
use Rattle.hanoi.specs.Offers.{no_number, below, ends, numbered, Goes, Spot, between, in_word, digits, in_name, dead, step_byte, run}
use Rattle.hanoi.specs.Reader.{Head, At, hoa, v1, states_word, states_number, start_word, start_number, ap_word, ap_number, naming, sets_number, operand, opening, mark, closing, after, body, state_number, edges, target, braces, finished, row_over, edge_next, names_next, offers, first, is_dead, alive_for}
use Rattle.hanoi.specs.Answers.{Answer, refused, Answers}
use Rattle.hanoi.specs.Reading.{answer_in, answer_at, hanoi_of}
use Rattle.hanoi.proofs.Digits.{lt_yes, le_yes}
use Rattle.hanoi.proofs.Forth.{run-append, dead-stays, Lands, free, barred, counted, forth}
use Rattle.hanoi.proofs.Back.{back}
use Rattle.hanoi.proofs.Taking.{fine, Lawful, lawful-parts, taken-tokens}
use Rattle.hanoi.proofs.Printing.{printed, told_back}
use Rattle.hanoi.proofs.Keeping.{Sound, keeps, keeps-all}
use Rattle.hanoi.proofs.Ending.{finish}
use Rattle.hanoi.proofs.Living.{Live, step-fine, leaves}

-- ---- the end is between tokens
abbrev is_finished : At → Bool
is_finished hoa = false
is_finished v1 = false
is_finished states_word = false
is_finished states_number = false
is_finished (start_word n) = false
is_finished (start_number n) = false
is_finished (ap_word n i) = false
is_finished (ap_number n i) = false
is_finished (naming n i left ns) = false
is_finished (sets_number n i ns) = false
is_finished (operand h hs o) = false
is_finished (opening h hs o b) = false
is_finished (mark h hs o b) = false
is_finished (closing h hs o b m) = false
is_finished (after h hs l) = false
is_finished (body h f) = false
is_finished (state_number h f rs) = false
is_finished (edges h f rs r) = false
is_finished (target h f rs r t) = false
is_finished (braces h f rs r t ms) = false
is_finished (finished x) = true

edge-goes-on : (h : Head) (f : Formula) (rs : List (List Edge)) (r : List Edge) (k : ℕ) (s : At) → ends (edge_next h f rs r) k ≡ true → is_finished (numbered (edge_next h f rs r) k s) ≡ false
unfolding edge_next ends numbered
edge-goes-on h f rs r k s e = step (row_over h r) e
  where
    step : (x : Bool) → ends (cond x no_number (below false h.states (target h f rs r))) k ≡ true → is_finished (numbered (cond x no_number (below false h.states (target h f rs r))) k s) ≡ false
    step true e = absurd (false≢true e)
    step false e = refl

number-goes-on : (s : At) (k : ℕ) → ends (offers s).numbers k ≡ true → is_finished (numbered (offers s).numbers k s) ≡ false
unfolding offers names_next ends numbered
number-goes-on hoa k e = absurd (false≢true e)
number-goes-on v1 k e = absurd (false≢true e)
number-goes-on states_word k e = absurd (false≢true e)
number-goes-on states_number k e = refl
number-goes-on (start_word n) k e = absurd (false≢true e)
number-goes-on (start_number n) k e = refl
number-goes-on (ap_word n i) k e = absurd (false≢true e)
number-goes-on (ap_number n i) k e = refl
number-goes-on (naming n i zero ns) k e = absurd (false≢true e)
number-goes-on (naming n i (suc left) ns) k e = absurd (false≢true e)
number-goes-on (sets_number n i ns) k e = refl
number-goes-on (operand h hs o) k e = absurd (false≢true e)
number-goes-on (opening h hs o b) k e = absurd (false≢true e)
number-goes-on (mark h hs o b) k e = refl
number-goes-on (closing h hs o b m) k e = absurd (false≢true e)
number-goes-on (after h hs l) k e = absurd (false≢true e)
number-goes-on (body h f) k e = absurd (false≢true e)
number-goes-on (state_number h f rs) k e = refl
number-goes-on (edges h f rs r) k e = edge-goes-on h f rs r k (edges h f rs r) e
number-goes-on (target h f rs r t) k e = edge-goes-on h f rs (r ++ (plain t ∷ [])) k (target h f rs r t) e
number-goes-on (braces h f rs r t ms) k e = refl
number-goes-on (finished x) k e = absurd (false≢true e)

at_end : {stick : ℕ → Bool} {p : Spot At} {v : At} → Lands offers stick p v → is_finished v ≡ true → (bar : Bool) × (p ≡ between bar v)
at_end (free s) h = (false, refl)
at_end (barred s f) h = (true, refl)
at_end (counted s n e f) h = absurd (false≢true (sym (number-goes-on s n e) ∙ h))

-- ---- a text of the subset is taken
pub taken : (text : List ℕ) (d : Document) → Says text d → (bar : Bool) × (run offers first text ≡ between bar (finished d))
unfolding first
taken text d s =
    let g = taken-tokens d (lawful-parts d s.lawful_is) in
    let g' = subst (λ (ts : List Token). Goes offers hoa ts (finished d)) (sym s.tokens_are) g in
    let o : Lands offers none (between false hoa) hoa = free hoa in
    let l = forth offers fine s.spaced s.last o g' s.gaps_are s.last_white in
    subst (λ (t : List ℕ). (bar : Bool) × (run offers (between false hoa) t ≡ between bar (finished d))) (sym s.text_is) (at_end l.1 refl)

-- ---- and what is taken is a text of the subset
lawful-whole : (x : Document) → Lawful x → lawful x ≡ true
unfolding lawful letters
lawful-whole x l =
    let a : Bool = ltb x.states 2147483648 in let b : Bool = ltb x.start x.states in let c : Bool = leb (length x.names) 3 in let e : Bool = all quotable x.names in
    let g : Bool = different [] x.names in let i : Bool = leb x.sets 32 in let j : Bool = formed x.sets x.formula in let k : Bool = eqb (length x.rows) x.states in
    let m : Bool = all (lawful_row x.states x.sets (2 ^ length x.names)) x.rows in
    both (a && b && c && e && g && i && j && k) m
    (both (a && b && c && e && g && i && j) k
    (both (a && b && c && e && g && i) j
    (both (a && b && c && e && g) i
    (both (a && b && c && e) g
    (both (a && b && c) e
    (both (a && b) c
    (both a b (lt_yes x.states 2147483648 l.small) (lt_yes x.start x.states l.start_is))
    (le_yes (length x.names) 3 (omega (arith, l.few_names)))) l.quotable_are) l.different_are)
    (le_yes x.sets 32 (omega (arith, l.few_sets)))) l.formed_is) (≡eqb (length x.rows) x.states l.count_is)) l.rows_are

pub said-back : (text : List ℕ) (bar : Bool) (d : Document) → run offers first text ≡ between bar (finished d) → Says text d
unfolding first printed
said-back text bar d h =
    let t = back offers bar (finished d) text (between false hoa) h in
    record {
      lawful_is = lawful-whole d (keeps-all t.goes tt);
      spaced = t.spaced;
      tokens_are = sym (told_back t.goes);
      gaps_are = t.apart_is;
      last = t.last;
      last_white = t.last_white;
      text_is = t.text_is;
    }

-- ---- where it is alive some text of the subset goes on
abbrev Alive : Spot At → Type 0
Alive p = Live offers Sound (λ s u t l x. keeps l x) p

-- a space before each token
abbrev spread : List Token → List Spaced
spread [] = []
spread (t ∷ ts) = record { gap = 32 ∷ []; token = t } ∷ spread ts

spread-tokens : (ts : List Token) → map (λ (x : Spaced). x.token) (spread ts) ≡ ts
spread-tokens [] = refl
spread-tokens (t ∷ ts) = ap (λ (l : List Token). t ∷ l) (spread-tokens ts)

spread-apart : (stick : ℕ → Bool) (ts : List Token) → apart stick (spread ts) ≡ true
unfolding apart white
spread-apart stick [] = refl
spread-apart stick (t ∷ ts) = spread-apart (sticks t) ts

pub completion : (p : Spot At) → Alive p → (z : List ℕ) × (bar : Bool) × (d : Document) × (run offers p z ≡ between bar (finished d))
completion p x =
    let l = leaves offers Sound (λ s u t l x. keeps l x) p x in
    let e = finish l.state l.sound in
    let g = subst (λ (ts : List Token). Goes offers l.state ts (finished e.document)) (sym (spread-tokens e.tokens)) e.goes in
    let f = forth offers fine (spread e.tokens) [] l.lands g (spread-apart l.stick e.tokens) refl in
    let k = at_end f.1 refl in
    (l.bytes ++ (written (spread e.tokens) ++ []), k.0, e.document, run-append offers p l.bytes (written (spread e.tokens) ++ []) ∙ k.1)

pub begins : (start : List ℕ) → Alive (run offers first start) → Begins start
begins start x =
    let c = completion (run offers first start) x in
    record { rest = c.0; document = c.2; says = said-back (start ++ c.0) c.1 c.2 (run-append offers first start c.0 ∙ c.3) }

-- ---- how far it is alive
alive-dead : (p : Spot At) → Alive p → is_dead p ≡ false
alive-dead (between b s) x = refl
alive-dead (in_word y r a) x = refl
alive-dead (digits s n) x = refl
alive-dead (in_name s q b) x = refl
alive-dead dead x = absurd x

alive-within : (bs : List ℕ) (p : Spot At) → alive_for bs p ≤ length bs
unfolding alive_for
alive-within [] p = omega arith
alive-within (b ∷ bs) p = step (is_dead (step_byte offers p b)) (alive-within bs (step_byte offers p b))
  where
    step : (x : Bool) → alive_for bs (step_byte offers p b) ≤ length bs → cond x 0 (suc (alive_for bs (step_byte offers p b))) ≤ suc (length bs)
    step true h = omega arith
    step false h = omega arith

alive-live : (bs : List ℕ) (p : Spot At) → Alive p → Alive (run offers p (take (alive_for bs p) bs))
unfolding alive_for
alive-live [] p x = x
alive-live (b ∷ bs) p x = step (step-fine offers Sound (λ s u t l x. keeps l x) p b x) (λ y. alive-live bs (step_byte offers p b) y)
  where
    step : (step_byte offers p b ≡ dead) ⊎ Alive (step_byte offers p b) → (Alive (step_byte offers p b) → Alive (run offers (step_byte offers p b) (take (alive_for bs (step_byte offers p b)) bs)))
        → Alive (run offers p (take (cond (is_dead (step_byte offers p b)) 0 (suc (alive_for bs (step_byte offers p b)))) (b ∷ bs)))
    step (inl e) ih = subst (λ (u : Bool). Alive (run offers p (take (cond u 0 (suc (alive_for bs (step_byte offers p b)))) (b ∷ bs)))) (sym (ap is_dead e)) x
    step (inr y) ih = subst (λ (u : Bool). Alive (run offers p (take (cond u 0 (suc (alive_for bs (step_byte offers p b)))) (b ∷ bs)))) (sym (alive-dead (step_byte offers p b) y)) (ih y)

dead-is : (p : Spot At) → is_dead p ≡ true → p ≡ dead
dead-is (between b s) h = absurd (false≢true h)
dead-is (in_word y r a) h = absurd (false≢true h)
dead-is (digits s n) h = absurd (false≢true h)
dead-is (in_name s q b) h = absurd (false≢true h)
dead-is dead h = refl

dead-past : (bs : List ℕ) (p : Spot At) (m : ℕ) → alive_for bs p < m → m ≤ length bs → run offers p (take m bs) ≡ dead
unfolding alive_for
dead-past bs p zero h l = absurd (omega (arith, h))
dead-past [] p (suc m) h l = absurd (omega (arith, l))
dead-past (b ∷ bs) p (suc m) h l = step (test (is_dead (step_byte offers p b))) h (λ g. dead-past bs (step_byte offers p b) m g (omega arith))
  where
    step : (is_dead (step_byte offers p b) ≡ true) ⊎ (is_dead (step_byte offers p b) ≡ false) → cond (is_dead (step_byte offers p b)) 0 (suc (alive_for bs (step_byte offers p b))) < suc m
        → (alive_for bs (step_byte offers p b) < m → run offers (step_byte offers p b) (take m bs) ≡ dead) → run offers (step_byte offers p b) (take m bs) ≡ dead
    step (inl t) g ih = ap (λ (q : Spot At). run offers q (take m bs)) (dead-is (step_byte offers p b) t) ∙ dead-stays offers (take m bs)
    step (inr f) g ih = let g' = rw f at g in ih (omega (arith, g'))

first-alive : Alive first
unfolding first
first-alive = tt

pub longest : (text : List ℕ) → Longest text (alive_for text first)
longest text = record {
  within = alive-within text first;
  shared = begins (take (alive_for text first) text) (alive-live text first first-alive);
  most = λ m l k b.
      let t = taken (take m text ++ b.rest) b.document b.says in
      let e : run offers first (take m text ++ b.rest) ≡ dead = run-append offers first (take m text) b.rest ∙ (ap (λ (p : Spot At). run offers p b.rest) (dead-past text first m l k) ∙ dead-stays offers b.rest) in
      true≢false (ap is_dead (sym e ∙ t.1));
}

-- ---- the answer
answer-other : (x : Answer) (s : At) → ((d : Document) → s ≡ finished d → ⊥) → answer_in x s ≡ x
answer-other x hoa z = refl
answer-other x v1 z = refl
answer-other x states_word z = refl
answer-other x states_number z = refl
answer-other x (start_word n) z = refl
answer-other x (start_number n) z = refl
answer-other x (ap_word n i) z = refl
answer-other x (ap_number n i) z = refl
answer-other x (naming n i left ns) z = refl
answer-other x (sets_number n i ns) z = refl
answer-other x (operand h hs o) z = refl
answer-other x (opening h hs o b) z = refl
answer-other x (mark h hs o b) z = refl
answer-other x (closing h hs o b m) z = refl
answer-other x (after h hs l) z = refl
answer-other x (body h f) z = refl
answer-other x (state_number h f rs) z = refl
answer-other x (edges h f rs r) z = refl
answer-other x (target h f rs r t) z = refl
answer-other x (braces h f rs r t ms) z = refl
answer-other x (finished d) h = absurd (h d refl)

answer-none : (x : Answer) (p : Spot At) → ((bar : Bool) (d : Document) → p ≡ between bar (finished d) → ⊥) → answer_at x p ≡ x
answer-none x (between b s) h = answer-other x s (λ d e. h b d (ap (between b) e))
answer-none x (in_word y r a) h = refl
answer-none x (digits s n) h = refl
answer-none x (in_name s q b) h = refl
answer-none x dead h = refl

pub answers : (text : List ℕ) → Answers text (hanoi_of text)
unfolding hanoi_of
answers text = record {
  said = λ d s. ap (answer_at (refused NotHanoi (alive_for text first))) (taken text d s).1;
  unsaid = λ n. (alive_for text first, longest text, answer-none (refused NotHanoi (alive_for text first)) (run offers first text) (λ bar d e. n d (said-back text bar d e)));
}
