-- The reader takes the tokens of each lawful document, and ends with that document.
use Prim.Native.Nat.{ℕ, zero, suc, ◌+◌, ◌^◌, ◌≤◌, ◌<◌}
use native.Mathlib.Omega.{arith}
use mathlib.Core.Path.{◌≡◌, refl, sym, ◌∙◌, subst}
use mathlib.Core.Bool.{Bool, true, false, not, ◌&&◌, ◌||◌, cond, true≢false}
use mathlib.Core.List.{List, [], ◌∷◌, ◌++◌, map, append_assoc, append-nil, Memᴰ}
use lib.Dec.{eqb, ltb, leb}
use lib.ListN.{length, length-append}
use Rattle.lists.specs.Lists.{all, any, flat}
use Rattle.lists.proofs.Bools.{and_l, and_r, both, not-true, eqb≡, ≡eqb, neqb, lt-true, le-true}
use Rattle.hanoi.specs.Texts.{Token, word, number, quoted, decimal, quotable}
use Rattle.hanoi.specs.Words as w
use Rattle.hanoi.specs.Documents as d
use Rattle.hanoi.specs.Documents.{Formula, truth, inf, fin, group, either, Edge, plain, marked, Document, formula_tokens, edge_tokens, row_tokens, tokens_of, is_either, is_both, formed, different, letters, lawful_edge, lawful_row, lawful}
use Rattle.hanoi.specs.Offers.{Choice, Numbers, below, exactly, starts_with, takes, ends, takes_name, is_new, numbered, named, Leads, by_word, by_number, by_name, Goes, stop, go}
use Rattle.hanoi.specs.Reader.{Hole, fresh, or_else, and_also, or_and, Level, alone, beside, Head, At, hoa, v1, states_word, states_number, start_word, start_number, ap_word, ap_number, naming, sets_number, operand, opening, mark, closing, after, body, state_number, edges, target, braces, finished, plug, whole, and_then, marking, document_of, on, row_over, edge_next, row_next, marks_next, close, names_next, offers}
use Rattle.hanoi.proofs.Digits.{lt_yes, lt_no, starts-all}
use Rattle.hanoi.proofs.Forth.{distinct}

-- ---- the words that a state offers begin with different bytes
row_fine : (h : Head) (f : Formula) (rs : List (List Edge)) (r : List Edge) → (distinct (row_next h f rs r) ≡ true) × ((a : At) → distinct (on w.Left a ∷ row_next h f rs r) ≡ true)
unfolding row_next
row_fine h f rs r = step (row_over h r) (ltb (length rs + 1) h.states)
  where
    step : (x y : Bool) → (distinct (cond x (cond y (on w.State (state_number h f (rs ++ (r ∷ []))) ∷ []) (on w.End (finished (document_of h f (rs ++ (r ∷ [])))) ∷ [])) []) ≡ true)
        × ((a : At) → distinct (on w.Left a ∷ cond x (cond y (on w.State (state_number h f (rs ++ (r ∷ []))) ∷ []) (on w.End (finished (document_of h f (rs ++ (r ∷ [])))) ∷ [])) []) ≡ true)
    step true true = (refl, λ a. refl)
    step true false = (refl, λ a. refl)
    step false y = (refl, λ a. refl)

pub fine : (s : At) → distinct (offers s).choices ≡ true
unfolding offers names_next marks_next close
fine hoa = refl
fine v1 = refl
fine states_word = refl
fine states_number = refl
fine (start_word n) = refl
fine (start_number n) = refl
fine (ap_word n i) = refl
fine (ap_number n i) = refl
fine (naming n i zero ns) = refl
fine (naming n i (suc left) ns) = refl
fine (sets_number n i ns) = refl
fine (operand h hs o) = step (ltb 0 h.sets)
  where
    step : (x : Bool) → distinct (on w.Opens (operand h (o ∷ hs) fresh) ∷ on w.Yes (after h hs (plug o (truth true))) ∷ on w.No (after h hs (plug o (truth false))) ∷
        cond x (on w.Inf (opening h hs o true) ∷ on w.Fin (opening h hs o false) ∷ []) []) ≡ true
    step true = refl
    step false = refl
fine (opening h hs o b) = refl
fine (mark h hs o b) = refl
fine (closing h hs o b m) = refl
fine (after h [] l) = refl
fine (after h (o ∷ hs) l) = refl
fine (body h f) = refl
fine (state_number h f rs) = refl
fine (edges h f rs r) = (row_fine h f rs r).0
fine (target h f rs r t) = (row_fine h f rs (r ++ (plain t ∷ []))).1 (braces h f rs r t [])
fine (braces h f rs r t ms) = refl
fine (finished x) = refl

-- ---- steps
pub goes-append : {s u v : At} {a b : List Token} → Goes offers s a u → Goes offers u b v → Goes offers s (a ++ b) v
goes-append stop g = g
goes-append (go l r) g = go l (goes-append r g)

pub goes_one : {s u : At} {t : Token} → Leads offers s t u → Goes offers s (t ∷ []) u
goes_one l = go l stop

pub by-below : (s : At) (some : Bool) (k n : ℕ) (g : ℕ → At) → (offers s).numbers ≡ below some k g → n < k → n < 2147483648 → (not some || ltb 0 n) ≡ true → Leads offers s (number n) (g n)
unfolding takes ends numbered
by-below s some k n g e l m p =
    subst (λ (x : Numbers At). Leads offers s (number n) (numbered x n s)) e
    (by_number n
    (subst (λ (x : Numbers At). takes x n ≡ true) (sym e) (both (ltb n 2147483648 && ltb n k) (not some || ltb 0 n) (both (ltb n 2147483648) (ltb n k) (lt_yes n 2147483648 m) (lt_yes n k l)) p))
    (subst (λ (x : Numbers At). ends x n ≡ true) (sym e) refl))

pub by-exactly : (s : At) (k : ℕ) (a : At) → (offers s).numbers ≡ exactly k a → k < 2147483648 → Leads offers s (number k) a
unfolding takes ends numbered
by-exactly s k a e m =
    subst (λ (x : Numbers At). Leads offers s (number k) (numbered x k s)) e
    (by_number k
    (subst (λ (x : Numbers At). takes x k ≡ true) (sym e) (both (ltb k 2147483648 && ltb k 2147483648) (starts_with (decimal k) (decimal k)) (both (ltb k 2147483648) (ltb k 2147483648) (lt_yes k 2147483648 m) (lt_yes k 2147483648 m)) (starts-all (decimal k))))
    (subst (λ (x : Numbers At). ends x k ≡ true) (sym e) (≡eqb k k refl)))

-- ---- names
pub names-read : (n i : ℕ) (ns rest : List (List ℕ)) → all quotable rest ≡ true → different ns rest ≡ true → Goes offers (naming n i (length rest) ns) (map quoted rest) (naming n i 0 (ns ++ rest))
unfolding different offers names_next takes_name is_new named
names-read n i ns [] q h = subst (λ (l : List (List ℕ)). Goes offers (naming n i 0 ns) [] (naming n i 0 l)) (sym (append-nil ns)) stop
names-read n i ns (s ∷ rest) q h =
    go (by_name s refl (and_l (quotable s) (all quotable rest) q) (and_l (not (any (d.same_bytes s) ns)) (different (ns ++ (s ∷ [])) rest) h))
    (subst (λ (l : List (List ℕ)). Goes offers (naming n i (length rest) (ns ++ (s ∷ []))) (map quoted rest) (naming n i 0 l)) (append_assoc ns (s ∷ []) rest)
    (names-read n i (ns ++ (s ∷ [])) rest (and_r (quotable s) (all quotable rest) q) (and_r (not (any (d.same_bytes s) ns)) (different (ns ++ (s ∷ [])) rest) h)))

-- ---- formulas
-- what stands on a level behind f
abbrev pub parted : Formula → Level
parted (truth b) = alone (truth b)
parted (inf m) = alone (inf m)
parted (fin m) = alone (fin m)
parted (group f) = alone (group f)
parted (d.both f g) = alone (d.both f g)
parted (either f g) = beside f g

pub whole-parted : (f : Formula) → whole (parted f) ≡ f
unfolding whole
whole-parted (truth b) = refl
whole-parted (inf m) = refl
whole-parted (fin m) = refl
whole-parted (group f) = refl
whole-parted (d.both f g) = refl
whole-parted (either f g) = refl

parted-alone : (f : Formula) → is_either f ≡ false → parted f ≡ alone f
parted-alone (truth b) h = refl
parted-alone (inf m) h = refl
parted-alone (fin m) h = refl
parted-alone (group f) h = refl
parted-alone (d.both f g) h = refl
parted-alone (either f g) h = absurd (true≢false h)

pub formed-both : (sets : ℕ) (f g : Formula) → formed sets (d.both f g) ≡ true → (is_either f ≡ false) × (is_either g ≡ false) × (is_both g ≡ false) × (formed sets f ≡ true) × (formed sets g ≡ true)
unfolding formed
formed-both sets f g h =
    let a : Bool = not (is_either f) in let b : Bool = not (is_either g) in let e : Bool = not (is_both g) in let c : Bool = formed sets f in let x : Bool = formed sets g in
    let h₃ = and_l (a && b && e && c) x h in
    let h₂ = and_l (a && b && e) c h₃ in
    let h₁ = and_l (a && b) e h₂ in
    (not-true (is_either f) (and_l a b h₁), not-true (is_either g) (and_r a b h₁), not-true (is_both g) (and_r (a && b) e h₂), and_r (a && b && e) c h₃, and_r (a && b && e && c) x h)

pub formed-either : (sets : ℕ) (f g : Formula) → formed sets (either f g) ≡ true → (is_either g ≡ false) × (formed sets f ≡ true) × (formed sets g ≡ true)
unfolding formed
formed-either sets f g h =
    let b : Bool = not (is_either g) in let c : Bool = formed sets f in let x : Bool = formed sets g in
    let h₂ = and_l (b && c) x h in
    (not-true (is_either g) (and_l b c h₂), and_r b c h₂, and_r (b && c) x h)

module _ (h : Head) (few : h.sets < 33) where
  marks-in : (hs : List Hole) (o : Hole) → 0 < h.sets → marks_next h hs o ≡ on w.Inf (opening h hs o true) ∷ on w.Fin (opening h hs o false) ∷ []
  unfolding marks_next
  marks-in hs o p = rw (lt_yes 0 h.sets p) refl

  mark-read : (hs : List Hole) (o : Hole) (b : Bool) (m : ℕ) → m < h.sets → Goes offers (opening h hs o b) (word w.Opens ∷ number m ∷ word w.Closes ∷ []) (after h hs (plug o (marking b m)))
  unfolding offers
  mark-read hs o b m l =
      go (by_word (on w.Opens (mark h hs o b)) (Memᴰ.head refl)) (go (by-below (mark h hs o b) false h.sets m (closing h hs o b) refl l (omega arith) refl)
      (go (by_word (on w.Closes (after h hs (plug o (marking b m)))) (Memᴰ.head refl)) stop))

  -- an operand in any place, a conjunction first on its level or behind |, and a whole level
  atom-or : (hs : List Hole) (f : Formula) → formed h.sets f ≡ true
      → (is_either f ≡ false → is_both f ≡ false → (o : Hole) → Goes offers (operand h hs o) (formula_tokens f) (after h hs (plug o f)))
      × (is_either f ≡ false → (e : Formula) → Goes offers (operand h hs (or_else e)) (formula_tokens f) (after h hs (beside e f)))
      × Goes offers (operand h hs fresh) (formula_tokens f) (after h hs (parted f))
  unfolding offers plug formed close and_then marking
  atom-or hs (truth true) k =
      (λ _ _ o. goes_one (by_word (on w.Yes (after h hs (plug o (truth true)))) (Memᴰ.tail (Memᴰ.head refl))), λ _ e. goes_one (by_word (on w.Yes (after h hs (beside e (truth true)))) (Memᴰ.tail (Memᴰ.head refl))), goes_one (by_word (on w.Yes (after h hs (alone (truth true)))) (Memᴰ.tail (Memᴰ.head refl))))
  atom-or hs (truth false) k =
      (λ _ _ o. goes_one (by_word (on w.No (after h hs (plug o (truth false)))) (Memᴰ.tail (Memᴰ.tail (Memᴰ.head refl)))), λ _ e. goes_one (by_word (on w.No (after h hs (beside e (truth false)))) (Memᴰ.tail (Memᴰ.tail (Memᴰ.head refl)))), goes_one (by_word (on w.No (after h hs (alone (truth false)))) (Memᴰ.tail (Memᴰ.tail (Memᴰ.head refl)))))
  atom-or hs (inf m) k = (λ _ _ o. one o, λ _ e. one (or_else e), one fresh)
    where
      l : m < h.sets
      l = lt-true m h.sets k

      one : (o : Hole) → Goes offers (operand h hs o) (formula_tokens (inf m)) (after h hs (plug o (inf m)))
      one o = go (by_word (on w.Inf (opening h hs o true)) (Memᴰ.tail (Memᴰ.tail (Memᴰ.tail (subst (λ (c : List (Choice At)). Memᴰ (on w.Inf (opening h hs o true)) c) (sym (marks-in hs o (omega (arith, l)))) (Memᴰ.head refl)))))) (mark-read hs o true m l)
  atom-or hs (fin m) k = (λ _ _ o. one o, λ _ e. one (or_else e), one fresh)
    where
      l : m < h.sets
      l = lt-true m h.sets k

      one : (o : Hole) → Goes offers (operand h hs o) (formula_tokens (fin m)) (after h hs (plug o (fin m)))
      one o = go (by_word (on w.Fin (opening h hs o false)) (Memᴰ.tail (Memᴰ.tail (Memᴰ.tail (subst (λ (c : List (Choice At)). Memᴰ (on w.Fin (opening h hs o false)) c) (sym (marks-in hs o (omega (arith, l)))) (Memᴰ.tail (Memᴰ.head refl))))))) (mark-read hs o false m l)
  atom-or hs (group f) k = (λ _ _ o. one o (atom-or (o ∷ hs) f k).2, λ _ e. one (or_else e) (atom-or (or_else e ∷ hs) f k).2, one fresh (atom-or (fresh ∷ hs) f k).2)
    where
      one : (o : Hole) → Goes offers (operand h (o ∷ hs) fresh) (formula_tokens f) (after h (o ∷ hs) (parted f)) → Goes offers (operand h hs o) (formula_tokens (group f)) (after h hs (plug o (group f)))
      one o r =
          go (by_word (on w.Opens (operand h (o ∷ hs) fresh)) (Memᴰ.head refl))
          (goes-append r
          (subst (λ (x : Formula). Goes offers (after h (o ∷ hs) (parted f)) (word w.Closes ∷ []) (after h hs (plug o (group x)))) (whole-parted f)
          (goes_one (by_word (on w.Closes (after h hs (plug o (group (whole (parted f)))))) (Memᴰ.tail (Memᴰ.tail (Memᴰ.head refl)))))))
  atom-or hs (d.both f g) k =
      let p = formed-both h.sets f g k in
      let rf = atom-or hs f p.3 in
      let rg = atom-or hs g p.4 in (
        λ _ n. absurd (true≢false n),
        λ _ e. goes-append (rf.1 p.0 e) (go (by_word (on w.And (operand h hs (or_and e f))) (Memᴰ.head refl)) (rg.0 p.1 p.2 (or_and e f))),
        goes-append (subst (λ (x : Level). Goes offers (operand h hs fresh) (formula_tokens f) (after h hs x)) (parted-alone f p.0) rf.2) (go (by_word (on w.And (operand h hs (and_also f))) (Memᴰ.head refl)) (rg.0 p.1 p.2 (and_also f))),
      )
  atom-or hs (either f g) k =
      let p = formed-either h.sets f g k in
      let rf = atom-or hs f p.1 in
      let rg = atom-or hs g p.2 in (
        λ n. absurd (true≢false n),
        λ n. absurd (true≢false n),
        goes-append rf.2
            (go (subst (λ (x : Formula). Leads offers (after h hs (parted f)) (word w.Or) (operand h hs (or_else x))) (whole-parted f) (by_word (on w.Or (operand h hs (or_else (whole (parted f))))) (Memᴰ.tail (Memᴰ.head refl))))
            (rg.1 p.0 f)),
      )

  pub formula-read : (f : Formula) → formed h.sets f ≡ true → Goes offers (operand h [] fresh) (formula_tokens f ++ (word w.Body ∷ [])) (body h f)
  unfolding offers close
  formula-read f k =
      goes-append (atom-or [] f k).2
      (subst (λ (x : Formula). Goes offers (after h [] (parted f)) (word w.Body ∷ []) (body h x)) (whole-parted f)
      (goes_one (by_word (on w.Body (body h (whole (parted f)))) (Memᴰ.tail (Memᴰ.tail (Memᴰ.head refl))))))

-- ---- edges and rows
module _ (h : Head) (f : Formula) (small : h.states < 2147483648) (few : h.sets < 33) where
  -- a state of the reader behind the edges r of the state after the rows rs
  pub record Stands (rs : List (List Edge)) (r : List Edge) (s : At) : Type 0 where
    pub numbers_are : (offers s).numbers ≡ edge_next h f rs r
    pub words_are : (c : Choice At) → Memᴰ c (row_next h f rs r) → Memᴰ c (offers s).choices

  pub edges-stand : (rs : List (List Edge)) (r : List Edge) → Stands rs r (edges h f rs r)
  unfolding offers
  edges-stand rs r = record { numbers_are = refl; words_are = λ c m. m }

  pub target-stands : (rs : List (List Edge)) (r : List Edge) (t : ℕ) → Stands rs (r ++ (plain t ∷ [])) (target h f rs r t)
  unfolding offers
  target-stands rs r t = record { numbers_are = refl; words_are = λ c m. Memᴰ.tail m }

  pub target-read : (rs : List (List Edge)) (r : List Edge) (s : At) (t : ℕ) → Stands rs r s → length r < 2 ^ length h.names → t < h.states → Leads offers s (number t) (target h f rs r t)
  unfolding edge_next row_over
  target-read rs r s t x l k =
      by-below s false h.states t (target h f rs r) (x.numbers_are ∙ (rw (neqb (length r) (2 ^ length h.names) (λ e. omega (arith, e))) refl)) k (omega arith) refl

  marks-read : (rs : List (List Edge)) (r : List Edge) (t : ℕ) (ms more : List ℕ) → all (λ m. ltb m h.sets) more ≡ true → Goes offers (braces h f rs r t ms) (map number more ++ (word w.Right ∷ [])) (edges h f rs (r ++ (marked t (ms ++ more) ∷ [])))
  unfolding offers
  marks-read rs r t ms [] k =
      subst (λ (l : List ℕ). Goes offers (braces h f rs r t ms) (word w.Right ∷ []) (edges h f rs (r ++ (marked t l ∷ [])))) (sym (append-nil ms))
      (goes_one (by_word (on w.Right (edges h f rs (r ++ (marked t ms ∷ [])))) (Memᴰ.head refl)))
  marks-read rs r t ms (m ∷ more) k =
      let l = lt-true m h.sets (and_l (ltb m h.sets) (all (λ m. ltb m h.sets) more) k) in
      go (by-below (braces h f rs r t ms) false h.sets m (λ m. braces h f rs r t (ms ++ (m ∷ []))) refl l (omega (arith, l)) refl)
      (subst (λ (x : List ℕ). Goes offers (braces h f rs r t (ms ++ (m ∷ []))) (map number more ++ (word w.Right ∷ [])) (edges h f rs (r ++ (marked t x ∷ [])))) (append_assoc ms (m ∷ []) more)
      (marks-read rs r t (ms ++ (m ∷ [])) more (and_r (ltb m h.sets) (all (λ m. ltb m h.sets) more) k)))

  edge-read : (rs : List (List Edge)) (r : List Edge) (s : At) (e : Edge) → Stands rs r s → length r < 2 ^ length h.names → lawful_edge h.states h.sets e ≡ true
      → (u : At) × Goes offers s (edge_tokens e) u × Stands rs (r ++ (e ∷ [])) u
  unfolding lawful_edge offers
  edge-read rs r s (plain t) x l k = (target h f rs r t, goes_one (target-read rs r s t x l (lt-true t h.states (and_l (ltb t h.states) true k))), target-stands rs r t)
  edge-read rs r s (marked t ms) x l k =
      let b : Bool = all (λ m. ltb m h.sets) ms in (
        edges h f rs (r ++ (marked t ms ∷ [])),
        go (target-read rs r s t x l (lt-true t h.states (and_l (ltb t h.states) b k)))
            (go (by_word (on w.Left (braces h f rs r t [])) (Memᴰ.head refl)) (marks-read rs r t [] ms (and_r (ltb t h.states) b k))),
        edges-stand rs (r ++ (marked t ms ∷ [])),
      )

  pub edges-read : (rs : List (List Edge)) (r es : List Edge) (s : At) → Stands rs r s → length r + length es ≤ 2 ^ length h.names → all (lawful_edge h.states h.sets) es ≡ true
      → (u : At) × Goes offers s (flat (map edge_tokens es)) u × Stands rs (r ++ es) u
  edges-read rs r [] s x l k = (s, stop, subst (λ (y : List Edge). Stands rs y s) (sym (append-nil r)) x)
  edges-read rs r (e ∷ es) s x l k =
      let a = edge-read rs r s e x (omega arith) (and_l (lawful_edge h.states h.sets e) (all (lawful_edge h.states h.sets) es) k) in
      let b = edges-read rs (r ++ (e ∷ [])) es a.0 a.2 (simp length-append (omega arith)) (and_r (lawful_edge h.states h.sets e) (all (lawful_edge h.states h.sets) es) k) in
      (b.0, goes-append a.1 b.1, subst (λ (y : List Edge). Stands rs y b.0) (append_assoc r (e ∷ []) es) b.2)

  -- a state of the reader behind whole rows
  pub record Ready (rs : List (List Edge)) (s : At) : Type 0 where
    pub on_is : length rs < h.states → Memᴰ (on w.State (state_number h f rs)) (offers s).choices
    pub over_is : length rs ≡ h.states → Memᴰ (on w.End (finished (document_of h f rs))) (offers s).choices

  pub row-ready : (rs : List (List Edge)) (r : List Edge) (s : At) → length rs < h.states → length r ≡ 2 ^ length h.names → Stands rs r s → Ready (rs ++ (r ∷ [])) s
  unfolding row_next row_over
  row-ready rs r s b e x =
      let i : length (rs ++ (r ∷ [])) ≡ length rs + 1 = simp length-append refl in
      record {
        on_is = λ l. x.words_are (on w.State (state_number h f (rs ++ (r ∷ [])))) (rw (≡eqb (length r) (2 ^ length h.names) e, lt_yes (length rs + 1) h.states (omega (arith, l, i))) (Memᴰ.head refl));
        over_is = λ l. x.words_are (on w.End (finished (document_of h f (rs ++ (r ∷ []))))) (rw (≡eqb (length r) (2 ^ length h.names) e, lt_no (length rs + 1) h.states (omega (arith, l, i))) (Memᴰ.head refl));
      }

  pub body-ready : 0 < h.states → Ready [] (body h f)
  unfolding offers
  body-ready p = record { on_is = λ _. Memᴰ.head refl; over_is = λ e. absurd (omega (arith, e)) }

  pub rows-read : (rs more : List (List Edge)) (s : At) → Ready rs s → length rs + length more ≡ h.states → all (lawful_row h.states h.sets (2 ^ length h.names)) more ≡ true
      → Goes offers s (row_tokens (length rs) more ++ (word w.End ∷ [])) (finished (document_of h f (rs ++ more)))
  unfolding lawful_row offers
  rows-read rs [] s x l k =
      subst (λ (y : List (List Edge)). Goes offers s (word w.End ∷ []) (finished (document_of h f y))) (sym (append-nil rs))
      (goes_one (by_word (on w.End (finished (document_of h f rs))) (x.over_is (omega arith))))
  rows-read rs (r ∷ more) s x l k =
      let p : Bool = eqb (length r) (2 ^ length h.names) in
      let q : Bool = all (lawful_edge h.states h.sets) r in
      let y : Bool = all (lawful_row h.states h.sets (2 ^ length h.names)) more in
      let e = eqb≡ (length r) (2 ^ length h.names) (and_l p q (and_l (p && q) y k)) in
      let a = edges-read rs [] r (edges h f rs []) (edges-stand rs []) (omega (arith, e)) (and_r p q (and_l (p && q) y k)) in
      let i : length (rs ++ (r ∷ [])) ≡ suc (length rs) = simp length-append (omega arith) in
      let b = rows-read (rs ++ (r ∷ [])) more a.0 (row-ready rs r a.0 (omega arith) e a.2) (omega (arith, i)) (and_r (p && q) y k) in
      let c = subst (λ (y : List (List Edge)). Goes offers a.0 (row_tokens (length (rs ++ (r ∷ []))) more ++ (word w.End ∷ [])) (finished (document_of h f y))) (append_assoc rs (r ∷ []) more) b in
      let c' = subst (λ (n : ℕ). Goes offers a.0 (row_tokens n more ++ (word w.End ∷ [])) (finished (document_of h f (rs ++ (r ∷ more))))) i c in
      go (by_word (on w.State (state_number h f rs)) (x.on_is (omega arith)))
      (go (by-exactly (state_number h f rs) (length rs) (edges h f rs []) refl (omega arith))
      (subst (λ (ts : List Token). Goes offers (edges h f rs []) ts (finished (document_of h f (rs ++ (r ∷ more))))) (sym (append_assoc (flat (map edge_tokens r)) (row_tokens (suc (length rs)) more) (word w.End ∷ [])))
      (goes-append a.1 c')))

-- ---- documents
pub record Lawful (x : Document) : Type 0 where
  pub small : x.states < 2147483648
  pub start_is : x.start < x.states
  pub few_names : length x.names < 4
  pub quotable_are : all quotable x.names ≡ true
  pub different_are : different [] x.names ≡ true
  pub few_sets : x.sets < 33
  pub formed_is : formed x.sets x.formula ≡ true
  pub count_is : length x.rows ≡ x.states
  pub rows_are : all (lawful_row x.states x.sets (2 ^ length x.names)) x.rows ≡ true

pub lawful-parts : (x : Document) → lawful x ≡ true → Lawful x
unfolding lawful letters
lawful-parts x h =
    let a : Bool = ltb x.states 2147483648 in let b : Bool = ltb x.start x.states in let c : Bool = leb (length x.names) 3 in let e : Bool = all quotable x.names in
    let g : Bool = different [] x.names in let i : Bool = leb x.sets 32 in let j : Bool = formed x.sets x.formula in let k : Bool = eqb (length x.rows) x.states in
    let l : Bool = all (lawful_row x.states x.sets (2 ^ length x.names)) x.rows in
    let h₈ = and_l (a && b && c && e && g && i && j && k) l h in
    let h₇ = and_l (a && b && c && e && g && i && j) k h₈ in
    let h₆ = and_l (a && b && c && e && g && i) j h₇ in
    let h₅ = and_l (a && b && c && e && g) i h₆ in
    let h₄ = and_l (a && b && c && e) g h₅ in
    let h₃ = and_l (a && b && c) e h₄ in
    let h₂ = and_l (a && b) c h₃ in
    record {
      small = lt-true x.states 2147483648 (and_l a b h₂);
      start_is = lt-true x.start x.states (and_r a b h₂);
      few_names = omega (arith, le-true (length x.names) 3 (and_r (a && b) c h₃));
      quotable_are = and_r (a && b && c) e h₄;
      different_are = and_r (a && b && c && e) g h₅;
      few_sets = omega (arith, le-true x.sets 32 (and_r (a && b && c && e && g) i h₆));
      formed_is = and_r (a && b && c && e && g && i) j h₇;
      count_is = eqb≡ (length x.rows) x.states (and_r (a && b && c && e && g && i && j) k h₈);
      rows_are = and_r (a && b && c && e && g && i && j && k) l h;
    }

pub taken-tokens : (x : Document) → Lawful x → Goes offers hoa (tokens_of x) (finished x)
unfolding offers tokens_of document_of names_next
taken-tokens x l =
    let n = x.states in let i = x.start in let ns = x.names in
    let h : Head = record { states = n; start = i; names = ns; sets = x.sets } in
    let r = rows-read h x.formula l.small l.few_sets [] x.rows (body h x.formula) (body-ready h x.formula l.small l.few_sets (omega (arith, l.start_is))) (omega (arith, l.count_is)) l.rows_are in
    let f = goes-append (formula-read h l.few_sets x.formula l.formed_is) r in
    let e = append_assoc (formula_tokens x.formula) (word w.Body ∷ []) (row_tokens 0 x.rows ++ (word w.End ∷ [])) in
    go (by_word (on w.Hoa v1) (Memᴰ.head refl))
    (go (by_word (on w.V1 states_word) (Memᴰ.head refl))
    (go (by_word (on w.States states_number) (Memᴰ.head refl))
    (go (by-below states_number true 2147483648 n start_word refl l.small l.small (lt_yes 0 n (omega (arith, l.start_is))))
    (go (by_word (on w.Start (start_number n)) (Memᴰ.head refl))
    (go (by-below (start_number n) false n i (ap_word n) refl l.start_is (omega (arith, l.start_is, l.small)) refl)
    (go (by_word (on w.Ap (ap_number n i)) (Memᴰ.head refl))
    (go (by-below (ap_number n i) false 4 (length ns) (λ k. naming n i k []) refl l.few_names (omega (arith, l.few_names)) refl)
    (goes-append (names-read n i [] ns l.quotable_are l.different_are)
    (go (by_word (on w.Acceptance (sets_number n i ns)) (Memᴰ.head refl))
    (go (by-below (sets_number n i ns) false 33 x.sets (λ k. operand (record { states = n; start = i; names = ns; sets = k }) [] fresh) refl l.few_sets (omega (arith, l.few_sets)) refl)
    (subst (λ (ts : List Token). Goes offers (operand h [] fresh) ts (finished x)) e f)))))))))))
