-- What holds of the document so far, in each state that the reader reaches; at its end the document is lawful.
use Prim.Native.Nat.{ℕ, zero, suc, ◌+◌, ◌^◌, ◌≤◌, ◌<◌}
use native.Mathlib.Omega.{arith}
use mathlib.Core.Path.{◌≡◌, refl, sym, ◌∙◌, subst}
use mathlib.Core.Logic.{◌⊎◌, inl, inr, ◌≢◌}
use mathlib.Core.Bool.{Bool, true, false, not, ◌&&◌, ◌||◌, cond, false≢true, true≢false}
use mathlib.Core.List.Memᴰ
use mathlib.Core.List.{List, [], ◌∷◌, ◌++◌, append_assoc, append-nil, Memᴰ}
use lib.Dec.{eqb, ltb}
use lib.ListN.{length, length-append}
use Rattle.lists.specs.Lists.{all, any}
use Rattle.lists.proofs.Bools.{test, and_l, and_r, both, eqb≡, ≡eqb, lt-true, lt-false}
use Rattle.hanoi.specs.Texts.{Token, quotable}
use Rattle.hanoi.specs.Words.{Word}
use Rattle.hanoi.specs.Words as w
use Rattle.hanoi.specs.Documents as d
use Rattle.hanoi.specs.Documents.{Formula, truth, group, Edge, plain, marked, is_either, is_both, formed, different, lawful_edge, lawful_row}
use Rattle.hanoi.specs.Offers.{Choice, no_number, below, takes, takes_name, is_new, numbered, named, Leads, by_word, by_number, by_name, Goes, stop, go}
use Rattle.hanoi.specs.Reader.{Hole, fresh, or_else, and_also, or_and, Level, alone, beside, Head, At, hoa, v1, states_word, states_number, start_word, start_number, ap_word, ap_number, naming, sets_number, operand, opening, mark, closing, after, body, state_number, edges, target, braces, finished, plug, whole, and_then, marking, document_of, on, row_over, edge_next, row_next, marks_next, close, names_next, offers}
use Rattle.hanoi.proofs.Digits.{lt_yes}
use Rattle.hanoi.proofs.Printing.{no-choice}
use Rattle.hanoi.proofs.Taking.{Lawful}

module _ {B : Type 0} where
  pub all_snoc : (p : B → Bool) (l : List B) (x : B) → all p l ≡ true → p x ≡ true → all p (l ++ (x ∷ [])) ≡ true
  all_snoc p [] x a b = both (p x) true b refl
  all_snoc p (y ∷ l) x a b = both (p y) (all p (l ++ (x ∷ []))) (and_l (p y) (all p l) a) (all_snoc p l x (and_r (p y) (all p l) a) b)

  pub all-front : (p : B → Bool) (l : List B) (x : B) → all p (l ++ (x ∷ [])) ≡ true → (all p l ≡ true) × (p x ≡ true)
  all-front p [] x a = (refl, and_l (p x) true a)
  all-front p (y ∷ l) x a =
      let r = all-front p l x (and_r (p y) (all p (l ++ (x ∷ []))) a) in
      (both (p y) (all p l) (and_l (p y) (all p (l ++ (x ∷ []))) a) r.0, r.1)

pub different-snoc : (before ns : List (List ℕ)) (q : List ℕ) → different before ns ≡ true → not (any (d.same_bytes q) (before ++ ns)) ≡ true → different before (ns ++ (q ∷ [])) ≡ true
unfolding different
different-snoc before [] q h n = both (not (any (d.same_bytes q) before)) true (subst (λ (l : List (List ℕ)). not (any (d.same_bytes q) l) ≡ true) (append-nil before) n) refl
different-snoc before (s ∷ ns) q h n =
    let a : Bool = not (any (d.same_bytes s) before) in
    both a (different (before ++ (s ∷ [])) (ns ++ (q ∷ []))) (and_l a (different (before ++ (s ∷ [])) ns) h)
    (different-snoc (before ++ (s ∷ [])) ns q (and_r a (different (before ++ (s ∷ [])) ns) h)
    (subst (λ (l : List (List ℕ)). not (any (d.same_bytes q) l) ≡ true) (sym (append_assoc before (s ∷ []) ns)) n))

-- ---- what holds
pub record SoundNames (n i left : ℕ) (ns : List (List ℕ)) : Type 0 where
  pub small : n < 2147483648
  pub start_is : i < n
  pub few : length ns + left < 4
  pub quotable_are : all quotable ns ≡ true
  pub different_are : different [] ns ≡ true

pub record SoundHead (h : Head) : Type 0 where
  pub names_are : SoundNames h.states h.start 0 h.names
  pub few_sets : h.sets < 33

abbrev pub SoundHole : ℕ → Hole → Type 0
SoundHole k fresh = Unit {0}
SoundHole k (or_else e) = formed k e ≡ true
SoundHole k (and_also g) = (formed k g ≡ true) × (is_either g ≡ false)
SoundHole k (or_and e g) = (formed k e ≡ true) × (formed k g ≡ true) × (is_either g ≡ false)

abbrev pub SoundHoles : ℕ → List Hole → Type 0
SoundHoles k [] = Unit {0}
SoundHoles k (o ∷ hs) = SoundHole k o × SoundHoles k hs

abbrev pub SoundLevel : ℕ → Level → Type 0
SoundLevel k (alone f) = (formed k f ≡ true) × (is_either f ≡ false)
SoundLevel k (beside e f) = (formed k e ≡ true) × (formed k f ≡ true) × (is_either f ≡ false)

-- in a formula, before an operand
pub record SoundPlace (h : Head) (hs : List Hole) (o : Hole) : Type 0 where
  pub head_is : SoundHead h
  pub holes_are : SoundHoles h.sets hs
  pub hole_is : SoundHole h.sets o

pub record SoundRows (h : Head) (f : Formula) (rs : List (List Edge)) : Type 0 where
  pub head_is : SoundHead h
  pub formed_is : formed h.sets f ≡ true
  pub rows_are : all (lawful_row h.states h.sets (2 ^ length h.names)) rs ≡ true
  pub more_is : length rs < h.states

pub record SoundRow (h : Head) (f : Formula) (rs : List (List Edge)) (r : List Edge) : Type 0 where
  pub rows_is : SoundRows h f rs
  pub edges_are : all (lawful_edge h.states h.sets) r ≡ true
  pub short : length r ≤ 2 ^ length h.names

abbrev pub Sound : At → Type 0
Sound hoa = Unit {0}
Sound v1 = Unit {0}
Sound states_word = Unit {0}
Sound states_number = Unit {0}
Sound (start_word n) = (0 < n) × (n < 2147483648)
Sound (start_number n) = (0 < n) × (n < 2147483648)
Sound (ap_word n i) = (i < n) × (n < 2147483648)
Sound (ap_number n i) = (i < n) × (n < 2147483648)
Sound (naming n i left ns) = SoundNames n i left ns
Sound (sets_number n i ns) = SoundNames n i 0 ns
Sound (operand h hs o) = SoundPlace h hs o
Sound (opening h hs o b) = SoundPlace h hs o × (0 < h.sets)
Sound (mark h hs o b) = SoundPlace h hs o × (0 < h.sets)
Sound (closing h hs o b m) = SoundPlace h hs o × (m < h.sets)
Sound (after h hs l) = SoundHead h × SoundHoles h.sets hs × SoundLevel h.sets l
Sound (body h f) = SoundHead h × (formed h.sets f ≡ true)
Sound (state_number h f rs) = SoundRows h f rs
Sound (edges h f rs r) = SoundRow h f rs r
Sound (target h f rs r t) = SoundRow h f rs (r ++ (plain t ∷ []))
Sound (braces h f rs r t ms) = SoundRow h f rs (r ++ (marked t ms ∷ []))
Sound (finished x) = Lawful x

-- ---- formulas
joined : (k : ℕ) (g f : Formula) → formed k g ≡ true → is_either g ≡ false → formed k f ≡ true → is_either f ≡ false → is_both f ≡ false → formed k (d.both g f) ≡ true
unfolding formed
joined k g f a b c e i =
    both (not (is_either g) && not (is_either f) && not (is_both f) && formed k g) (formed k f)
    (both (not (is_either g) && not (is_either f) && not (is_both f)) (formed k g) (rw (b, e, i) refl) a) c

plug-sound : (k : ℕ) (o : Hole) (f : Formula) → SoundHole k o → formed k f ≡ true → is_either f ≡ false → is_both f ≡ false → SoundLevel k (plug o f)
unfolding plug
plug-sound k fresh f s a b c = (a, b)
plug-sound k (or_else e) f s a b c = (s, a, b)
plug-sound k (and_also g) f s a b c = (joined k g f s.0 s.1 a b c, refl)
plug-sound k (or_and e g) f s a b c = (s.0, joined k g f s.1 s.2 a b c, refl)

whole-sound : (k : ℕ) (l : Level) → SoundLevel k l → formed k (whole l) ≡ true
unfolding whole formed
whole-sound k (alone f) s = s.0
whole-sound k (beside e f) s = both (not (is_either f) && formed k e) (formed k f) (both (not (is_either f)) (formed k e) (rw s.2 refl) s.0) s.1

and_sound : (k : ℕ) (l : Level) → SoundLevel k l → SoundHole k (and_then l)
unfolding and_then
and_sound k (alone f) s = s
and_sound k (beside e f) s = s

marking-sound : (k : ℕ) (b : Bool) (m : ℕ) → m < k → (formed k (marking b m) ≡ true) × (is_either (marking b m) ≡ false) × (is_both (marking b m) ≡ false)
unfolding marking formed
marking-sound k true m l = (lt_yes m k l, refl, refl)
marking-sound k false m l = (lt_yes m k l, refl, refl)

group-formed : (k : ℕ) (f : Formula) → formed k f ≡ true → formed k (group f) ≡ true
unfolding formed
group-formed k f h = h

truth-formed : (k : ℕ) (b : Bool) → formed k (truth b) ≡ true
unfolding formed
truth-formed k b = refl

-- ---- rows
row_lawful : (h : Head) (f : Formula) (rs : List (List Edge)) (r : List Edge) → SoundRow h f rs r → length r ≡ 2 ^ length h.names → all (lawful_row h.states h.sets (2 ^ length h.names)) (rs ++ (r ∷ [])) ≡ true
unfolding lawful_row
row_lawful h f rs r s e =
    all_snoc (lawful_row h.states h.sets (2 ^ length h.names)) rs r s.rows_is.rows_are
    (both (eqb (length r) (2 ^ length h.names)) (all (lawful_edge h.states h.sets) r) (≡eqb (length r) (2 ^ length h.names) e) s.edges_are)

row-sound : (h : Head) (f : Formula) (rs : List (List Edge)) (r : List Edge) (c : Choice At) → SoundRow h f rs r → Memᴰ c (row_next h f rs r) → Sound c.next
unfolding row_next row_over document_of
row-sound h f rs r c s m = step (test (eqb (length r) (2 ^ length h.names))) m
  where
    i : length (rs ++ (r ∷ [])) ≡ length rs + 1
    i = simp length-append refl

    k : ℕ
    k = 2 ^ length h.names

    later : length r ≡ 2 ^ length h.names → (ltb (length rs + 1) h.states ≡ true) ⊎ (ltb (length rs + 1) h.states ≡ false)
        → Memᴰ c (cond (ltb (length rs + 1) h.states) (on w.State (state_number h f (rs ++ (r ∷ []))) ∷ []) (on w.End (finished (document_of h f (rs ++ (r ∷ [])))) ∷ [])) → Sound c.next
    later e (inl t) n = cast (rw t at n)
      where
        cast : Memᴰ c (on w.State (state_number h f (rs ++ (r ∷ []))) ∷ []) → Sound c.next
        cast (Memᴰ.tail x6) = elim x6 [ ]
        cast (Memᴰ.head q) =
            subst (λ (x : Choice At). Sound x.next) (sym q)
            (record { head_is = s.rows_is.head_is; formed_is = s.rows_is.formed_is; rows_are = row_lawful h f rs r s e; more_is = omega (arith, i, lt-true (length rs + 1) h.states t) })
    later e (inr t) n = cast (rw t at n)
      where
        cast : Memᴰ c (on w.End (finished (document_of h f (rs ++ (r ∷ [])))) ∷ []) → Sound c.next
        cast (Memᴰ.tail x6) = elim x6 [ ]
        cast (Memᴰ.head q) =
            let g = s.rows_is.head_is in
            let ns = g.names_are in
            subst (λ (x : Choice At). Sound x.next) (sym q)
            (record {
              small = ns.small;
              start_is = ns.start_is;
              few_names = omega (arith, ns.few);
              quotable_are = ns.quotable_are;
              different_are = ns.different_are;
              few_sets = g.few_sets;
              formed_is = s.rows_is.formed_is;
              count_is = omega (arith, i, lt-false (length rs + 1) h.states t, s.rows_is.more_is);
              rows_are = row_lawful h f rs r s e;
            })

    step : (eqb (length r) (2 ^ length h.names) ≡ true) ⊎ (eqb (length r) (2 ^ length h.names) ≡ false)
        → Memᴰ c (cond (eqb (length r) (2 ^ length h.names)) (cond (ltb (length rs + 1) h.states) (on w.State (state_number h f (rs ++ (r ∷ []))) ∷ []) (on w.End (finished (document_of h f (rs ++ (r ∷ [])))) ∷ [])) []) → Sound c.next
    step (inl t) n = later (eqb≡ (length r) (2 ^ length h.names) t) (test (ltb (length rs + 1) h.states)) (rw t at n)
    step (inr t) n = absurd (Memᴰ.not-nil (rw t at n))

below_parts : (some : Bool) (k n : ℕ) (g : ℕ → At) → takes (below some k g) n ≡ true → (n < k) × ((not some || ltb 0 n) ≡ true)
unfolding takes
below_parts some k n g h =
    (lt-true n k (and_r (ltb n 2147483648) (ltb n k) (and_l (ltb n 2147483648 && ltb n k) (not some || ltb 0 n) h)), and_r (ltb n 2147483648 && ltb n k) (not some || ltb 0 n) h)

plain-lawful : (states sets t : ℕ) → t < states → lawful_edge states sets (plain t) ≡ true
unfolding lawful_edge
plain-lawful states sets t l = both (ltb t states) true (lt_yes t states l) refl

lt_of_ne : (a b : ℕ) → a ≤ b → a ≢ b → a + 1 ≤ b
lt_of_ne a b l n = step (test (ltb a b))
  where
    step : (ltb a b ≡ true) ⊎ (ltb a b ≡ false) → a + 1 ≤ b
    step (inl t) = omega (arith, lt-true a b t)
    step (inr f) = absurd (n (omega (arith, lt-false a b f)))

edge-sound : (h : Head) (f : Formula) (rs : List (List Edge)) (r : List Edge) (n : ℕ) (s : At) → SoundRow h f rs r → takes (edge_next h f rs r) n ≡ true → Sound (numbered (edge_next h f rs r) n s)
unfolding edge_next row_over takes numbered
edge-sound h f rs r n s x t = step (test (eqb (length r) (2 ^ length h.names))) t
  where
    on-it : length r ≢ 2 ^ length h.names → takes (below false h.states (target h f rs r)) n ≡ true → Sound (target h f rs r n)
    on-it ne t =
        let p = below_parts false h.states n (target h f rs r) t in
        record {
          rows_is = x.rows_is;
          edges_are = all_snoc (lawful_edge h.states h.sets) r (plain n) x.edges_are (plain-lawful h.states h.sets n p.0);
          short = simp length-append (lt_of_ne (length r) (2 ^ length h.names) x.short ne);
        }

    step : (eqb (length r) (2 ^ length h.names) ≡ true) ⊎ (eqb (length r) (2 ^ length h.names) ≡ false)
        → takes (cond (eqb (length r) (2 ^ length h.names)) no_number (below false h.states (target h f rs r))) n ≡ true → Sound (numbered (cond (eqb (length r) (2 ^ length h.names)) no_number (below false h.states (target h f rs r))) n s)
    step (inl q) t = absurd (false≢true (rw q at t))
    step (inr q) t = rw q (on-it (λ e. true≢false (sym (≡eqb (length r) (2 ^ length h.names) e) ∙ q)) (rw q at t))

-- ---- each step keeps it
only_next : {x : Word} {a : At} {c : Choice At} → Memᴰ c (on x a ∷ []) → Sound a → Sound c.next
only_next {a = a} {c = c} (Memᴰ.tail x6) s = elim x6 [ ]
only_next (Memᴰ.head e) s = subst (λ (y : Choice At). Sound y.next) (sym e) s

head-next : {c e : Choice At} → c ≡ e → Sound e.next → Sound c.next
head-next q s = subst (λ (y : Choice At). Sound y.next) (sym q) s

marks-sound : (h : Head) (hs : List Hole) (o : Hole) (c : Choice At) → SoundPlace h hs o → Memᴰ c (marks_next h hs o) → Sound c.next
unfolding marks_next
marks-sound h hs o c s m = step (test (ltb 0 h.sets)) m
  where
    both-marks : 0 < h.sets → Memᴰ c (on w.Inf (opening h hs o true) ∷ on w.Fin (opening h hs o false) ∷ []) → Sound c.next
    both-marks p (Memᴰ.head e) = head-next e (s, p)
    both-marks p (Memᴰ.tail (Memᴰ.tail x8)) = elim x8 [ ]
    both-marks p (Memᴰ.tail (Memᴰ.head e)) = head-next e (s, p)

    step : (ltb 0 h.sets ≡ true) ⊎ (ltb 0 h.sets ≡ false) → Memᴰ c (cond (ltb 0 h.sets) (on w.Inf (opening h hs o true) ∷ on w.Fin (opening h hs o false) ∷ []) []) → Sound c.next
    step (inl t) n = both-marks (lt-true 0 h.sets t) (rw t at n)
    step (inr f) n = no-choice (rw f at n)

mark-edge : (h : Head) (f : Formula) (rs : List (List Edge)) (r : List Edge) (a b : Edge) → lawful_edge h.states h.sets b ≡ true → SoundRow h f rs (r ++ (a ∷ [])) → SoundRow h f rs (r ++ (b ∷ []))
mark-edge h f rs r a b l s =
    let x = all-front (lawful_edge h.states h.sets) r a s.edges_are in
    let i : length (r ++ (b ∷ [])) ≡ length (r ++ (a ∷ [])) = simp length-append refl in
    record { rows_is = s.rows_is; edges_are = all_snoc (lawful_edge h.states h.sets) r b x.0 l; short = omega (arith, i, s.short) }

last-edge : (h : Head) (f : Formula) (rs : List (List Edge)) (r : List Edge) (a : Edge) → SoundRow h f rs (r ++ (a ∷ [])) → lawful_edge h.states h.sets a ≡ true
last-edge h f rs r a s = (all-front (lawful_edge h.states h.sets) r a s.edges_are).1

more-mark : (n k t m : ℕ) (ms : List ℕ) → m < k → lawful_edge n k (marked t ms) ≡ true → lawful_edge n k (marked t (ms ++ (m ∷ []))) ≡ true
unfolding lawful_edge
more-mark n k t m ms l h =
    let a : Bool = ltb t n in
    both a (all (λ m. ltb m k) (ms ++ (m ∷ []))) (and_l a (all (λ m. ltb m k) ms) h) (all_snoc (λ m. ltb m k) ms m (and_r a (all (λ m. ltb m k) ms) h) (lt_yes m k l))

no-marks : (n k t : ℕ) → lawful_edge n k (plain t) ≡ true → lawful_edge n k (marked t []) ≡ true
unfolding lawful_edge
no-marks n k t h = h

none-different : different [] [] ≡ true
unfolding different
none-different = refl

word_keeps : (s : At) (c : Choice At) → Memᴰ c (offers s).choices → Sound s → Sound c.next
unfolding offers names_next close
word_keeps hoa c m s = only_next m s
word_keeps v1 c m s = only_next m s
word_keeps states_word c m s = only_next m s
word_keeps states_number c m s = no-choice m
word_keeps (start_word n) c m s = only_next m s
word_keeps (start_number n) c m s = no-choice m
word_keeps (ap_word n i) c m s = only_next m s
word_keeps (ap_number n i) c m s = no-choice m
word_keeps (naming n i zero ns) c m s = only_next m s
word_keeps (naming n i (suc left) ns) c m s = no-choice m
word_keeps (sets_number n i ns) c m s = no-choice m
word_keeps (operand h hs o) c (Memᴰ.head e) s = head-next e (record { head_is = s.head_is; holes_are = (s.hole_is, s.holes_are); hole_is = tt })
word_keeps (operand h hs o) c (Memᴰ.tail (Memᴰ.head e)) s =
    head-next e (s.head_is, s.holes_are, plug-sound h.sets o (truth true) s.hole_is (truth-formed h.sets true) refl refl)
word_keeps (operand h hs o) c (Memᴰ.tail (Memᴰ.tail (Memᴰ.head e))) s =
    head-next e (s.head_is, s.holes_are, plug-sound h.sets o (truth false) s.hole_is (truth-formed h.sets false) refl refl)
word_keeps (operand h hs o) c (Memᴰ.tail (Memᴰ.tail (Memᴰ.tail m))) s = marks-sound h hs o c s m
word_keeps (opening h hs o b) c m s = only_next m s
word_keeps (mark h hs o b) c m s = no-choice m
word_keeps (closing h hs o b k) c m s =
    let x = marking-sound h.sets b k s.1 in
    only_next m (s.0.head_is, s.0.holes_are, plug-sound h.sets o (marking b k) s.0.hole_is x.0 x.1 x.2)
word_keeps (after h hs l) c (Memᴰ.head e) s = head-next e (record { head_is = s.0; holes_are = s.1; hole_is = and_sound h.sets l s.2 })
word_keeps (after h hs l) c (Memᴰ.tail (Memᴰ.head e)) s = head-next e (record { head_is = s.0; holes_are = s.1; hole_is = whole-sound h.sets l s.2 })
word_keeps (after h [] l) c (Memᴰ.tail (Memᴰ.tail m)) s = only_next m (s.0, whole-sound h.sets l s.2)
word_keeps (after h (o ∷ hs) l) c (Memᴰ.tail (Memᴰ.tail m)) s =
    only_next m (s.0, s.1.1, plug-sound h.sets o (group (whole l)) s.1.0 (group-formed h.sets (whole l) (whole-sound h.sets l s.2)) refl refl)
word_keeps (body h f) c m s = only_next m (record { head_is = s.0; formed_is = s.1; rows_are = refl; more_is = omega (arith, s.0.names_are.start_is) })
word_keeps (state_number h f rs) c m s = no-choice m
word_keeps (edges h f rs r) c m s = row-sound h f rs r c s m
word_keeps (target h f rs r t) c (Memᴰ.head e) s = head-next e (mark-edge h f rs r (plain t) (marked t []) (no-marks h.states h.sets t (last-edge h f rs r (plain t) s)) s)
word_keeps (target h f rs r t) c (Memᴰ.tail m) s = row-sound h f rs (r ++ (plain t ∷ [])) c s m
word_keeps (braces h f rs r t ms) c m s = only_next m s
word_keeps (finished x) c m s = no-choice m

number-keeps : (s : At) (n : ℕ) → takes (offers s).numbers n ≡ true → Sound s → Sound (numbered (offers s).numbers n s)
unfolding offers names_next takes numbered
number-keeps hoa n t s = absurd (false≢true t)
number-keeps v1 n t s = absurd (false≢true t)
number-keeps states_word n t s = absurd (false≢true t)
number-keeps states_number n t s = (lt-true 0 n (below_parts true 2147483648 n start_word t).1, (below_parts true 2147483648 n start_word t).0)
number-keeps (start_word k) n t s = absurd (false≢true t)
number-keeps (start_number k) n t s = ((below_parts false k n (ap_word k) t).0, s.1)
number-keeps (ap_word k i) n t s = absurd (false≢true t)
number-keeps (ap_number k i) n t s =
    record { small = s.1; start_is = s.0; few = omega (arith, (below_parts false 4 n (λ x. naming k i x []) t).0); quotable_are = refl; different_are = none-different }
number-keeps (naming k i zero ns) n t s = absurd (false≢true t)
number-keeps (naming k i (suc left) ns) n t s = absurd (false≢true t)
number-keeps (sets_number k i ns) n t s =
    record { head_is = record { names_are = s; few_sets = (below_parts false 33 n (λ x. operand (record { states = k; start = i; names = ns; sets = x }) [] fresh) t).0 }; holes_are = tt; hole_is = tt }
number-keeps (operand h hs o) n t s = absurd (false≢true t)
number-keeps (opening h hs o b) n t s = absurd (false≢true t)
number-keeps (mark h hs o b) n t s = (s.0, (below_parts false h.sets n (closing h hs o b) t).0)
number-keeps (closing h hs o b k) n t s = absurd (false≢true t)
number-keeps (after h hs l) n t s = absurd (false≢true t)
number-keeps (body h f) n t s = absurd (false≢true t)
number-keeps (state_number h f rs) n t s = record { rows_is = s; edges_are = refl; short = omega arith }
number-keeps (edges h f rs r) n t s = edge-sound h f rs r n (edges h f rs r) s t
number-keeps (target h f rs r k) n t s = edge-sound h f rs (r ++ (plain k ∷ [])) n (target h f rs r k) s t
number-keeps (braces h f rs r k ms) n t s =
    mark-edge h f rs r (marked k ms) (marked k (ms ++ (n ∷ []))) (more-mark h.states h.sets k n ms (below_parts false h.sets n (λ m. braces h f rs r k (ms ++ (m ∷ []))) t).0 (last-edge h f rs r (marked k ms) s)) s
number-keeps (finished x) n t s = absurd (false≢true t)

name-keeps : (s : At) (q : List ℕ) → takes_name (offers s).names ≡ true → quotable q ≡ true → is_new (offers s).names q ≡ true → Sound s → Sound (named (offers s).names q s)
unfolding offers names_next takes_name named is_new
name-keeps hoa q t a b s = absurd (false≢true t)
name-keeps v1 q t a b s = absurd (false≢true t)
name-keeps states_word q t a b s = absurd (false≢true t)
name-keeps states_number q t a b s = absurd (false≢true t)
name-keeps (start_word k) q t a b s = absurd (false≢true t)
name-keeps (start_number k) q t a b s = absurd (false≢true t)
name-keeps (ap_word k i) q t a b s = absurd (false≢true t)
name-keeps (ap_number k i) q t a b s = absurd (false≢true t)
name-keeps (naming k i zero ns) q t a b s = absurd (false≢true t)
name-keeps (naming k i (suc left) ns) q t a b s =
    let z : length (ns ++ (q ∷ [])) ≡ length ns + 1 = simp length-append refl in
    record { small = s.small; start_is = s.start_is; few = omega (arith, z, s.few); quotable_are = all_snoc quotable ns q s.quotable_are a; different_are = different-snoc [] ns q s.different_are b }
name-keeps (sets_number k i ns) q t a b s = absurd (false≢true t)
name-keeps (operand h hs o) q t a b s = absurd (false≢true t)
name-keeps (opening h hs o x) q t a b s = absurd (false≢true t)
name-keeps (mark h hs o x) q t a b s = absurd (false≢true t)
name-keeps (closing h hs o x k) q t a b s = absurd (false≢true t)
name-keeps (after h hs l) q t a b s = absurd (false≢true t)
name-keeps (body h f) q t a b s = absurd (false≢true t)
name-keeps (state_number h f rs) q t a b s = absurd (false≢true t)
name-keeps (edges h f rs r) q t a b s = absurd (false≢true t)
name-keeps (target h f rs r k) q t a b s = absurd (false≢true t)
name-keeps (braces h f rs r k ms) q t a b s = absurd (false≢true t)
name-keeps (finished x) q t a b s = absurd (false≢true t)

pub keeps : {s u : At} {t : Token} → Leads offers s t u → Sound s → Sound u
keeps {s} (by_word c m) x = word_keeps s c m x
keeps {s} (by_number n a b) x = number-keeps s n a x
keeps {s} (by_name q a b c) x = name-keeps s q a b c x

pub keeps-all : {s u : At} {ts : List Token} → Goes offers s ts u → Sound s → Sound u
keeps-all stop x = x
keeps-all (go l g) x = keeps-all g (keeps l x)
