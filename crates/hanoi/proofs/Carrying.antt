-- Behind the formula the reader keeps it: the document at the end has the formula that was read. Assumes nothing.
use Prim.Native.Nat.{ℕ, ◌+◌}
use mathlib.Core.Path.{◌≡◌, refl, sym, subst}
use mathlib.Core.Bool.{Bool, true, false, cond, false≢true}
use mathlib.Core.List.Memᴰ
use mathlib.Core.List.{List, [], ◌∷◌, ◌++◌, Memᴰ}
use lib.Dec.{ltb}
use lib.ListN.{length}
use Rattle.hanoi.specs.Texts.{Token}
use Rattle.hanoi.specs.Words as w
use Rattle.hanoi.specs.Documents.{Formula, Edge, plain, marked, Document}
use Rattle.hanoi.specs.Offers.{Choice, no_number, below, takes, takes_name, numbered, Leads, by_word, by_number, by_name, Goes, stop, go, between, run}
use Rattle.hanoi.specs.Reader.{Head, At, on, body, state_number, edges, target, braces, finished, document_of, row_over, edge_next, row_next, offers}
use Rattle.hanoi.proofs.Back.{back}

pub data Carries (f : Formula) : At → Type 0 where
  at_body : (h : Head) → Carries f (body h f)
  at_number : (h : Head) (rs : List (List Edge)) → Carries f (state_number h f rs)
  at_edges : (h : Head) (rs : List (List Edge)) (r : List Edge) → Carries f (edges h f rs r)
  at_target : (h : Head) (rs : List (List Edge)) (r : List Edge) (t : ℕ) → Carries f (target h f rs r t)
  at_braces : (h : Head) (rs : List (List Edge)) (r : List Edge) (t : ℕ) (ms : List ℕ) → Carries f (braces h f rs r t ms)
  at_end : (d : Document) → d.formula ≡ f → Carries f (finished d)

module _ (f : Formula) where
  only : {x : w.Word} {a : At} {c : Choice At} → Memᴰ c (on x a ∷ []) → Carries f a → Carries f c.next
  only {a = a} {c = c} (Memᴰ.tail x6) k = elim x6 [ ]
  only (Memᴰ.head e) k = subst (λ (y : Choice At). Carries f y.next) (sym e) k

  document-formula : (h : Head) (rs : List (List Edge)) → (document_of h f rs).formula ≡ f
  unfolding document_of
  document-formula h rs = refl

  row : (h : Head) (rs : List (List Edge)) (r : List Edge) (c : Choice At) → Memᴰ c (row_next h f rs r) → Carries f c.next
  unfolding row_next
  row h rs r c m = step (row_over h r) (ltb (length rs + 1) h.states) m
    where
      step : (x y : Bool) → Memᴰ c (cond x (cond y (on w.State (state_number h f (rs ++ (r ∷ []))) ∷ []) (on w.End (finished (document_of h f (rs ++ (r ∷ [])))) ∷ [])) []) → Carries f c.next
      step true true n = only n (at_number h (rs ++ (r ∷ [])))
      step true false n = only n (at_end (document_of h f (rs ++ (r ∷ []))) (document-formula h (rs ++ (r ∷ []))))
      step false y n = absurd (Memᴰ.not-nil n)

  edge : (h : Head) (rs : List (List Edge)) (r : List Edge) (n : ℕ) (s : At) → takes (edge_next h f rs r) n ≡ true → Carries f (numbered (edge_next h f rs r) n s)
  unfolding edge_next takes numbered
  edge h rs r n s t = step (row_over h r) t
    where
      step : (x : Bool) → takes (cond x no_number (below false h.states (target h f rs r))) n ≡ true → Carries f (numbered (cond x no_number (below false h.states (target h f rs r))) n s)
      step true t = absurd (false≢true t)
      step false t = at_target h rs r n

  word-carries : {s : At} → Carries f s → (c : Choice At) → Memᴰ c (offers s).choices → Carries f c.next
  unfolding offers
  word-carries (at_body h) c m = only m (at_number h [])
  word-carries (at_number h rs) c m = absurd (Memᴰ.not-nil m)
  word-carries (at_edges h rs r) c m = row h rs r c m
  word-carries (at_target h rs r t) c (Memᴰ.head e) = subst (λ (y : Choice At). Carries f y.next) (sym e) (at_braces h rs r t [])
  word-carries (at_target h rs r t) c (Memᴰ.tail m) = row h rs (r ++ (plain t ∷ [])) c m
  word-carries (at_braces h rs r t ms) c m = only m (at_edges h rs (r ++ (marked t ms ∷ [])))
  word-carries (at_end d e) c m = absurd (Memᴰ.not-nil m)

  number-carries : {s : At} → Carries f s → (n : ℕ) → takes (offers s).numbers n ≡ true → Carries f (numbered (offers s).numbers n s)
  unfolding offers takes numbered
  number-carries (at_body h) n t = absurd (false≢true t)
  number-carries (at_number h rs) n t = at_edges h rs []
  number-carries (at_edges h rs r) n t = edge h rs r n (edges h f rs r) t
  number-carries (at_target h rs r k) n t = edge h rs (r ++ (plain k ∷ [])) n (target h f rs r k) t
  number-carries (at_braces h rs r k ms) n t = at_braces h rs r k (ms ++ (n ∷ []))
  number-carries (at_end d e) n t = absurd (false≢true t)

  no_names : {s : At} → Carries f s → takes_name (offers s).names ≡ true → ⊥
  unfolding offers takes_name
  no_names (at_body h) t = false≢true t
  no_names (at_number h rs) t = false≢true t
  no_names (at_edges h rs r) t = false≢true t
  no_names (at_target h rs r k) t = false≢true t
  no_names (at_braces h rs r k ms) t = false≢true t
  no_names (at_end d e) t = false≢true t

  carries : {s u : At} {t : Token} → Leads offers s t u → Carries f s → Carries f u
  carries (by_word c m) k = word-carries k c m
  carries (by_number n t e) k = number-carries k n t
  carries (by_name q t a b) k = absurd (no_names k t)

  carries-all : {s u : At} {ts : List Token} → Goes offers s ts u → Carries f s → Carries f u
  carries-all stop k = k
  carries-all (go l g) k = carries-all g (carries l k)

  ended : (d : Document) → Carries f (finished d) → d.formula ≡ f
  ended d (at_end _ e) = e

  pub formula-kept : (bs : List ℕ) (b bar : Bool) (h : Head) (d : Document) → run offers (between b (body h f)) bs ≡ between bar (finished d) → d.formula ≡ f
  formula-kept bs b bar h d e = ended d (carries-all (back offers bar (finished d) bs (between b (body h f)) e).goes (at_body h))
