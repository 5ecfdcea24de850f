-- Laws of reading a mark in its parentheses. Assumes nothing.
use Prim.Native.Nat.{ℕ, ◌≤◌}
use mathlib.Core.Path.{◌≡◌, refl, ap, subst}
use mathlib.Core.Bool.{Bool, true, false}
use mathlib.Core.List.{List, [], ◌∷◌}
use lib.ListN.{length}
use Rattle.std.specs.Prelude.{Result, Ok, Err}
use Rattle.lists.proofs.Bools.{lt-true}
use Rattle.hanoi.specs.Words as w
use Rattle.hanoi.specs.Offers.{no_name, below, between, word_on}
use Rattle.hanoi.specs.Reader.{Head, Hole, fresh, offers, offer, opening, mark, closing, after, plug, marking}
use Rattle.hanoi_tokens.specs.declared.Stop.{Stop}
use Rattle.hanoi_tokens.specs.declared.Number.{Number}
use Rattle.hanoi_tokens.specs.declared.Wanted.TheVariants.{Below}
use Rattle.hanoi_tokens.specs.Moves.{Moves, ReadsTo, Reads}
use Rattle.hanoi_tokens.specs.Tokens.{Spells, ReadsWord, ReadsNumber, numbers_for}
use Rattle.hanoi_tokens.proofs.Moves.{moves-reads}
use Rattle.hanoi_formula.specs.declared.Mark.{Mark}
use Rattle.hanoi_formula.specs.Formula.{ReadsMark, ReadsMarked}

-- a mark may come
marks_are : (h : Head) (hs : List Hole) (o : Hole) (b : Bool) (sets : ℕ) → h.sets ≡ sets → offers (mark h hs o b) ≡ offer [] (numbers_for (Below sets) (closing h hs o b)) no_name
unfolding offers numbers_for
marks_are h hs o b sets e = ap (λ (k : ℕ). offer [] (below false k (closing h hs o b)) no_name) e

module _ (text : List ℕ) (m sets : ℕ) where
  pub unopened : (e : Stop) → ReadsWord text m true (40 ∷ []) (Err e) → ReadsMark text m sets (Err e)
  unfolding offers
  unopened e k = record { reads = λ h hs o b q. k (opening h hs o b) (mark h hs o b) w.Opens refl refl (λ x. refl); below = tt }

  module _ (a : ℕ) (k : ReadsWord text m true (40 ∷ []) (Ok a)) where
    opened : (h : Head) (hs : List Hole) (o : Hole) (b : Bool) → Moves text m (between true (opening h hs o b)) a (between false (mark h hs o b))
    unfolding offers
    opened h hs o b = k (opening h hs o b) (mark h hs o b) w.Opens refl refl (λ x. refl)

    pub opened-within : a ≤ length text
    opened-within = (opened (record { states = 0; start = 0; names = []; sets = sets }) [] fresh true).within

    numbered : (n : Result Number Stop) → ReadsNumber text a (Below sets) n → (h : Head) (hs : List Hole) (o : Hole) (b : Bool) → h.sets ≡ sets
        → ReadsTo text m (between true (opening h hs o b)) n (λ x. x.at) (λ x. between false (closing h hs o b x.value))
    numbered n l h hs o b e = moves-reads text n (λ (x : Number). x.at) (λ (x : Number). between false (closing h hs o b x.value)) (opened h hs o b) (l.reads (mark h hs o b) (closing h hs o b) (marks_are h hs o b sets e) (λ x. refl))

    pub unnumbered : (e : Stop) → ReadsNumber text a (Below sets) (Err e) → ReadsMark text m sets (Err e)
    unnumbered e l = record { reads = numbered (Err e) l; below = tt }

    module _ (n : Number) (l : ReadsNumber text a (Below sets) (Ok n)) where
      closed : (c : Result ℕ Stop) → ReadsWord text n.at false (41 ∷ []) c → (h : Head) (hs : List Hole) (o : Hole) (b : Bool) → h.sets ≡ sets
          → Reads text m (between true (opening h hs o b)) c (between false (after h hs (plug o (marking b n.value))))
      unfolding offers
      closed c q h hs o b e =
          moves-reads text c (λ (x : ℕ). x) (λ (x : ℕ). between false (after h hs (plug o (marking b n.value)))) (numbered (Ok n) l h hs o b e) (q (closing h hs o b n.value) (after h hs (plug o (marking b n.value))) w.Closes refl refl (λ x. refl))

      pub unclosed : (e : Stop) → ReadsWord text n.at false (41 ∷ []) (Err e) → ReadsMark text m sets (Err e)
      unclosed e q = record { reads = closed (Err e) q; below = tt }

      pub marked : (c : ℕ) → ReadsWord text n.at false (41 ∷ []) (Ok c) → ReadsMark text m sets (Ok (record { at = c; mark = n.value }))
      marked c q = record { reads = closed (Ok c) q; below = lt-true n.value sets l.taken }

-- ---- behind the first letter of Inf or Fin
module _ (text : List ℕ) (m sets : ℕ) (rest : List ℕ) where
  pub unspelled : (e : Stop) → Spells text m rest (Err e) → ReadsMarked text m rest sets (Err e)
  unspelled e k = record { reads = λ x p h hs o b q. k x (opening h hs o b); below = tt }

  module _ (a : ℕ) (k : Spells text m rest (Ok a)) where
    pub spelled-within : a ≤ length text
    spelled-within = (k w.Inf (opening (record { states = 0; start = 0; names = []; sets = 0 }) [] fresh true)).within

    pub spelled-marked : (r : Result Mark Stop) → ReadsMark text a sets r → ReadsMarked text m rest sets r
    spelled-marked r l = record {
      reads =
          λ x p h hs o b e. moves-reads text r (λ (y : Mark). y.at) (λ (y : Mark). between false (after h hs (plug o (marking b y.mark))))
          (subst (λ (bar : Bool). Moves text m (word_on x rest (opening h hs o b)) a (between bar (opening h hs o b))) p (k x (opening h hs o b))) (l.reads h hs o b e);
      below = l.below;
    }
